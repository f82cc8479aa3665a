-- The routes, as the router keeps them.
use Rattle.std.specs.Prelude.{ℕ, List, [], ◌∷◌, ◌++◌, Option, option_map, codes}
use Rattle.matchit.specs.Rows.{RowsOf, param_token}
use Rattle.matchit.specs.Router.{RouteOf}
use Rattle.matchit.specs.Seek.{first}
use Rattle.desk_http.specs.declared.route.Route.{Route}
use Rattle.desk_http.specs.declared.route.Route.TheVariants.{ImportRoute, ReportRoute, RunRoute}

abbrev pub import_row : RouteOf Route
import_row = record {
  pattern = codes "/import/" ++ param_token ∷ 47 ∷ param_token ∷ 47 ∷ param_token ∷ [];
  text = codes "/import/{kind}/{document}/{day}";
  names = (9, 13) ∷ (16, 24) ∷ (27, 30) ∷ [];
  value = ImportRoute;
}

abbrev pub report_row : RouteOf Route
report_row = record {
  pattern = codes "/report/" ++ param_token ∷ 47 ∷ param_token ∷ [];
  text = codes "/report/{name}/{number}";
  names = (9, 13) ∷ (16, 22) ∷ [];
  value = ReportRoute;
}

abbrev pub run_row : RouteOf Route
run_row = record { pattern = codes "/run"; text = codes "/run"; names = []; value = RunRoute }

abbrev pub all_routes : RowsOf (RouteOf Route)
all_routes = (import_row.pattern, import_row) ∷ (report_row.pattern, report_row) ∷ (run_row.pattern, run_row) ∷ []

-- which route the router finds for a path
abbrev pub route_of : List ℕ → Option Route
route_of path = option_map (λ r. r.value) (first all_routes path)
