-- The list of builds, with what each still wants.
use Rattle.std.specs.Prelude.{ℕ, ◌||◌, not, Bool, List, [], ◌∷◌, ◌++◌, map, filter, flat_map, decimal, codes}
use Rattle.std.specs.FinMap as table
use Rattle.part_core.specs.Catalogue.{part_in}
use Rattle.build_core.specs.Builds.{is_open}
use Rattle.build_core.specs.declared.build.Build.{Build}
use Rattle.build_core.specs.declared.shortage.Shortage.{Shortage}
use Rattle.build_core.specs.declared.state.BuildState.{BuildState}
use Rattle.build_core.specs.declared.state.BuildState.TheVariants.{Pending, Production, OnHold, Cancelled, Complete}
use Rattle.desk_core.specs.Machine.{State}
use Rattle.list_core.specs.Amounts.{free_amount}
use Rattle.list_core.specs.Past.{past_of}
use Rattle.list_core.specs.declared.past.Subject.TheVariants.{Builds}
use Rattle.report_core.specs.Fields.{name_of}
use Rattle.report_core.specs.Lines.{Lines}
use Rattle.report_core.specs.Shortage.{wants_of}

abbrev pub build_state_name : BuildState → List ℕ
build_state_name Pending = codes "pending"
build_state_name Production = codes "in production"
build_state_name OnHold = codes "on hold"
build_state_name Cancelled = codes "cancelled"
build_state_name Complete = codes "complete"

abbrev pub build_header : List (List ℕ)
build_header =
    codes "build" ∷ codes "part" ∷ codes "name" ∷ codes "state" ∷ codes "wanted" ∷ codes "done" ∷ codes "line"
    ∷ codes "component" ∷ codes "component name" ∷ codes "required" ∷ codes "allocated" ∷ codes "missing"
    ∷ codes "free" ∷ codes "key" ∷ codes "day" ∷ codes "last" ∷ []

-- what is said of the build itself
abbrev pub build_fields : State → Build → List (List ℕ)
build_fields s build =
    decimal build.number
    ∷ decimal build.part
    ∷ name_of (part_in build.part s.parts)
    ∷ build_state_name build.state
    ∷ decimal build.quantity
    ∷ decimal build.done
    ∷ []

-- the key of the request that made the build, the day of that key, and the last day on which an output of it was completed
abbrev pub build_past : State → Build → List (List ℕ)
build_past s build = past_of Builds s build.number

-- a line of its bill that counts: its component, by number and by name, what is required, allocated and missing, and what
-- is free of the component
abbrev pub build_line_row : State → Build → Shortage → List (List ℕ)
build_line_row s build row =
    build_fields s build
    ++ (decimal row.line
    ∷ decimal row.component
    ∷ name_of (part_in row.component s.parts)
    ∷ decimal row.required
    ∷ decimal row.allocated
    ∷ decimal row.missing
    ∷ decimal (free_amount row.component s)
    ∷ [])
    ++ build_past s build

-- a build that wants nothing
abbrev pub bare_build_row : State → Build → List (List ℕ)
bare_build_row s build =
    build_fields s build ++ ([] ∷ [] ∷ [] ∷ [] ∷ [] ∷ [] ∷ [] ∷ []) ++ build_past s build

-- the rows of a build that wants this
abbrev pub build_rows_by : State → Build → List Shortage → Lines
build_rows_by s build [] = bare_build_row s build ∷ []
build_rows_by s build (r ∷ rs) = map (build_line_row s build) (r ∷ rs)

-- a row for each line of its bill that counts, while it is open; else one for the build alone
abbrev pub build_rows : State → Build → Lines
build_rows s build = build_rows_by s build (wants_of build.number s)

-- each build, by number; if only open ones are asked for, those
abbrev pub build_list : Bool → State → Lines
build_list only_open s =
    build_header ∷ flat_map (build_rows s) (filter (λ b. not only_open || is_open b.state) (table.values s.builds))
