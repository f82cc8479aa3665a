use Rattle.std.proofs.Common.{◌∙◌, ap, sym, subst, Some, false}
use Rattle.desk_http.specs.Targets.{resource_of, import_resource, report_resource}
use Rattle.desk_http.proofs.Routing.{by_route, ByRoute}
use Rattle.desk_http.proofs.route.find_routed.Goals as goal

pub behind_first-requires : goal.behind_first-requires
behind_first-requires c =
    (subst (λ o. ByRoute c.args.target.now o (resource_of c.args.target.now))
    (c.in-Some-ImportRoute.is ∙ ap Some c.in-Some-ImportRoute.field-0-is)
    (by_route c.args.target.now c.in-Ok.path.now c.find_route.result c.type_inv.target c.in-Ok.ensures.cases.0
    c.find_route.ensures)).0

pub behind_first-requires-in-Some-ReportRoute : goal.behind_first-requires-in-Some-ReportRoute
behind_first-requires-in-Some-ReportRoute c =
    (subst (λ o. ByRoute c.args.target.now o (resource_of c.args.target.now))
    (c.in-Some-ReportRoute.is ∙ ap Some c.in-Some-ReportRoute.field-0-is)
    (by_route c.args.target.now c.in-Ok.path.now c.find_route.result c.type_inv.target c.in-Ok.ensures.cases.0
    c.find_route.ensures)).0

pub returns-in-None-clause-value : goal.returns-in-None-clause-value
returns-in-None-clause-value c =
    sym (subst (λ o. ByRoute c.args.target.now o (resource_of c.args.target.now)) c.in-None.is
    (by_route c.args.target.now c.in-Ok.path.now c.find_route.result c.type_inv.target c.in-Ok.ensures.cases.0
    c.find_route.ensures))

pub returns-in-Some-RunRoute-clause-value : goal.returns-in-Some-RunRoute-clause-value
returns-in-Some-RunRoute-clause-value c =
    sym (subst (λ o. ByRoute c.args.target.now o (resource_of c.args.target.now))
    (c.in-Some-RunRoute.is ∙ ap Some c.in-Some-RunRoute.field-0-is)
    (by_route c.args.target.now c.in-Ok.path.now c.find_route.result c.type_inv.target c.in-Ok.ensures.cases.0
    c.find_route.ensures))

pub returns-in-Some-ImportRoute-clause-value : goal.returns-in-Some-ImportRoute-clause-value
returns-in-Some-ImportRoute-clause-value c =
    c.read_import.ensures.value ∙ ap (import_resource false) c.behind_first.ensures
    ∙ sym (subst (λ o. ByRoute c.args.target.now o (resource_of c.args.target.now))
    (c.in-Some-ImportRoute.is ∙ ap Some c.in-Some-ImportRoute.field-0-is)
    (by_route c.args.target.now c.in-Ok.path.now c.find_route.result c.type_inv.target c.in-Ok.ensures.cases.0
    c.find_route.ensures)).1

pub returns-in-Some-ReportRoute-clause-value : goal.returns-in-Some-ReportRoute-clause-value
returns-in-Some-ReportRoute-clause-value c =
    c.read_report.ensures.value ∙ ap report_resource c.behind_first-in-Some-ReportRoute.ensures
    ∙ sym (subst (λ o. ByRoute c.args.target.now o (resource_of c.args.target.now))
    (c.in-Some-ReportRoute.is ∙ ap Some c.in-Some-ReportRoute.field-0-is)
    (by_route c.args.target.now c.in-Ok.path.now c.find_route.result c.type_inv.target c.in-Ok.ensures.cases.0
    c.find_route.ensures)).1
