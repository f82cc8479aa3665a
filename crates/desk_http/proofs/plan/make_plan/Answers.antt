use Rattle.std.proofs.Common.{◌≡◌, ◌∙◌, ap, sym}
use Rattle.std.specs.Prelude.{Some}
use Rattle.desk_http.specs.AccessRules.{page_fault}
use Rattle.desk_http.specs.Heads.{HeadParts, WellFormed}
use Rattle.desk_http.specs.Plans.{plan_of, planned_page}
use Rattle.desk_http.specs.Sites.{PageView, SiteRules, page_view, some_page}
use Rattle.desk_http.specs.Spans.{class_of, head_parts_at}
use Rattle.desk_http.specs.Targets.{page_at}
use Rattle.desk_http.proofs.Plain.{page_planned}
use Rattle.desk_http.proofs.plan.make_plan.Goals as goal

pub returns-in-Some-clause-value : goal.returns-in-Some-clause-value
returns-in-Some-clause-value c =
    let parts : HeadParts = head_parts_at c.args.bytes.now c.args.spans.now c.in-WellFormed.found in
    let site : SiteRules = record { access = c.site.inside.access; page = some_page c.site.inside.page } in
    let page : PageView = page_view c.in-Some.page in
    let named : Some page ≡ page_at site.page parts.target =
    sym (ap some_page c.in-Some.is) ∙ c.find_page.ensures ∙ ap (page_at site.page) c.of-target.ensures in
    c.plan_page.ensures.value
    ∙ ap (λ method. planned_page (page_fault site.access parts.fields) method page) c.of-method.ensures
    ∙ page_planned site parts page named
    ∙ ap (λ s. plan_of s (WellFormed parts)) c.site.view_is
    ∙ ap (λ head. plan_of c.args.site.now (class_of c.args.bytes.now c.args.spans.now head)) (sym c.in-WellFormed.is)
