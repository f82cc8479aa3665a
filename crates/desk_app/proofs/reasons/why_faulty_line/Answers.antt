use Rattle.std.proofs.Common.{◌≡◌, ◌∙◌, ap, List, ℕ}
use Rattle.std.proofs.lemmas.Result.{IfOk-weaker}
use Rattle.report_core.specs.Escaped.{escaped}
use Rattle.desk_app.specs.Reasons.{fault_words, place_text}
use Rattle.desk_app.specs.declared.undone.Place.TheVariants.{Line}
use Rattle.desk_app.proofs.reasons.why_faulty_line.Goals as goal

pub returns : goal.returns
returns g c =
    let field = c.in_ok-field.field in
    let what = c.args.fault.now.what in
    IfOk-weaker c.followed.result _ _ (λ told begins. (field, c.in_ok-field.ensures, begins))
    (c.followed.ensures (escaped (fault_words (place_text (Line c.args.fault.now.line)) what field))
    (c.in_ok-text.ensures
    ∙ ap (λ (place : List ℕ). escaped (fault_words place what field)) (c.as_str.ensures.value ∙ c.in_ok-place.ensures)))
