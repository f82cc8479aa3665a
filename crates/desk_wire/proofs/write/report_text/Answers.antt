use Rattle.std.proofs.Common.{◌++◌, ◌∷◌, [], ap, ◌∙◌}
use Rattle.serde_json.specs.Written.{compact_text, has_float}
use Rattle.sheet_core.proofs.SlotLemmas.{IfOk-map}
use Rattle.desk_wire.specs.Writing.{report_object}
use Rattle.desk_wire.proofs.Spelled.{no_float}
use Rattle.desk_wire.proofs.write.report_text.Goals as goal

pub returns : goal.returns
returns c =
    let same = c.in_ok-value.ensures in
    IfOk-map c.value_text.result c.value_text.ensures
    (λ text e.
    e (ap has_float same ∙ no_float c.args.report.now) ∙ ap (λ d. compact_text (report_object d) ++ 10 ∷ []) same)
