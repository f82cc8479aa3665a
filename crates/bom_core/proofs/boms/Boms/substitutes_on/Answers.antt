use Rattle.std.specs.Prelude.{◌==◌}
use Rattle.std.proofs.Common.{rules}
use Rattle.sheet_core.proofs.SlotLemmas.{IfOk-map}
use Rattle.bom_core.specs.declared.substitute.Substitute.{Substitute}
use Rattle.bom_core.proofs.LookUps.{filed-on_line}
use Rattle.bom_core.proofs.boms.Boms.substitutes_on.Goals as goal

pub returns : goal.returns
returns c =
    IfOk-map c.select_under.result c.select_under.ensures
    (λ rows e. e (λ (s : Substitute). s.line == c.args.line) (search rules)
    (filed-on_line c.args.line _ c.on_line_key.ensures))
