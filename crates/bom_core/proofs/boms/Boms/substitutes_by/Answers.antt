use Rattle.std.specs.Prelude.{◌==◌}
use Rattle.std.proofs.Common.{rules}
use Rattle.sheet_core.proofs.SlotLemmas.{IfOk-map}
use Rattle.bom_core.specs.declared.substitute.Substitute.{Substitute}
use Rattle.bom_core.proofs.LookUps.{filed-of_part}
use Rattle.bom_core.proofs.boms.Boms.substitutes_by.Goals as goal

pub returns : goal.returns
returns c =
    IfOk-map c.select_under.result c.select_under.ensures
    (λ rows e. e (λ (s : Substitute). s.part == c.args.part) (search rules)
    (filed-of_part c.args.part _ c.of_part_key.ensures))
