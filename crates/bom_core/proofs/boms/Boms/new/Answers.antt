use Rattle.bom_core.proofs.LookUps.{numbered-empty}
use Rattle.bom_core.proofs.boms.Boms.new.Goals as goal

pub invariant_of-result : goal.invariant_of-result
invariant_of-result c =
    record { numbered = numbered-empty _ c.new.ensures.rows; numbered_before = numbered-empty _ c.new.ensures.before }
