use Rattle.bom_core.proofs.LookUps.{numbered-same}
use Rattle.sheet_core.proofs.FilledTables.{filled-own}
use Rattle.std.proofs.Common.{[], ◌∷◌}
use Rattle.bom_core.specs.declared.line.Line.{Line}
use Rattle.bom_core.proofs.boms.Boms.assemble.Goals as goal

pub invariant_of-result : goal.invariant_of-result
invariant_of-result c =
    let own = filled-own (λ (l : Line). l.number ∷ []) c.args.lines.items in record {
      numbered = numbered-same _ _ own c.in_ok-lines.ensures.rows;
      numbered_before = numbered-same _ _ own c.in_ok-lines.ensures.before;
    }
