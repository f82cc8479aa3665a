use Rattle.std.proofs.Common.{[], ◌∷◌}
use Rattle.bom_core.proofs.LookUps.{numbered-remove, numbered-same}
use Rattle.bom_core.proofs.boms.Boms.take_line.Goals as goal

pub invariant_of-self-2 : goal.invariant_of-self-2
invariant_of-self-2 c =
    record {
      numbered =
          numbered-remove c.args.self.now.lines.rows _ (c.args.line ∷ []) c.args.self.now.numbered
          c.in_ok-remove.ensures.ok;
      numbered_before =
          numbered-same c.args.self.now.lines.before _ c.args.self.now.numbered_before c.in_ok-remove.ensures.before;
    }
