use Rattle.std.proofs.Common.{sym, ◌∙◌}
use Rattle.bom_core.proofs.boms.Boms.reaches.Goals as goal

pub returns : goal.returns
returns c =
    let found = c.in_ok-seen.ensures c.args.to in
    (λ t. found.0 (sym c.is_seen.ensures ∙ t), λ w. c.is_seen.ensures ∙ found.1 w)
