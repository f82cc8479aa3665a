use Rattle.std.proofs.Common.{◌≡◌, true, false}
use Rattle.bom_core.proofs.boms.Boms.is_acyclic.Goals as goal

pub returns-then-is_looped : goal.returns-then-is_looped
returns-then-is_looped c = (
  λ no. (let e : false ≡ true = no in cc),
  λ acyclic. absurd (acyclic c.in-Some.part (c.in_ok-is_looped.ensures.0 c.if-is_looped.true)),
)
