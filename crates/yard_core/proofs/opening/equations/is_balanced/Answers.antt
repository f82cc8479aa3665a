use Rattle.std.proofs.Common.{◌≡◌, true, false, sym, ◌∙◌}
use Rattle.yard_core.proofs.Balances.{balanced_iff}
use Rattle.yard_core.proofs.opening.equations.is_balanced.Goals as goal

pub returns-then-not-accounted : goal.returns-then-not-accounted
returns-then-not-accounted c = (
  λ no. (let e : false ≡ true = no in cc),
  λ b. let e = c.in_ok-accounted.ensures.1 ((balanced_iff _ _ c.requires).1 b).0 in
      let no : false ≡ true = sym c.if-not-accounted.true ∙ e in cc,
)

pub returns-then-not-sent : goal.returns-then-not-sent
returns-then-not-sent c = (
  λ no. (let e : false ≡ true = no in cc),
  λ b. let e = c.in_ok-sent.ensures.1 ((balanced_iff _ _ c.requires).1 b).1 in
      let no : false ≡ true = sym c.if-not-sent.true ∙ e in cc,
)

pub returns : goal.returns
returns c = (
  λ t. (balanced_iff _ _ c.requires).0 (
    c.in_ok-accounted.ensures.0 c.if-not-accounted.false,
    c.in_ok-sent.ensures.0 c.if-not-sent.false,
    c.in_ok-used.ensures.0 t,
  ),
  λ b. c.in_ok-used.ensures.1 ((balanced_iff _ _ c.requires).1 b).2,
)
