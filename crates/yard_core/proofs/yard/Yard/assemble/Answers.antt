use Rattle.std.proofs.Common.{◌≡◌, true, false, is_some, refl, sym, ap, ◌∙◌}
use Rattle.yard_core.proofs.Numbering.{numbered_iff}
use Rattle.yard_core.proofs.yard.Yard.assemble.Goals as goal

pub returns-in_default-clause-numbered : goal.returns-in_default-clause-numbered
returns-in_default-clause-numbered c = (
  λ no. (let e : false ≡ true = no in cc),
  λ run. sym (ap is_some c.in_default.is)
      ∙ c.in_ok-history.ensures.numbered.1 ((numbered_iff c.args.history.items).1 run),
)

pub returns-clause-numbered : goal.returns-clause-numbered
returns-clause-numbered c = (
  λ _. (numbered_iff c.args.history.items).0 (c.in_ok-history.ensures.numbered.0 (ap is_some c.in-Some.is)),
  λ _. refl,
)
