use Rattle.std.proofs.Common.{ap, sym, ◌∙◌}
use Rattle.std.specs.Ordering.{nat_cmp}
use Rattle.std.specs.BTreeMap as tree
use Rattle.std.specs.List.{list_any}
use Rattle.std.specs.Prelude.{◌==◌}
use Rattle.yard_core.specs.Shares.{total_or_none}
use Rattle.yard_core.specs.declared.opening.shares.Total.{Total}
use Rattle.yard_core.proofs.Sides.{absent}
use Rattle.yard_core.proofs.opening.shares.are_even.Goals as goal

pub loop-part-init : goal.loop-part-init
loop-part-init c = λ p out.
    let keys = c.into_iter-part-iterator.ensures.into_iter_gives ∙ c.keys-part-items.ensures.rest in
    let none = absent p c.args.totals.now.entries (sym (ap (list_any (λ k. p == k)) keys) ∙ out) in
    ap (λ o. (total_or_none o).left) none ∙ sym (ap (λ o. (total_or_none o).right) none)
