use Rattle.std.proofs.Common.{◌≡◌, ℕ, false}
use Rattle.std.specs.Prelude.{◌==◌}
use Rattle.std.specs.List.{list_any}
use Rattle.std.specs.Ordering.{nat_cmp}
use Rattle.std.specs.BTreeMap as tree
use Rattle.yard_core.specs.Shares.{total_or_none}
use Rattle.yard_core.proofs.opening.shares.are_even.Given as goal

-- the sides are the same for each part that is not still to come
abbrev pub invariant-loop-part : goal.invariant-loop-part
invariant-loop-part l =
    (p : ℕ) → list_any (λ k. p == k) l.part-iterator ≡ false
    → (total_or_none (tree.get nat_cmp l.totals p)).left ≡ (total_or_none (tree.get nat_cmp l.totals p)).right
