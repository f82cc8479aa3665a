use Rattle.std.proofs.Common.{◌≡◌, ◌+◌, drop}
use Rattle.std.specs.Prelude.{sum_by}
use Rattle.desk_core.specs.ShopView.{state_of}
use Rattle.list_core.specs.Trace.{output_amount}
use Rattle.list_core.proofs.walk.known_amount.Given as goal

-- what is known so far and what is left is all
abbrev pub invariant-loop-number : goal.invariant-loop-number
invariant-loop-number l =
    l.known + sum_by (output_amount (state_of l.shop) l.build) (drop l.number-index l.numbers)
    ≡ sum_by (output_amount (state_of l.shop) l.build) l.numbers
