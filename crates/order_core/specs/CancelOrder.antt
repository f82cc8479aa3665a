-- An order is given up.
use Rattle.std.specs.Prelude.{ℕ, not, List, [], ◌∷◌}
use Rattle.word_core.specs.Checks.{Check}
use Rattle.word_core.specs.declared.refusal.Refusal.TheVariants.{NoSuch, WrongState}
use Rattle.alloc_core.specs.Allocations.{released_for}
use Rattle.alloc_core.specs.declared.purpose.Owner.TheVariants as owner
use Rattle.order_core.specs.Orders.{OrderBooks, is_no_order, is_open, order_at, with_state}
use Rattle.order_core.specs.declared.state.OrderState.TheVariants.{Cancelled}

-- its allocations go
abbrev pub cancel_order : ℕ → OrderBooks → OrderBooks
cancel_order n b = record (with_state Cancelled n b) { allocations = released_for (owner.Order n) b.allocations }

-- why it is refused, in the order of checks
abbrev pub cancel_order_checks : ℕ → OrderBooks → List Check
cancel_order_checks n b = (is_no_order n b, NoSuch) ∷ (not (is_open (order_at n b).state), WrongState) ∷ []
