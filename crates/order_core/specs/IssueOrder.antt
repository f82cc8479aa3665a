-- An order is under way.
use Rattle.std.specs.Prelude.{ℕ, not, List, [], ◌∷◌}
use Rattle.word_core.specs.Checks.{Check}
use Rattle.word_core.specs.declared.refusal.Refusal.TheVariants.{NoSuch, WrongState}
use Rattle.order_core.specs.Orders.{OrderBooks, is_no_order, is_pending, order_at, with_state}
use Rattle.order_core.specs.declared.state.OrderState.TheVariants.{InProgress}

abbrev pub issue_order : ℕ → OrderBooks → OrderBooks
issue_order n b = with_state InProgress n b

-- why it is refused, in the order of checks
abbrev pub issue_order_checks : ℕ → OrderBooks → List Check
issue_order_checks n b = (is_no_order n b, NoSuch) ∷ (not (is_pending (order_at n b).state), WrongState) ∷ []
