-- An order is done.
use Rattle.std.specs.Prelude.{ℕ, ◌&&◌, ◌==◌, not, nat_lt, Bool, List, [], ◌∷◌}
use Rattle.std.specs.FinMap as table
use Rattle.std.specs.List.{list_any}
use Rattle.word_core.specs.Checks.{Check}
use Rattle.word_core.specs.declared.refusal.Refusal.TheVariants.{NoSuch, WrongState, Short}
use Rattle.order_core.specs.Orders.{OrderBooks, is_in_progress, is_no_order, order_at, with_state}
use Rattle.order_core.specs.declared.line.OrderLine.{OrderLine}
use Rattle.order_core.specs.declared.state.OrderState.TheVariants.{Complete}

abbrev pub close_order : ℕ → OrderBooks → OrderBooks
close_order n b = with_state Complete n b

-- the line is of the order, and not all of it is done
abbrev pub is_missing : ℕ → OrderLine → Bool
is_missing n l = l.order == n && nat_lt l.done l.quantity

-- why it is refused, in the order of checks
abbrev pub close_order_checks : ℕ → OrderBooks → List Check
close_order_checks n b =
    (is_no_order n b, NoSuch)
    ∷ (not (is_in_progress (order_at n b).state), WrongState)
    ∷ (list_any (is_missing n) (table.values b.lines), Short)
    ∷ []
