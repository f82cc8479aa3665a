-- Orders and their lines are read back from their columns, and no other columns are read as them.
use Rattle.std.proofs.Common.{◌≡◌, ℕ, true, List, [], Some, refl, ap, ◌∙◌}
use Rattle.std.specs.Prelude.{slice_get}
use Rattle.sheet_core.specs.Columns.{has, number_at}
use Rattle.part_core.specs.TextColumns.{row_text_at}
use Rattle.word_core.specs.Side.{all_sides, side_code, side_of}
use Rattle.word_core.specs.Text.{is_text}
use Rattle.sheet_core.specs.declared.column.Column.{Column}
use Rattle.sheet_core.specs.declared.column.Column.TheVariants.{Whole}
use Rattle.word_core.specs.declared.side.Side.{Side}
use Rattle.word_core.specs.declared.side.Side.TheVariants.{Purchase, Sale}
use Rattle.sheet_core.proofs.ColumnLemmas.{bound, code-found, has-is, number_at-is, same_columns}
use Rattle.part_core.proofs.TextColumns.{row_text_at-is}
use Rattle.order_core.specs.OrderColumns.{all_states, line_columns, order_columns, order_from}
use Rattle.order_core.specs.OrderColumns.{side_at, state_at, state_code, state_of}
use Rattle.order_core.specs.declared.line.OrderLine.{OrderLine}
use Rattle.order_core.specs.declared.order.Order.{Order}
use Rattle.order_core.specs.declared.state.OrderState.{OrderState}
use Rattle.order_core.specs.declared.state.OrderState.TheVariants.{Pending, InProgress, Complete, Cancelled}

module _ (i : ℕ) (cs : List Column) where
  side_at-is : (side : Side) → side_at i cs ≡ Some side → slice_get cs i ≡ Some (Whole (side_code side))
  side_at-is side e =
      let code = bound (number_at i cs) side_of side e in
      number_at-is i cs code.0 code.1
      ∙ ap (λ (n : ℕ). Some (Whole n)) (code-found side_code code.0 all_sides side code.2)

  state_at-is : (state : OrderState) → state_at i cs ≡ Some state → slice_get cs i ≡ Some (Whole (state_code state))
  state_at-is state e =
      let code = bound (number_at i cs) state_of state e in
      number_at-is i cs code.0 code.1
      ∙ ap (λ (n : ℕ). Some (Whole n)) (code-found state_code code.0 all_states state code.2)

pub order_told : (cs : List Column) (number : ℕ) (side : Side) (partner : List ℕ) (state : OrderState)
    → has 4 cs ≡ Some tt → number_at 0 cs ≡ Some number → side_at 1 cs ≡ Some side → row_text_at 2 cs ≡ Some partner
    → state_at 3 cs ≡ Some state
    → order_columns (record { number = number; side = side; partner = partner; state = state }) ≡ cs
order_told cs number side partner state all c0 c1 c2 c3 =
    let one : Order = record { number = number; side = side; partner = partner; state = state } in
    same_columns cs (order_columns one) (has-is 4 cs tt all) (
      number_at-is 0 cs number c0,
      (side_at-is 1 cs side c1, (row_text_at-is 2 cs partner c2, (state_at-is 3 cs state c3, tt))),
    )

side-read : (side : Side) → side_of (side_code side) ≡ Some side
side-read Purchase = refl
side-read Sale = refl

state-read : (state : OrderState) → state_of (state_code state) ≡ Some state
state-read Pending = refl
state-read InProgress = refl
state-read Complete = refl
state-read Cancelled = refl

pub order_read : (row : Order) → is_text row.partner ≡ true → order_from (order_columns row) ≡ Some row
order_read row fits = rw (side-read row.side, fits, state-read row.state) refl

pub line_told : (cs : List Column) (number order part quantity done : ℕ)
    → has 5 cs ≡ Some tt → number_at 0 cs ≡ Some number → number_at 1 cs ≡ Some order → number_at 2 cs ≡ Some part
    → number_at 3 cs ≡ Some quantity → number_at 4 cs ≡ Some done
    → line_columns (record { number = number; order = order; part = part; quantity = quantity; done = done }) ≡ cs
line_told cs number order part quantity done all c0 c1 c2 c3 c4 =
    let one : OrderLine = record { number = number; order = order; part = part; quantity = quantity; done = done } in
    same_columns cs (line_columns one) (has-is 5 cs tt all) (
      number_at-is 0 cs number c0,
      (
        number_at-is 1 cs order c1,
        (number_at-is 2 cs part c2, (number_at-is 3 cs quantity c3, (number_at-is 4 cs done c4, tt))),
      ),
    )
