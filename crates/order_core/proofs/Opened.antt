-- What tests of each row say of orders.
use Rattle.std.proofs.Common.{◌≡◌, ◌↔◌, ℕ, ◌+◌, ◌≤◌, true, refl, ◌∙◌, arith, eqb-true, eq-eqb}
use Rattle.std.specs.Prelude.{◌&&◌, ◌==◌, is_some, ◌∷◌, []}
use Rattle.std.specs.FinMap as table
use Rattle.std.proofs.lemmas.Bool.Decides.{nat_tests}
use Rattle.part_core.specs.Catalogue.{Parts, part_in}
use Rattle.sheet_core.specs.Sheet.{Table}
use Rattle.sheet_core.proofs.Conditions.{and_both, and_parts}
use Rattle.alloc_core.specs.Allocations.{allocated_for_sale_line}
use Rattle.alloc_core.specs.declared.allocation.Allocation.{Allocation}
use Rattle.alloc_core.specs.declared.purpose.Purpose.{Purpose}
use Rattle.alloc_core.specs.declared.purpose.Purpose.TheVariants.{Sale, Build}
use Rattle.alloc_core.proofs.Opened.{quantity-is}
use Rattle.order_core.specs.Orders.{OrderBooks}
use Rattle.order_core.specs.RowTests.{HasRows, has_rows, is_sound_purpose, is_sound_sale, is_within}
use Rattle.order_core.specs.Sound.{IsSoundPurpose, IsSoundSale}
use Rattle.order_core.specs.declared.line.OrderLine.{OrderLine}
use Rattle.order_core.specs.declared.order.Order.{Order}

pub has_rows-is : (parts : Parts) (orders : Table Order) (l : OrderLine)
    → (has_rows parts orders l ≡ true) ↔ HasRows parts orders l
has_rows-is parts orders l = (
  λ e.
      let first = and_parts (is_some (table.get orders (l.order ∷ []))) _ e in
      let second = and_parts (is_some (part_in l.part parts)) _ first.1 in
      let range = (quantity-is l.quantity).0 second.1 in
      record { order = first.0; part = second.0; some = range.0; fits = range.1 },
  λ h. and_both _ _ h.order (and_both _ _ h.part ((quantity-is l.quantity).1 (h.some, h.fits))),
)

pub within-is : (t : Table Allocation) (l : OrderLine)
    → (is_within t l ≡ true) ↔ (l.done + allocated_for_sale_line l.number t ≤ l.quantity)
within-is t l = (λ e. grind (arith, nat_tests, e), λ h. grind (arith, nat_tests, h))

pub sale-is : (b : OrderBooks) (item order line : ℕ)
    → (is_sound_sale b.orders b.lines b.books.stock item order line ≡ true) ↔ IsSoundSale b item order line
sale-is b item order line = (
  λ e.
      let one = and_parts (is_some (table.get b.lines (line ∷ []))) _ e in
      let two = and_parts _ _ one.1 in
      let three = and_parts _ _ two.1 in
      let four = and_parts _ _ three.1 in
      record {
        sale = two.0;
        in_progress = three.0;
        there = one.0;
        of_order = eqb-true _ _ four.0;
        fits = eqb-true _ _ four.1;
      },
  λ h. and_both _ _ h.there
      (and_both _ _ h.sale (and_both _ _ h.in_progress (and_both _ _ (eq-eqb _ _ h.of_order) (eq-eqb _ _ h.fits)))),
)

pub purpose-is : (b : OrderBooks) (item : ℕ) (p : Purpose)
    → (is_sound_purpose b.orders b.lines b.books.stock item p ≡ true) ↔ IsSoundPurpose b item p
purpose-is b item (Sale order line) = sale-is b item order line
purpose-is b item (Build build line output) = (λ e. tt, λ h. refl)
