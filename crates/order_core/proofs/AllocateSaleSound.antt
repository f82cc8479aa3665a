-- What is allocated for a sale leaves orders, allocations and stock sound.
use Rattle.std.proofs.Common.{◌≡◌, ℕ, ◌+◌, ◌≤◌, Bool, true, false, [], ◌∷◌}
use Rattle.std.proofs.Common.{Some, None, refl, ap, ◌∙◌, subst, arith, eqb-true}
use Rattle.std.specs.Prelude.{◌==◌}
use Rattle.std.specs.FinMap as table
use Rattle.std.proofs.lemmas.Bool.{ltb-false}
use Rattle.part_core.specs.Catalogue.{Parts}
use Rattle.word_core.specs.Checks.{first}
use Rattle.word_core.specs.Quantity.{largest}
use Rattle.sheet_core.specs.Rows.{EachRow, IsThere}
use Rattle.word_core.proofs.CheckLemmas.{NoneHolds, none-holds}
use Rattle.sheet_core.proofs.Conditions.{not_false, or_none}
use Rattle.sheet_core.proofs.RowLemmas.{each-insert, right-later, right-none}
use Rattle.sheet_core.proofs.Totals.{sum-insert_new}
use Rattle.forest.specs.Forest.{is_at}
use Rattle.alloc_core.specs.Allocations.{allocated_for_sale_line, amount_where}
use Rattle.alloc_core.specs.declared.allocation.Allocation.{Allocation}
use Rattle.alloc_core.proofs.Sound.{free-enough, sound-allocated}
use Rattle.alloc_core.proofs.Sums.{amount-in, amount-out}
use Rattle.yard_core.specs.StockBooks.{StockBooks}
use Rattle.yard_core.specs.Stock.{item_at}
use Rattle.stock_core.specs.ItemTests.{is_loose, is_no_item, part_at}
use Rattle.stock_core.specs.StockMachine.{Grows}
use Rattle.stock_core.proofs.Beside.{sound-later}
use Rattle.stock_core.proofs.Checked.{good-quantity, there-row}
use Rattle.order_core.specs.AllocateSale.{allocate_sale, allocate_sale_checks, sale_row}
use Rattle.word_core.specs.Side.{is_sale}
use Rattle.word_core.specs.declared.refusal.Refusal.TheVariants.{NoSuch, BadNumber, WrongState, Mismatch}
use Rattle.word_core.specs.declared.refusal.Refusal.TheVariants.{Unfit, NotLoose, Allocated, OverNeed}
use Rattle.order_core.specs.Orders.{OrderBooks, is_in_progress, is_no_line, line_at}
use Rattle.order_core.specs.Orders.{one_drawn, order_of_line, owners_beside}
use Rattle.order_core.specs.Sound.{AreSoundBooks, IsSoundLine, IsSoundPurpose}
use Rattle.order_core.specs.declared.line.OrderLine.{OrderLine}
use Rattle.order_core.specs.declared.order.Order.{Order}
use Rattle.order_core.proofs.Kept.{line_of, lines-same, purpose-kept}
use Rattle.order_core.proofs.NoneFor.{test_of}

-- one number more is drawn, and nothing else of the stock changes
pub grows-drawn : (b : StockBooks) → Grows b (one_drawn b)
grows-drawn b = record { numbers = omega arith; limits = refl; entries = omega arith; items = λ n x e. (x, e, refl) }

module _ (is_build : ℕ → Bool) (parts : Parts) (line item q : ℕ) (b : OrderBooks)
    (sound : AreSoundBooks is_build parts b) (e : first (allocate_sale_checks line item q b) ≡ None) where
  abbrev next : ℕ
  next = b.books.counter.next

  abbrev l : OrderLine
  l = line_at line b

  abbrev row : Allocation
  row = sale_row next l.order line item q

  abbrev after : OrderBooks
  after = allocate_sale line item q b

  passed : NoneHolds (allocate_sale_checks line item q b)
  passed = none-holds (allocate_sale_checks line item q b) e

  quantity : (1 ≤ q) × (q ≤ largest)
  quantity = good-quantity q (passed BadNumber)

  loose : is_at (item_at item b.books.stock).place ≡ true
  loose = not_false (is_loose item b.books.stock) (passed NotLoose)

  there : IsThere b.lines line
  there = there-row b.lines line (or_none (is_no_line line b) (is_no_item item b.books.stock) (passed NoSuch)).0

  sum : (m : ℕ) → allocated_for_sale_line m after.allocations
      ≡ amount_where (test_of m) row + allocated_for_sale_line m b.allocations
  sum m =
      sum-insert_new (amount_where (test_of m)) b.allocations (next ∷ []) row
      (right-none (λ (x : Allocation). x.number) next next b.allocations sound.allocations.rows (omega arith))

  each-line : EachRow (IsSoundLine parts after) after.lines
  each-line k x at =
      let h = sound.orders.each_line k x at in
      record {
        order = h.order;
        part = h.part;
        some = h.some;
        fits = h.fits;
        needed = go (line == x.number) refl h.needed;
      }
    where
      go : (d : Bool) → (line == x.number) ≡ d → x.done + allocated_for_sale_line x.number b.allocations ≤ x.quantity
          → x.done + allocated_for_sale_line x.number after.allocations ≤ x.quantity
      go false f needed = omega (arith, needed, sum x.number, amount-out (test_of x.number) row f)
      go true f needed =
          let same = eqb-true line x.number f in
          let under = subst (λ j. table.get b.lines j ≡ Some x) (sound.orders.lines k x at).own at in
          let is : l ≡ x = ap line_of (ap (λ j. table.get b.lines (j ∷ [])) same ∙ under) in
          let enough = ltb-false _ _ (passed OverNeed) in
          let mine = subst (λ j. l.done + allocated_for_sale_line j b.allocations + q ≤ l.quantity) same enough in
          let here =
          subst (λ (z : OrderLine). z.done + allocated_for_sale_line x.number b.allocations + q ≤ z.quantity) is mine in
          omega (arith, here, sum x.number, amount-in (test_of x.number) row f)

  new : IsSoundPurpose after row.item row.purpose
  new = record {
    sale = not_false (is_sale (order_of_line line b).side) (passed Mismatch);
    in_progress = not_false (is_in_progress (order_of_line line b).state) (passed WrongState);
    there = there;
    of_order = refl;
    fits = eqb-true _ _ (not_false (part_at item b.books.stock == l.part) (passed Unfit));
  }

  pub sound-allocate_sale : AreSoundBooks is_build parts after × Grows b.books after.books
  sound-allocate_sale = (
    record {
      stock =
          sound-later (owners_beside is_build b.orders) parts b.books after.books.counter (omega arith) refl
          sound.stock;
      allocations =
          sound-allocated b.allocations b.books sound.allocations row after.books refl refl
          sound.stock.items.locations.some refl quantity.0 quantity.1 loose
          (free-enough item q b.allocations b.books.stock (passed Allocated));
      orders = record {
        orders =
            right-later (λ (o : Order). o.number) next after.books.counter.next b.orders (omega arith)
            sound.orders.orders;
        lines =
            right-later (λ (o : OrderLine). o.number) next after.books.counter.next b.lines (omega arith)
            sound.orders.lines;
        each_line = each-line;
        each_sale = each-insert (λ a. IsSoundPurpose after a.item a.purpose) b.allocations (next ∷ []) row new
            (λ k a at. purpose-kept b after a.item a.purpose (λ order m is. refl) (lines-same b.lines) refl
            (sound.orders.each_sale k a at));
      };
    },
    grows-drawn b.books,
  )
