-- A new order, and a new line of one, leave orders, allocations and stock sound.
use Rattle.std.proofs.Common.{◌≡◌, ℕ, ◌+◌, ◌≤◌, Bool, true, false, List, [], ◌∷◌}
use Rattle.std.proofs.Common.{Some, None, is_none, refl, sym, ap, ◌∙◌, arith, eqb-true}
use Rattle.std.specs.Prelude.{◌==◌, ◌||◌}
use Rattle.std.specs.FinMap as table
use Rattle.part_core.specs.Catalogue.{Parts, part_in}
use Rattle.word_core.specs.Checks.{first}
use Rattle.word_core.proofs.CheckLemmas.{none-holds}
use Rattle.sheet_core.proofs.Conditions.{or_none}
use Rattle.sheet_core.proofs.RowLemmas.{each-insert, get-insert_other, right-later, right-new}
use Rattle.sheet_core.proofs.RowLemmas.{right-none, row_there, same_digit, there-insert}
use Rattle.alloc_core.specs.declared.allocation.Allocation.{Allocation}
use Rattle.alloc_core.specs.declared.purpose.Purpose.TheVariants.{Sale}
use Rattle.alloc_core.specs.Sound.{AreSoundAllocations}
use Rattle.alloc_core.proofs.Sound.{sound-changed}
use Rattle.stock_core.specs.StockMachine.{Grows}
use Rattle.stock_core.proofs.Beside.{sound-later}
use Rattle.stock_core.proofs.Checked.{good-quantity, there-row}
use Rattle.stock_core.proofs.Owned.{sound-owned}
use Rattle.order_core.specs.NewLine.{line_row, new_line, new_line_checks}
use Rattle.order_core.specs.NewOrder.{new_order, order_row}
use Rattle.word_core.specs.Side.{is_sale}
use Rattle.order_core.specs.Orders.{OrderBooks, is_no_order, one_drawn, order_at, owners_beside}
use Rattle.order_core.specs.Sound.{AreSoundBooks, IsSoundLine, IsSoundSale}
use Rattle.order_core.specs.declared.line.OrderLine.{OrderLine}
use Rattle.order_core.specs.declared.order.Order.{Order}
use Rattle.word_core.specs.declared.side.Side.{Side}
use Rattle.word_core.specs.declared.refusal.Refusal.TheVariants.{NoSuch, BadNumber}
use Rattle.order_core.proofs.AllocateSaleSound.{grows-drawn}
use Rattle.order_core.proofs.Kept.{LinesStay, lines-same, purpose-kept}
use Rattle.order_core.proofs.NoneFor.{none-for}
use Rattle.order_core.proofs.StatesSound.{order-other, order_of, orders-stay, sale-of}

module _ (is_build : ℕ → Bool) (parts : Parts) (b : OrderBooks) (sound : AreSoundBooks is_build parts b) where
  abbrev next : ℕ
  next = b.books.counter.next

  some : 1 ≤ next
  some = sound.stock.items.locations.some

  allocations-later : AreSoundAllocations b.allocations (one_drawn b.books)
  allocations-later =
      sound-changed b.allocations b.books sound.allocations (one_drawn b.books) (omega arith)
      (λ n loose more. (loose, sound.allocations.within n))

  -- ---- an order

  module _ (side : Side) (partner : List ℕ) where
    abbrev ordered : OrderBooks
    ordered = new_order side partner b

    no_order_yet : table.get b.orders (next ∷ []) ≡ None
    no_order_yet = right-none (λ (o : Order). o.number) next next b.orders sound.orders.orders (omega arith)

    -- a sale that is there has another number
    other : (k : List ℕ) (a : Allocation) (order line : ℕ) → table.get b.allocations k ≡ Some a
        → a.purpose ≡ Sale order line → (order == next) ≡ false
    other k a order line at is = go (order == next) refl
      where
        go : (d : Bool) → (order == next) ≡ d → d ≡ false
        go false e = refl
        go true e =
            let h = sale-of b a.item order line a.purpose is (sound.orders.each_sale k a at) in
            let none : is_sale (order_at order b).side ≡ false =
            ap (λ m. is_sale (order_at m b).side) (eqb-true order next e)
            ∙ ap (λ o. is_sale (order_of o).side) no_order_yet in
            let clash : true ≡ false = sym h.sale ∙ none in
            cc

    pub sound-order : AreSoundBooks is_build parts ordered × Grows b.books ordered.books
    sound-order = (
      record {
        stock =
            sound-later (owners_beside is_build ordered.orders) parts b.books ordered.books.counter (omega arith) refl
            (sound-owned (owners_beside is_build b.orders) (owners_beside is_build ordered.orders) parts b.books
            (orders-stay is_build b.orders next (order_row next side partner)) sound.stock);
        allocations = allocations-later;
        orders = record {
          orders =
              right-new (λ (o : Order). o.number) next (order_row next side partner) b.orders refl some
              sound.orders.orders;
          lines =
              right-later (λ (l : OrderLine). l.number) next ordered.books.counter.next b.lines (omega arith)
              sound.orders.lines;
          each_line = λ k l at.
              let h = sound.orders.each_line k l at in
              record {
                order = there-insert b.orders (next ∷ []) (order_row next side partner) l.order h.order;
                part = h.part;
                some = h.some;
                fits = h.fits;
                needed = h.needed;
              };
          each_sale =
              λ k a at. purpose-kept b ordered a.item a.purpose
              (λ order line is.
              ap order_of (order-other b.orders next order (order_row next side partner) (other k a order line at is)))
              (lines-same b.lines) refl (sound.orders.each_sale k a at);
        };
      },
      grows-drawn b.books,
    )

  -- ---- a line

  module _ (order part q : ℕ) (e : first (new_line_checks order part q parts b) ≡ None) where
    abbrev lined : OrderBooks
    lined = new_line order part q b

    abbrev row : OrderLine
    row = line_row next order part q

    no_line_yet : table.get b.lines (next ∷ []) ≡ None
    no_line_yet = right-none (λ (l : OrderLine). l.number) next next b.lines sound.orders.lines (omega arith)

    lines-stay : LinesStay b.lines lined.lines
    lines-stay n l at = (
      l,
      get-insert_other b.lines (next ∷ []) row (n ∷ []) (λ same. new n l at (same_digit n next same)) ∙ at,
      refl,
      refl,
    )
      where
        new : (n : ℕ) (l : OrderLine) → table.get b.lines (n ∷ []) ≡ Some l → n ≡ next → ⊥
        new n l at same =
            let clash : None ≡ Some l = sym no_line_yet ∙ ap (λ m. table.get b.lines (m ∷ [])) (sym same) ∙ at in cc

    none : (item o : ℕ) → IsSoundSale b item o next → ⊥
    none item o h =
        let was = row_there b.lines next h.there in
        let clash : None ≡ Some was.0 = sym no_line_yet ∙ was.1 in cc

    pub sound-line : AreSoundBooks is_build parts lined × Grows b.books lined.books
    sound-line =
        let passed = none-holds (new_line_checks order part q parts b) e in
        let there = or_none (is_no_order order b) (is_none (part_in part parts)) (passed NoSuch) in
        let quantity = good-quantity q (passed BadNumber) in
        let new : IsSoundLine parts lined row = record {
          order = there-row b.orders order there.0;
          part = there-row parts.parts part there.1;
          some = quantity.0;
          fits = quantity.1;
          needed = omega (arith, none-for b next none sound.orders.each_sale);
        } in (
          record {
            stock =
                sound-later (owners_beside is_build b.orders) parts b.books lined.books.counter (omega arith) refl
                sound.stock;
            allocations = allocations-later;
            orders = record {
              orders =
                  right-later (λ (o : Order). o.number) next lined.books.counter.next b.orders (omega arith)
                  sound.orders.orders;
              lines = right-new (λ (l : OrderLine). l.number) next row b.lines refl some sound.orders.lines;
              each_line = each-insert (IsSoundLine parts lined) b.lines (next ∷ []) row new
                  (λ k l at. let h = sound.orders.each_line k l at in
                  record { order = h.order; part = h.part; some = h.some; fits = h.fits; needed = h.needed });
              each_sale =
                  λ k a at. purpose-kept b lined a.item a.purpose (λ o line is. refl) lines-stay refl
                  (sound.orders.each_sale k a at);
            };
          },
          grows-drawn b.books,
        )
