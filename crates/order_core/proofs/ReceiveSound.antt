-- What is received leaves orders, allocations and stock sound.
use Rattle.std.proofs.Common.{◌≡◌, ℕ, ◌+◌, Bool, true, false, [], ◌∷◌}
use Rattle.std.proofs.Common.{Some, None, refl, sym, ap, ◌∙◌, subst, arith, eqb-true}
use Rattle.std.specs.Prelude.{◌==◌}
use Rattle.std.specs.FinMap as table
use Rattle.std.proofs.lemmas.Bool.{eqb-false, ltb-false}
use Rattle.part_core.specs.Catalogue.{Parts}
use Rattle.word_core.specs.Checks.{first}
use Rattle.word_core.specs.Day.{CivilDay}
use Rattle.word_core.specs.Quantity.{is_bad_quantity}
use Rattle.word_core.proofs.CheckLemmas.{NoneHolds, none-holds}
use Rattle.sheet_core.proofs.Conditions.{or_none}
use Rattle.sheet_core.proofs.RowLemmas.{each-insert, get-insert_new, get-insert_other, right-changed}
use Rattle.sheet_core.proofs.RowLemmas.{right-later, right-number, row_there, same_digit}
use Rattle.forest.specs.declared.entry.Kind.TheVariants as kind
use Rattle.forest.specs.declared.place.Place.TheVariants.{At}
use Rattle.alloc_core.specs.Allocations.{allocated_for_sale_line}
use Rattle.yard_core.specs.Outputs.{LeavesOutputs}
use Rattle.stock_core.specs.ItemTests.{is_no_location}
use Rattle.stock_core.specs.Serials.{are_many, given}
use Rattle.stock_core.specs.Sound.{IsSoundStock, Owners}
use Rattle.stock_core.specs.StockMachine.{Grows}
use Rattle.stock_core.specs.declared.arrivals.Arrival.{Arrival}
use Rattle.stock_core.specs.declared.arrivals.NewStock.{NewStock}
use Rattle.stock_core.proofs.Checked.{good-quantity, sound-leads, there-row}
use Rattle.stock_core.proofs.FoundSound.{stage-make_new}
use Rattle.stock_core.proofs.Holding.{none_but, sound-held}
use Rattle.stock_core.proofs.Stages.{Stage}
use Rattle.stock_core.proofs.Upright.{upright-of}
use Rattle.word_core.specs.Side.{is_sale}
use Rattle.word_core.specs.declared.refusal.Refusal.TheVariants.{NoSuch, BadNumber, Mismatch}
use Rattle.word_core.specs.declared.refusal.Refusal.TheVariants.{OverNeed, SerialTaken, Full}
use Rattle.order_core.specs.Orders.{OrderBooks, is_no_line, line_at, order_at, owners_beside}
use Rattle.order_core.specs.Receive.{receive, receive_checks}
use Rattle.order_core.specs.Sound.{AreSoundBooks, IsSoundLine, IsSoundSale}
use Rattle.order_core.specs.declared.line.OrderLine.{OrderLine}
use Rattle.order_core.specs.declared.order.Order.{Order}
use Rattle.order_core.proofs.Kept.{LinesStay, line_of, part-stays, purpose-kept}
use Rattle.order_core.proofs.NoneFor.{none-for}

module _ (is_build : ℕ → Bool) (parts : Parts) (line location : ℕ) (new : NewStock) (day : CivilDay) (b : OrderBooks)
    (sound : AreSoundBooks is_build parts b)
    (e : first (receive_checks line location new day parts b) ≡ None) where
  abbrev owners : Owners
  owners = owners_beside is_build b.orders

  abbrev after : OrderBooks
  after = receive line location new day b

  passed : NoneHolds (receive_checks line location new day parts b)
  passed = none-holds (receive_checks line location new day parts b) e

  both : (is_no_line line b ≡ false) × (is_no_location location b.books.stock ≡ false)
  both = or_none (is_no_line line b) (is_no_location location b.books.stock) (passed NoSuch)

  was : (l : OrderLine) × (table.get b.lines (line ∷ []) ≡ Some l)
  was = row_there b.lines line (there-row b.lines line both.0)

  here : line_at line b ≡ was.0
  here = ap line_of was.1

  old : IsSoundLine parts b (line_at line b)
  old = subst (IsSoundLine parts b) (sym here) (sound.orders.each_line (line ∷ []) was.0 was.1)

  abbrev arrival : Arrival
  arrival = record { kind = kind.Received; place = At location; part = (line_at line b).part }

  stage : Stage owners parts none_but b.books after.books
  stage =
      stage-make_new owners parts arrival new day b.books (upright-of owners parts b.books sound.stock) tt refl
      old.part (there-row b.books.stock.locations location both.1)
      (good-quantity new.quantity (or_none (is_bad_quantity new.quantity) (given are_many new.serials) (passed BadNumber)).0)
      (passed SerialTaken)

  stock : IsSoundStock owners parts after.books × Grows b.books after.books
  stock = sound-leads owners parts b.books after.books stage.leads (passed Full)

  abbrev changed : OrderLine
  changed = record (line_at line b) { done = (line_at line b).done + new.quantity }

  own : (line_at line b).number ≡ line
  own =
      ap (λ (l : OrderLine). l.number) here
      ∙ right-number (λ (l : OrderLine). l.number) b.books.counter.next line was.0 b.lines sound.orders.lines was.1

  -- nothing is allocated for a line of a purchase
  none : (item order : ℕ) → IsSoundSale b item order line → ⊥
  none item order h =
      let clash : true ≡ false =
      sym h.sale ∙ ap (λ m. is_sale (order_at m b).side) (sym h.of_order) ∙ passed Mismatch in
      cc

  lines-stay : LinesStay b.lines after.lines
  lines-stay n l at = go (n == line) refl
    where
      go : (d : Bool) → (n == line) ≡ d
          → (m : OrderLine) × (table.get after.lines (n ∷ []) ≡ Some m) × (m.order ≡ l.order) × (m.part ≡ l.part)
      go true f =
          let same = eqb-true n line f in
          let is : line_at line b ≡ l = ap line_of (ap (λ m. table.get b.lines (m ∷ [])) (sym same) ∙ at) in (
            changed,
            ap (λ m. table.get after.lines (m ∷ [])) same ∙ get-insert_new b.lines (line ∷ []) changed,
            ap (λ (x : OrderLine). x.order) is,
            ap (λ (x : OrderLine). x.part) is,
          )
      go false f = (
        l,
        get-insert_other b.lines (line ∷ []) changed (n ∷ []) (λ same. eqb-false n line f (same_digit n line same))
            ∙ at,
        refl,
        refl,
      )

  now : IsSoundLine parts after changed
  now = record {
    order = old.order;
    part = old.part;
    some = old.some;
    fits = old.fits;
    needed = (
        let nothing = none-for b line none sound.orders.each_sale in
        let mine = subst (λ j. allocated_for_sale_line j b.allocations ≡ 0) (sym own) nothing in
        omega (arith, mine, ltb-false _ _ (passed OverNeed)));
  }

  pub leaves-receive : LeavesOutputs b.books.stock.items after.books.stock.items
  leaves-receive = stage.leaves

  pub sound-receive : AreSoundBooks is_build parts after × Grows b.books after.books
  sound-receive = (
    record {
      stock = stock.0;
      allocations = sound-held b.allocations b.books after.books sound.allocations stock.1.numbers stage.holds;
      orders = record {
        orders =
            right-later (λ (o : Order). o.number) b.books.counter.next after.books.counter.next b.orders stock.1.numbers
            sound.orders.orders;
        lines =
            right-later (λ (l : OrderLine). l.number) b.books.counter.next after.books.counter.next after.lines
            stock.1.numbers
            (right-changed (λ (l : OrderLine). l.number) b.books.counter.next line changed was.0 b.lines was.1
            (ap (λ (l : OrderLine). l.number) here) sound.orders.lines);
        each_line = each-insert (IsSoundLine parts after) b.lines (line ∷ []) changed now
            (λ k l at. let h = sound.orders.each_line k l at in
            record { order = h.order; part = h.part; some = h.some; fits = h.fits; needed = h.needed });
        each_sale = λ k a at. purpose-kept b after a.item a.purpose (λ order m is. refl) lines-stay
            (part-stays b.books.stock after.books.stock stock.1.items a.item (sound.allocations.each k a at).loose)
            (sound.orders.each_sale k a at);
      };
    },
    stock.1,
  )
