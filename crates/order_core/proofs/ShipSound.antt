-- What is shipped leaves orders, allocations and stock sound.
use Rattle.std.proofs.Common.{◌≡◌, ℕ, ◌+◌, ◌≤◌, Bool, true, not, List, [], ◌∷◌, ◌++◌}
use Rattle.std.proofs.Common.{None, refl, sym, ap, ◌∙◌, subst, arith}
use Rattle.std.specs.Prelude.{◌==◌, filter, option_map}
use Rattle.std.specs.FinMap as table
use Rattle.part_core.specs.Catalogue.{Parts}
use Rattle.word_core.specs.Checks.{first}
use Rattle.word_core.specs.Day.{CivilDay}
use Rattle.sheet_core.specs.Rows.{EachRow}
use Rattle.word_core.specs.declared.refusal.Refusal.TheVariants.{NoSuch, Full}
use Rattle.word_core.proofs.CheckLemmas.{NoneHolds, none-holds}
use Rattle.sheet_core.proofs.Conditions.{some-there, turned}
use Rattle.sheet_core.proofs.RowLemmas.{right-number}
use Rattle.forest.specs.declared.item.Item.{Item}
use Rattle.forest.specs.declared.place.Place.TheVariants.{Sent}
use Rattle.forest.specs.Forest.{row_of}
use Rattle.forest.specs.Moves.{lifted_root}
use Rattle.alloc_core.specs.Allocations.{is_for_sale_line, is_owned}
use Rattle.alloc_core.specs.declared.allocation.Allocation.{Allocation}
use Rattle.alloc_core.specs.declared.purpose.Owner.{Owner}
use Rattle.alloc_core.specs.declared.purpose.Owner.TheVariants as owner
use Rattle.alloc_core.proofs.Covers.{IsCovered, covered-of, covered-split}
use Rattle.alloc_core.proofs.Sound.{sound-served}
use Rattle.sheet_core.proofs.TableRows.{get-without}
use Rattle.yard_core.specs.StockBooks.{StockBooks}
use Rattle.yard_core.specs.Stock.{item_at, tree_of}
use Rattle.yard_core.specs.Outputs.{LeavesOutputs}
use Rattle.yard_core.proofs.Quiet.{leaves-more, leaves-none}
use Rattle.yard_core.proofs.Rows.{get-other}
use Rattle.stock_core.specs.Serving.{serve}
use Rattle.stock_core.specs.Sound.{IsSoundStock, Owners}
use Rattle.stock_core.specs.StockMachine.{Grows}
use Rattle.stock_core.specs.Steps.{take}
use Rattle.stock_core.proofs.Checked.{sound-leads}
use Rattle.stock_core.proofs.OutputsStay.{leaves-lifted, leaves-take}
use Rattle.stock_core.proofs.Serving.{GoesOn, IsServed, served-all, taken-one}
use Rattle.stock_core.proofs.Steps.{leads-sent}
use Rattle.stock_core.proofs.Taking.{IsTaken, there-loose}
use Rattle.stock_core.proofs.Upright.{Upright, upright-of}
use Rattle.order_core.specs.Orders.{OrderBooks, owners_beside}
use Rattle.order_core.specs.Ship.{delivered, sale_rows, sent_for, ship, ship_checks}
use Rattle.order_core.specs.Sound.{AreSoundBooks, AreSoundOrders, IsSoundLine}
use Rattle.order_core.specs.declared.line.OrderLine.{OrderLine}
use Rattle.order_core.proofs.Kept.{LinesStay, lines-drawn, orders-drawn, part-stays, purpose-kept}
use Rattle.order_core.proofs.Beside.{sum-without}
use Rattle.sheet_core.proofs.Mapped.{get-mapped, right-mapped, row-mapped}

-- an item that was taken goes to the customer
pub sent-on : (owners : Owners) (parts : Parts) (n q order : ℕ) (day : CivilDay) (b : StockBooks) (t : StockBooks × ℕ)
    → owners.is_order order ≡ true → IsTaken owners parts n q b t
    → GoesOn owners parts t (sent_for order day t)
sent-on owners parts n q order day b t is_order taken =
    let s = t.0.stock in
    let up = taken.leads.upright in
    let there = there-loose t.1 s taken.loose in
    record {
      leads = leads-sent owners parts t.0 up t.1 there day taken.loose order is_order;
      others = λ k other.
          let own : (item_at t.1 s).number ≡ t.1 =
          right-number (λ (i : Item). i.number) t.0.counter.next t.1 (item_at t.1 s) s.items up.rows there in
          get-other (item_at t.1 s).number k (row_of (lifted_root (Sent order) (tree_of t.1 s))) s.items
          (ap (λ j. j == k) own ∙ turned k t.1 other);
    }

module _ (is_build : ℕ → Bool) (parts : Parts) (n : ℕ) (day : CivilDay) (b : OrderBooks)
    (sound : AreSoundBooks is_build parts b) (e : first (ship_checks n day b) ≡ None) where
  abbrev owners : Owners
  owners = owners_beside is_build b.orders

  abbrev after : OrderBooks
  after = ship n day b

  abbrev own : Owner
  own = owner.Order n

  abbrev all : List Allocation
  all = table.values b.allocations

  -- the allocations that are not the order's
  abbrev rest : List Allocation
  rest = filter (λ a. not (is_owned own a)) all

  passed : NoneHolds (ship_checks n day b)
  passed = none-holds (ship_checks n day b) e

  is_order : owners.is_order n ≡ true
  is_order = some-there (table.get b.orders (n ∷ [])) (passed NoSuch)

  up : Upright owners parts b.books
  up = upright-of owners parts b.books sound.stock

  -- outputs are as they were at first
  abbrev Quiet : List Allocation → StockBooks → Type 0
  Quiet xs c = LeavesOutputs b.books.stock.items c.stock.items

  one : (a : Allocation) (xs : List Allocation) (c : StockBooks) → Upright owners parts c
      → IsCovered c.stock (a ∷ (xs ++ rest)) → Quiet (a ∷ xs) c
      → GoesOn owners parts (take a.item a.quantity day c) (serve (sent_for n day) day a c)
      × Quiet xs (serve (sent_for n day) day a c)
  one a xs c upright covered quiet =
      let t = take a.item a.quantity day c in
      let taken = taken-one owners parts day (sent_for n day) a (xs ++ rest) c upright covered in
      let on = sent_for n day t in
      let away = leaves-lifted t.1 t.0.stock taken.leads.upright.stock day taken.loose (Sent n) refl in
      let cut = leaves-take a.item a.quantity day c upright.rows covered.each.0.loose in (
        sent-on owners parts a.item a.quantity n day c t is_order taken,
        leaves-more b.books.stock.items c.stock.items on.stock.items quiet
            (leaves-more c.stock.items t.0.stock.items on.stock.items cut away),
      )

  all-served : IsServed owners parts b.books after.books rest × Quiet [] after.books
  all-served =
      served-all owners parts day (sent_for n day) rest Quiet one (sale_rows n b) b.books up
      (covered-split b.books.stock (is_owned own) all (covered-of b.allocations b.books sound.allocations))
      (leaves-none b.books.stock.items)

  pub served : IsServed owners parts b.books after.books rest
  served = all-served.0

  pub leaves-ship : LeavesOutputs b.books.stock.items after.books.stock.items
  leaves-ship = all-served.1

  stock : IsSoundStock owners parts after.books × Grows b.books after.books
  stock = sound-leads owners parts b.books after.books served.leads (passed Full)

  lines-stay : LinesStay b.lines after.lines
  lines-stay m l at = (
    delivered (sale_rows n b) l,
    get-mapped (delivered (sale_rows n b)) b.lines (m ∷ []) ∙ ap (option_map (delivered (sale_rows n b))) at,
    refl,
    refl,
  )

  each-line : EachRow (IsSoundLine parts after) after.lines
  each-line k x at =
      let was = row-mapped (delivered (sale_rows n b)) b.lines k x at in
      let l = was.0 in
      let h = sound.orders.each_line k l was.1 in
      let test = λ (a : Allocation). is_for_sale_line l.number a.purpose in
      let now : IsSoundLine parts after (delivered (sale_rows n b) l) = record {
        order = h.order;
        part = h.part;
        some = h.some;
        fits = h.fits;
        needed = omega (arith, h.needed, sum-without test (is_owned own) b.allocations);
      } in
      subst (IsSoundLine parts after) (sym was.2) now

  orders : AreSoundOrders parts after
  orders = record {
    orders =
        orders-drawn b.books.counter.next after.books.counter.next b.orders stock.1.numbers sound.orders.orders;
    lines = lines-drawn b.books.counter.next after.books.counter.next after.lines stock.1.numbers
        (right-mapped (delivered (sale_rows n b)) (λ (l : OrderLine). l.number) (λ l. refl) b.books.counter.next b.lines
        sound.orders.lines);
    each_line = each-line;
    each_sale = λ k a at.
        let was = (get-without (is_owned own) b.allocations k a at).0 in
        let loose = (sound.allocations.each k a was).loose in
        purpose-kept b after a.item a.purpose (λ order line is. refl) lines-stay
        (part-stays b.books.stock after.books.stock stock.1.items a.item loose) (sound.orders.each_sale k a was);
  }

  pub sound-ship : AreSoundBooks is_build parts after × Grows b.books after.books
  sound-ship = (
    record {
      stock = stock.0;
      allocations = sound-served own b.allocations b.books after.books sound.allocations stock.1.numbers served.covered;
      orders = orders;
    },
    stock.1,
  )
