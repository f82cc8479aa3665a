-- Orders stay sound beside what changes elsewhere: the stock, the allocations of others, the numbers that are drawn.
use Rattle.std.proofs.Common.{◌≡◌, ℕ, ◌+◌, ◌≤◌, Bool, true, List, [], ◌∷◌, Some, refl, sym, ap, ◌∙◌, subst, arith}
use Rattle.std.specs.Prelude.{filter, unwrap_or, ◌==◌}
use Rattle.std.specs.FinMap as table
use Rattle.part_core.specs.Catalogue.{Parts}
use Rattle.word_core.specs.Counter.{Numbering}
use Rattle.sheet_core.specs.Rows.{StayThere}
use Rattle.sheet_core.specs.Sheet.{Table}
use Rattle.sheet_core.proofs.RowLemmas.{each-empty, right-empty}
use Rattle.sheet_core.specs.TableRows.{without_rows}
use Rattle.alloc_core.specs.AllocMachine as alloc
use Rattle.alloc_core.specs.Allocations.{is_for_sale, is_for_sale_line, sum_where}
use Rattle.alloc_core.specs.NoneComes.{NoneComes}
use Rattle.alloc_core.specs.declared.purpose.Purpose.{Purpose}
use Rattle.alloc_core.specs.declared.purpose.Purpose.TheVariants.{Sale, Build}
use Rattle.alloc_core.specs.Sound.{AreSoundAllocations}
use Rattle.alloc_core.specs.declared.allocation.Allocation.{Allocation}
use Rattle.alloc_core.specs.declared.alloc_command.AllocCommand.{AllocCommand}
use Rattle.alloc_core.specs.declared.alloc_command.AllocCommand.TheVariants.{Release}
use Rattle.alloc_core.proofs.Sound.{release-is}
use Rattle.alloc_core.proofs.Sums.{sum-split}
use Rattle.sheet_core.proofs.TableRows.{get-without, values-without}
use Rattle.yard_core.specs.StockBooks.{StockBooks}
use Rattle.yard_core.specs.Stock.{no_item}
use Rattle.stock_core.specs.StockMachine.{Grows}
use Rattle.order_core.specs.Beside.{SoundBesideBuilds, beside}
use Rattle.order_core.specs.Orders.{OrderBooks}
use Rattle.order_core.specs.Sound.{AreSoundOrders, IsSoundLine, IsSoundPurpose}
use Rattle.order_core.specs.declared.line.OrderLine.{OrderLine}
use Rattle.order_core.specs.declared.order.Order.{Order}
use Rattle.order_core.proofs.Kept.{lines-drawn, lines-same, orders-drawn, part-stays, purpose-kept}

-- what a command on stock, or on builds, does to the stock
pub orders-beside : (parts : Parts) (b : OrderBooks) (c : StockBooks) → Grows b.books c
    → AreSoundAllocations b.allocations b.books → AreSoundOrders parts b → AreSoundOrders parts (record b { books = c })
orders-beside parts b c grows held sound = record {
  orders =
      orders-drawn b.books.counter.next c.counter.next b.orders grows.numbers sound.orders;
  lines =
      lines-drawn b.books.counter.next c.counter.next b.lines grows.numbers sound.lines;
  each_line =
      λ k l at. let h = sound.each_line k l at in
      record { order = h.order; part = h.part; some = h.some; fits = h.fits; needed = h.needed };
  each_sale =
      λ k a at. purpose-kept b (record b { books = c }) a.item a.purpose (λ order m is. refl) (lines-same b.lines)
      (part-stays b.books.stock c.stock grows.items a.item (held.each k a at).loose) (sound.each_sale k a at);
}

-- what a command on builds does: allocations for builds come and go, and the stock grows
module _ (parts : Parts) (b : OrderBooks) (allocations : Table Allocation) (c : StockBooks) (grows : Grows b.books c)
    (held : AreSoundAllocations b.allocations b.books)
    (none : NoneComes is_for_sale b.allocations allocations) (sound : AreSoundOrders parts b) where
  abbrev after : OrderBooks
  after = beside allocations c b

  for-sale : (line : ℕ) (p : Purpose) → is_for_sale_line line p ≡ true → is_for_sale p ≡ true
  for-sale line (Sale order l) e = refl
  for-sale line (Build build l output) e = cc

  each-sale : (k : List ℕ) (a : Allocation) → table.get allocations k ≡ Some a → (p : Purpose) → a.purpose ≡ p
      → IsSoundPurpose after a.item p
  each-sale k a at (Build build line output) is = tt
  each-sale k a at (Sale order line) is =
      let was = none.was k a at (ap is_for_sale is) in
      purpose-kept b after a.item (Sale order line) (λ o m same. refl) (lines-same b.lines)
      (part-stays b.books.stock c.stock grows.items a.item (held.each k a was).loose)
      (subst (IsSoundPurpose b a.item) is (sound.each_sale k a was))

  orders-beside_builds : AreSoundOrders parts after
  orders-beside_builds = record {
    orders =
        orders-drawn b.books.counter.next c.counter.next b.orders grows.numbers sound.orders;
    lines =
        lines-drawn b.books.counter.next c.counter.next b.lines grows.numbers sound.lines;
    each_line = λ k l at.
        let h = sound.each_line k l at in
        record {
          order = h.order;
          part = h.part;
          some = h.some;
          fits = h.fits;
          needed = omega (arith, h.needed, none.less (is_for_sale_line l.number) (for-sale l.number));
        };
    each_sale = λ k a at. each-sale k a at a.purpose refl;
  }

pub sound-beside_builds : SoundBesideBuilds
sound-beside_builds parts b allocations books held grows none sound =
    orders-beside_builds parts b allocations books grows held none sound

-- what allocations that go have of a sum, and what the others have, is what all had
pub sum-without : (mine test : Allocation → Bool) (t : Table Allocation)
    → sum_where mine (filter test (table.values t)) + sum_where mine (table.values (without_rows test t))
    ≡ sum_where mine (table.values t)
sum-without mine test t =
    ap (λ xs. sum_where mine (filter test (table.values t)) + sum_where mine xs) (values-without test t)
    ∙ sum-split mine test (table.values t)

-- some allocations go
pub orders-without : (parts : Parts) (b : OrderBooks) (test : Allocation → Bool) → AreSoundOrders parts b
    → AreSoundOrders parts (record b { allocations = without_rows test b.allocations })
orders-without parts b test sound =
    let after : OrderBooks = record b { allocations = without_rows test b.allocations } in record {
      orders = sound.orders;
      lines = sound.lines;
      each_line = λ k l at.
          let h = sound.each_line k l at in
          let mine = λ (a : Allocation). is_for_sale_line l.number a.purpose in
          record {
            order = h.order;
            part = h.part;
            some = h.some;
            fits = h.fits;
            needed = omega (arith, h.needed, sum-without mine test b.allocations);
          };
      each_sale =
          λ k a at. purpose-kept b after a.item a.purpose (λ order m is. refl) (lines-same b.lines) refl
          (sound.each_sale k a (get-without test b.allocations k a at).0);
    }

-- an allocation is released
pub orders-released : (c : AllocCommand) (parts : Parts) (b : OrderBooks) → AreSoundAllocations b.allocations b.books
    → AreSoundOrders parts b
    → AreSoundOrders parts (record b { allocations = alloc.effect c b.allocations })
orders-released (Release n) parts b held sound =
    subst (λ (t : Table Allocation). AreSoundOrders parts (record b { allocations = t }))
    (sym (release-is b.books.counter.next n b.allocations held.rows))
    (orders-without parts b (λ a. a.number == n) sound)

-- parts come, and more numbers are drawn
pub orders-later : (old new : Parts) (b : OrderBooks) (counter : Numbering) → StayThere old.parts new.parts
    → b.books.counter.next ≤ counter.next → AreSoundOrders old b
    → AreSoundOrders new (record b { books = record { stock = b.books.stock; counter = counter } })
orders-later old new b counter stay le sound =
    let after : OrderBooks = record b { books = record { stock = b.books.stock; counter = counter } } in record {
      orders = orders-drawn b.books.counter.next counter.next b.orders le sound.orders;
      lines = lines-drawn b.books.counter.next counter.next b.lines le sound.lines;
      each_line = λ k l at.
          let h = sound.each_line k l at in
          record { order = h.order; part = stay (l.part ∷ []) h.part; some = h.some; fits = h.fits; needed = h.needed };
      each_sale =
          λ k a at.
          purpose-kept b after a.item a.purpose (λ order m is. refl) (lines-same b.lines) refl (sound.each_sale k a at);
    }

-- the items stay as they are
pub orders-items : (parts : Parts) (b : OrderBooks) (c : StockBooks) → c.stock.items ≡ b.books.stock.items
    → b.books.counter.next ≤ c.counter.next → AreSoundOrders parts b
    → AreSoundOrders parts (record b { books = c })
orders-items parts b c same le sound =
    let after : OrderBooks = record b { books = c } in record {
      orders = orders-drawn b.books.counter.next c.counter.next b.orders le sound.orders;
      lines = lines-drawn b.books.counter.next c.counter.next b.lines le sound.lines;
      each_line =
          λ k l at. let h = sound.each_line k l at in
          record { order = h.order; part = h.part; some = h.some; fits = h.fits; needed = h.needed };
      each_sale = λ k a at. purpose-kept b after a.item a.purpose (λ order m is. refl) (lines-same b.lines)
          (ap (λ items. (unwrap_or (table.get items (a.item ∷ [])) no_item).part) same) (sound.each_sale k a at);
    }

-- there are none
pub orders-nothing : (parts : Parts) (books : StockBooks) → AreSoundOrders parts
    (record { orders = table.empty; lines = table.empty; allocations = table.empty; books = books })
orders-nothing parts books =
    let b : OrderBooks =
    record { orders = table.empty; lines = table.empty; allocations = table.empty; books = books } in
    record {
      orders = right-empty (λ (o : Order). o.number) books.counter.next;
      lines = right-empty (λ (l : OrderLine). l.number) books.counter.next;
      each_line = each-empty (IsSoundLine parts b);
      each_sale = each-empty (λ (a : Allocation). IsSoundPurpose b a.item a.purpose);
    }
