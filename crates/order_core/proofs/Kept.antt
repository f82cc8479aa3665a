-- What is asked of allocations for sales holds on, where lines and items stay of their orders and parts.
use Rattle.std.proofs.Common.{◌≡◌, ℕ, ◌≤◌, true, [], ◌∷◌, Option, Some, refl, sym, ap, ◌∙◌}
use Rattle.std.specs.Prelude.{unwrap_or}
use Rattle.std.specs.FinMap as table
use Rattle.sheet_core.specs.Rows.{StandRight}
use Rattle.sheet_core.specs.Sheet.{Table}
use Rattle.sheet_core.proofs.RowLemmas.{right-later, row_there, there}
use Rattle.alloc_core.specs.declared.purpose.Purpose.{Purpose}
use Rattle.alloc_core.specs.declared.purpose.Purpose.TheVariants.{Sale, Build}
use Rattle.yard_core.specs.Stock.{Stock, item_at}
use Rattle.forest.specs.Forest.{is_at}
use Rattle.stock_core.specs.ItemTests.{part_at}
use Rattle.stock_core.specs.Sound.{PartsStay}
use Rattle.stock_core.proofs.Plain.{item_of}
use Rattle.stock_core.proofs.Taking.{there-loose}
use Rattle.word_core.specs.Side.{is_sale}
use Rattle.order_core.specs.Orders.{OrderBooks, is_in_progress, line_at, no_line, order_at}
use Rattle.order_core.specs.Sound.{IsSoundPurpose, IsSoundSale}
use Rattle.order_core.specs.declared.line.OrderLine.{OrderLine}
use Rattle.order_core.specs.declared.order.Order.{Order}

-- each line that was there is there, of its order and of its part
abbrev pub LinesStay : Table OrderLine → Table OrderLine → Type 0
LinesStay old new =
    (n : ℕ) (l : OrderLine) → table.get old (n ∷ []) ≡ Some l
    → (m : OrderLine) × (table.get new (n ∷ []) ≡ Some m) × (m.order ≡ l.order) × (m.part ≡ l.part)

pub lines-same : (t : Table OrderLine) → LinesStay t t
lines-same t n l e = (l, e, refl, refl)

abbrev pub line_of : Option OrderLine → OrderLine
line_of o = unwrap_or o no_line

-- as more numbers are drawn, orders stand under their own numbers still
pub orders-drawn : (next more : ℕ) (t : Table Order) → next ≤ more → StandRight (λ (o : Order). o.number) next t
    → StandRight (λ (o : Order). o.number) more t
orders-drawn = right-later (λ (o : Order). o.number)

-- and so do their lines
pub lines-drawn : (next more : ℕ) (t : Table OrderLine) → next ≤ more
    → StandRight (λ (l : OrderLine). l.number) next t → StandRight (λ (l : OrderLine). l.number) more t
lines-drawn = right-later (λ (l : OrderLine). l.number)

-- the part of a loose item stays
pub part-stays : (old new : Stock) → PartsStay old new → (n : ℕ) → is_at (item_at n old).place ≡ true
    → part_at n new ≡ part_at n old
part-stays old new stay n loose =
    let row = stay n (item_at n old) (there-loose n old loose) in
    ap (λ o. (item_of o).part) row.1 ∙ row.2

pub sale-kept : (b c : OrderBooks) (item order line : ℕ) → order_at order c ≡ order_at order b
    → LinesStay b.lines c.lines → part_at item c.books.stock ≡ part_at item b.books.stock
    → IsSoundSale b item order line → IsSoundSale c item order line
sale-kept b c item order line same lines part h =
    let was = row_there b.lines line h.there in
    let row = lines line was.0 was.1 in
    let now : line_at line c ≡ row.0 = ap line_of row.1 in
    let before : line_at line b ≡ was.0 = ap line_of was.1 in
    record {
      sale = ap (λ o. is_sale o.side) same ∙ h.sale;
      in_progress = ap (λ o. is_in_progress o.state) same ∙ h.in_progress;
      there = there c.lines line row.0 row.1;
      of_order = ap (λ l. l.order) now ∙ row.2 ∙ ap (λ l. l.order) (sym before) ∙ h.of_order;
      fits = part ∙ h.fits ∙ ap (λ l. l.part) before ∙ sym row.3 ∙ ap (λ l. l.part) (sym now);
    }

-- the order that a sound sale names stays as it is
pub purpose-kept : (b c : OrderBooks) (item : ℕ) (p : Purpose)
    → ((order line : ℕ) → p ≡ Sale order line → order_at order c ≡ order_at order b) → LinesStay b.lines c.lines
    → part_at item c.books.stock ≡ part_at item b.books.stock → IsSoundPurpose b item p → IsSoundPurpose c item p
purpose-kept b c item (Sale order line) same lines part h =
    sale-kept b c item order line (same order line refl) lines part h
purpose-kept b c item (Build build line output) same lines part h = tt
