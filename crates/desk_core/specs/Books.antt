-- What the books can be relied on for, whatever was asked of them.
use Rattle.std.specs.Prelude.{◌≡◌, ◌≤◌, ◌+◌, ℕ, true, false, List, [], ◌∷◌, Option, Some, Err, IsSome, IfSome}
use Rattle.std.specs.FinMap as table
use Rattle.word_core.specs.Counter.{IsNext}
use Rattle.sheet_core.specs.Rows.{EachRow, StandRight}
use Rattle.word_core.specs.declared.refusal.Refusal.{Refusal}
use Rattle.bom_core.specs.Bills.{covers}
use Rattle.bom_core.specs.Sound.{IsOnceEach}
use Rattle.bom_core.specs.Walks.{IsAcyclic}
use Rattle.bom_core.specs.declared.line.Line.{Line}
use Rattle.forest.specs.Forest.{Balanced, is_at}
use Rattle.forest.specs.Tables.{IsTable}
use Rattle.forest.specs.declared.item.Item.{Item}
use Rattle.forest.specs.declared.place.Place.TheVariants.{In}
use Rattle.yard_core.specs.Outputs.{quantity_out}
use Rattle.yard_core.specs.Stock.{forest_and_history, item_at}
use Rattle.alloc_core.specs.Allocations.{allocated, allocated_for_line, allocated_for_sale_line}
use Rattle.alloc_core.specs.declared.allocation.Allocation.{Allocation}
use Rattle.alloc_core.specs.declared.purpose.Purpose.TheVariants.{Build as For}
use Rattle.stock_core.specs.Sound.{SerialsStandOnce}
use Rattle.build_core.specs.Builds.{build_at}
use Rattle.build_core.specs.Needs.{line_in, required, wanted_whole}
use Rattle.build_core.specs.Spent.{spent_on}
use Rattle.build_core.specs.declared.spent.Spent.{Spent}
use Rattle.desk_core.specs.Key.{is_key}
use Rattle.desk_core.specs.Machine.{State, IsSoundState, build_books_in, entries_in, run, step}
use Rattle.desk_core.specs.declared.command.Request.{Request}

-- an allocation for a line of a build: of that line no more is allocated than it needs
abbrev pub IsWithinNeed : State → Allocation → Type 0
IsWithinNeed s a =
    (build line : ℕ) (output : Option ℕ) → a.purpose ≡ For build line output
    → (row : Line) × (line_in line s.bills ≡ Some row)
    × (allocated_for_line build line output s.allocations
    ≤ required row (build_at build (build_books_in s)) output s.spent s.stock)

-- what was spent on a line of a build: in all it is no more than the line wants of the whole build
abbrev pub IsWithinWish : State → Spent → Type 0
IsWithinWish s x =
    (row : Line) × (line_in x.line s.bills ≡ Some row)
    × (spent_on x.build x.line s.spent ≤ wanted_whole row (build_at x.build (build_books_in s)))

-- what the item lies in, if it lies in an item, is there, has a serial and is one piece
abbrev pub LiesInOne : State → Item → Type 0
LiesInOne s x =
    (m : ℕ) → x.place ≡ In m
    → (holder : Item) × (table.get s.stock.items (m ∷ []) ≡ Some holder) × IsSome holder.lot.serial
    × (holder.quantity ≡ 1)

-- each substitute of the line is of a part that the line doesn't take without it
abbrev pub NeedsSubstitutes : State → Line → Type 0
NeedsSubstitutes s l =
    EachRow (λ x. x.line ≡ l.number → covers s.parts l.component l.flags.variants x.part ≡ false) s.bills.substitutes

-- each row stands under its own number, which is at least 1 and below the number that is drawn next
pub record HaveDrawnNumbers (s : State) : Type 0 where
  pub categories : StandRight (λ c. c.number) s.counter.next s.parts.categories
  pub parts : StandRight (λ p. p.number) s.counter.next s.parts.parts
  pub lines : StandRight (λ l. l.number) s.counter.next s.bills.lines
  pub substitutes : StandRight (λ x. x.number) s.counter.next s.bills.substitutes
  pub locations : StandRight (λ l. l.number) s.counter.next s.stock.locations
  pub items : StandRight (λ i. i.number) s.counter.next s.stock.items
  pub allocations : StandRight (λ a. a.number) s.counter.next s.allocations
  pub orders : StandRight (λ o. o.number) s.counter.next s.orders
  pub order_lines : StandRight (λ l. l.number) s.counter.next s.order_lines
  pub builds : StandRight (λ b. b.number) s.counter.next s.builds
  pub spent : StandRight (λ x. x.number) s.counter.next s.spent

-- Nothing is lost, nothing stands twice, and nothing is promised that isn't there.
pub record AreInOrder (s : State) : Type 0 where
  -- each item stands in one tree of the forest, once, so that the equations leave none out; no tree is deeper than 16, so
  -- no item lies in itself; and only what has a serial, and is one piece, holds others
  pub counted : IsTable (table.values s.stock.items)
  pub contents : EachRow (LiesInOne s) s.stock.items
  -- for each part, what the history records as received, found, built and returned is what lies in stock, loose or
  -- installed at any depth, with what it records as consumed, shipped and written off; what was shipped and not returned
  -- is sent, and what was consumed is used
  pub balanced : (part : ℕ) → Balanced part (forest_and_history s.stock)
  -- no item is allocated beyond its quantity, and what is allocated is at a location, in no other item
  pub allocated : (item : ℕ) → allocated item s.allocations ≤ (item_at item s.stock).quantity
  pub loose : EachRow (λ a. is_at (item_at a.item s.stock).place ≡ true) s.allocations
  -- no line of an order and none of a build is served beyond what it wants, and no build makes more than it is for
  pub ordered : EachRow (λ l. l.done + allocated_for_sale_line l.number s.allocations ≤ l.quantity) s.order_lines
  pub needed : EachRow (IsWithinNeed s) s.allocations
  pub spent : EachRow (IsWithinWish s) s.spent
  pub made : EachRow (λ b. b.done + quantity_out b.number s.stock ≤ b.quantity) s.builds
  -- no serial stands twice in a family of parts, on items that aren't gone
  pub serials : SerialsStandOnce s.parts s.stock
  -- no part contains itself
  pub acyclic : IsAcyclic s.parts s.bills
  -- no line of a bill has two substitutes of one part
  pub substitutes : IsOnceEach s.bills.substitutes
  -- each substitute of a line is of a part that the line doesn't take without it
  pub substituted : EachRow (NeedsSubstitutes s) s.bills.lines
  -- the number that is drawn next is at least 1, and at most the greatest allowed number plus 1
  pub next : IsNext s.counter.limits s.counter.next
  -- each row of a table stands under its own number, which was drawn
  pub numbers : HaveDrawnNumbers s
  -- the history is no longer than its limit
  pub entries : entries_in s ≤ s.counter.limits.entries

-- so it is in every sound state
abbrev pub SoundBooksAreInOrder : Type 0
SoundBooksAreInOrder = (s : State) → IsSoundState s → AreInOrder s

-- the key of the request, where it has one, is one
abbrev pub HasRightKey : Request → Type 0
HasRightKey r = IfSome r.key (λ key. is_key key ≡ true)

abbrev pub HaveRightKeys : List Request → Type 0
HaveRightKeys [] = Unit {0}
HaveRightKeys (r ∷ rs) = HasRightKey r × HaveRightKeys rs

-- a sound state steps to a sound state, whatever is asked for
abbrev pub StepsStaySound : Type 0
StepsStaySound = (s : State) (r : Request) → IsSoundState s → HasRightKey r → IsSoundState (step s r).0

-- and a list of requests leads to one
abbrev pub RunsStaySound : Type 0
RunsStaySound = (s : State) (rs : List Request) → IsSoundState s → HaveRightKeys rs → IsSoundState (run s rs).0

-- a refused request changes nothing, in whatever state
abbrev pub RefusalsChangeNothing : Type 0
RefusalsChangeNothing = (s : State) (r : Request) (why : Refusal) → (step s r).1 ≡ Err why → (step s r).0 ≡ s
