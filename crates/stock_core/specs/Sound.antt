-- What holds of the stock, beside the catalogue and the counter, in every state that a run reaches.
use Rattle.std.specs.Prelude.{◌≡◌, ℕ, ◌≤◌, Bool, true, List, [], ◌∷◌, Some}
use Rattle.std.specs.FinMap as table
use Rattle.part_core.specs.Catalogue.{Parts}
use Rattle.word_core.specs.Quantity.{largest}
use Rattle.sheet_core.specs.Rows.{EachRow, IsThere, StandRight}
use Rattle.forest.specs.declared.entry.Entry.{Entry}
use Rattle.forest.specs.declared.item.Item.{Item}
use Rattle.forest.specs.declared.place.Place.{Place}
use Rattle.forest.specs.declared.place.Place.TheVariants.{At, In, Output, Sent, Used, Off, Gone}
use Rattle.yard_core.specs.StockBooks.{StockBooks, entries_in}
use Rattle.yard_core.specs.SoundLocations.{AreSoundLocations}
use Rattle.yard_core.specs.Stock.{Stock, IsSound, holds_serial}

-- no serial stands twice in a family, on items that aren't gone: what was sent, used or written off keeps its own
abbrev pub SerialsStandOnce : Parts → Stock → Type 0
SerialsStandOnce parts s =
    (serial : List ℕ) (family : ℕ) (n m : ℕ) (x y : Item) → table.get s.items (n ∷ []) ≡ Some x
    → table.get s.items (m ∷ []) ≡ Some y
    → holds_serial serial family parts x ≡ true → holds_serial serial family parts y ≡ true → n ≡ m

-- which numbers are an order's and which a build's: their rows stand in crates above
pub record Owners : Type 0 where
  pub is_order : ℕ → Bool
  pub is_build : ℕ → Bool

-- no order and no build goes
pub record OwnersStay (old new : Owners) : Type 0 where
  pub orders : (n : ℕ) → old.is_order n ≡ true → new.is_order n ≡ true
  pub builds : (n : ℕ) → old.is_build n ≡ true → new.is_build n ≡ true

-- the row that a place names is there
abbrev pub IsPlace : Owners → Stock → Place → Type 0
IsPlace owners s (At l) = IsThere s.locations l
IsPlace owners s (In m) = IsThere s.items m
IsPlace owners s (Output b) = owners.is_build b ≡ true
IsPlace owners s (Sent o) = owners.is_order o ≡ true
IsPlace owners s (Used b) = owners.is_build b ≡ true
IsPlace owners s (Off reason) = Unit {0}
IsPlace owners s Gone = Unit {0}

-- the part and the place of an item are there
pub record IsSoundItem (owners : Owners) (parts : Parts) (s : Stock) (x : Item) : Type 0 where
  pub part : IsThere parts.parts x.part
  pub place : IsPlace owners s x.place

-- the item, the part and the place of an entry are there, and it is of 1 to the largest quantity
pub record IsSoundEntry (owners : Owners) (parts : Parts) (s : Stock) (e : Entry) : Type 0 where
  pub item : IsThere s.items e.note.item
  pub part : IsThere parts.parts e.note.part
  pub place : IsPlace owners s e.note.place
  pub quantity : (1 ≤ e.note.quantity) × (e.note.quantity ≤ largest)

-- what holds without a look at the catalogue
pub record AreSoundItems (b : StockBooks) : Type 0 where
  -- a sound forest, with a history that agrees with it
  pub stock : IsSound b.stock
  -- each item under its own number, which was drawn
  pub rows : StandRight (λ i. i.number) b.counter.next b.stock.items
  pub locations : AreSoundLocations b.counter.next b.stock
  -- the history is no longer than its limit
  pub within : entries_in b ≤ b.counter.limits.entries

pub record IsSoundStock (owners : Owners) (parts : Parts) (b : StockBooks) : Type 0 where
  pub items : AreSoundItems b
  pub once : SerialsStandOnce parts b.stock
  pub each_item : EachRow (IsSoundItem owners parts b.stock) b.stock.items
  pub each_entry : EachRow (IsSoundEntry owners parts b.stock) b.stock.history

-- sound stock beside some orders and builds, whichever they are: what the calls ask for
abbrev pub IsSoundStockSomehow : Parts → StockBooks → Type 0
IsSoundStockSomehow parts b = (owners : Owners) × IsSoundStock owners parts b

-- each item that was there is there, and is of the part that it was of
abbrev pub PartsStay : Stock → Stock → Type 0
PartsStay old new =
    (n : ℕ) (x : Item) → table.get old.items (n ∷ []) ≡ Some x
    → (y : Item) × (table.get new.items (n ∷ []) ≡ Some y) × (y.part ≡ x.part)
