-- After one of several new items or pieces there is room for the others.
use Rattle.std.proofs.Common.{◌≡◌, ℕ, ◌+◌, ◌-◌, ◌≤◌, ◌<◌, Bool, true, false, List, [], ◌∷◌, length}
use Rattle.std.proofs.Common.{drop, get_or, Option, Some, refl, sym, ap, ◌∙◌, subst, arith, eqb-true}
use Rattle.std.specs.Prelude.{◌==◌, IfSome, if◌then◌else◌, nat_lt, unwrap_or}
use Rattle.std.specs.FinMap as table
use Rattle.std.proofs.lemmas.Bool.{ltb-false, ltb-true}
use Rattle.std.proofs.lemmas.List.{at_drop_more}
use Rattle.word_core.specs.Counter.{Numbering, drawn, lacks}
use Rattle.word_core.specs.Day.{CivilDay}
use Rattle.sheet_core.specs.Rows.{StandRight}
use Rattle.sheet_core.proofs.RowLemmas.{right-insert, right-new, right-none, right-number}
use Rattle.forest.specs.declared.entry.Kind.{Kind}
use Rattle.forest.specs.declared.item.Item.{Item}
use Rattle.forest.specs.declared.place.Place.{Place}
use Rattle.forest.specs.Forest.{Node, is_at, row_of}
use Rattle.forest.specs.Moves.{cut_change, cut_node, leaf, make_change, with_quantity}
use Rattle.forest.specs.Moves as moves
use Rattle.forest.specs.Tables.{node_of}
use Rattle.yard_core.specs.StockBooks.{StockBooks, entries_in, is_full}
use Rattle.yard_core.specs.Stock.{Stock, item_at, no_item, tree_of, IsSound, IsThere}
use Rattle.yard_core.proofs.Moved.{moved-first}
use Rattle.stock_core.specs.declared.arrivals.Arrival.{Arrival}
use Rattle.stock_core.specs.Arrives.{HasRoom}
use Rattle.stock_core.specs.Pieces.{CanCut, IsWhole}
use Rattle.stock_core.specs.Steps.{cut_off, make_one, new_item}
use Rattle.stock_core.specs.Sound.{AreSoundItems}
use Rattle.stock_core.proofs.Able.{numbers-left, room-left}
use Rattle.stock_core.proofs.Uses.{Uses, uses-change_drawn, uses-cut_off}
use Rattle.stock_core.proofs.Plain.{left-loose}

numbers-rest : (k : ℕ) (c : Numbering) → lacks (1 + k) c ≡ false → lacks k (drawn 1 c) ≡ false
numbers-rest k c e =
    ap (λ n. nat_lt (c.limits.numbers + 1) n) (let s : c.next + 1 + k ≡ c.next + (1 + k) = omega arith in s) ∙ e

-- where several numbers are left, one is
fewer-numbers : (k : ℕ) (c : Numbering) → lacks (1 + k) c ≡ false → lacks 1 c ≡ false
fewer-numbers k c e = go (lacks 1 c) refl
  where
    go : (b : Bool) → lacks 1 c ≡ b → b ≡ false
    go true f =
        absurd (omega
        (arith, ltb-true (c.limits.numbers + 1) (c.next + 1) f, ltb-false (c.limits.numbers + 1) (c.next + (1 + k)) e))
    go false f = refl

-- an entry at most
few-made : (k : Kind) (q : Place) (n : Node) → length (make_change k q n).notes ≤ 1
few-made k q n = go (is_at q)
  where
    go : (c : Bool) → length (if c then moves.entry k n q ∷ [] else []) ≤ 1
    go true = omega arith
    go false = omega arith

-- a new item was made
pub room-made : (a : Arrival) (quantity : ℕ) (batch serial : Option (List ℕ)) (day : CivilDay) (k : ℕ)
    (b new : StockBooks) → HasRoom (1 + k) b → IsSound new.stock
    → new ≡ make_one a quantity batch serial day b → HasRoom k new
room-made a quantity batch serial day k b new room sound is = record {
  stock = sound;
  some =
      (let more : new.counter.next ≡ b.counter.next + 1 = ap (λ (s : StockBooks). s.counter.next) is in
      omega (arith, more));
  rows = subst (λ (s : StockBooks). StandRight (λ i. i.number) s.counter.next s.stock.items) (sym is)
      (right-new (λ (i : Item). i.number) b.counter.next (new_item b.counter.next a quantity batch serial) b.stock.items
      refl room.some room.rows);
  numbers = ap (λ (s : StockBooks). lacks k s.counter) is ∙ numbers-rest k b.counter room.numbers;
  entries = (
      let node = node_of (new_item b.counter.next a quantity batch serial) in
      let len = (uses-change_drawn (make_change a.kind a.place node) day b room.stock.history).len in
      let same = ap (λ (s : StockBooks). entries_in s) is in
      omega (arith, len, few-made a.kind a.place node, same, room.entries));
}

-- ---- pieces

-- the row of what is left, and of the piece
abbrev smaller : ℕ → ℕ → Stock → Item
smaller n quantity s = row_of (with_quantity ((item_at n s).quantity - quantity) (tree_of n s))

abbrev piece : ℕ → ℕ → ℕ → Option (List ℕ) → Stock → Item
piece n quantity m serial s = row_of (leaf (item_at n s).place (cut_node quantity m serial (node_of (item_at n s))))

-- a piece was cut off
pub room-cut : (n quantity : ℕ) (serial : Option (List ℕ)) (day : CivilDay) (k : ℕ) (b new : StockBooks)
    → IsThere n b.stock → HasRoom (1 + k) b → IsSound new.stock → new ≡ cut_off n quantity serial day b → HasRoom k new
room-cut n quantity serial day k b new there room sound is =
    let old = room.rows (n ∷ []) (item_at n b.stock) there in
    let rest =
    right-insert (λ (i : Item). i.number) b.counter.next (item_at n b.stock).number (smaller n quantity b.stock)
    b.stock.items refl old.some old.drawn room.rows in
    record {
      stock = sound;
      some =
          (let more : new.counter.next ≡ b.counter.next + 1 = ap (λ (s : StockBooks). s.counter.next) is in
          omega (arith, more));
      rows = subst (λ (s : StockBooks). StandRight (λ i. i.number) s.counter.next s.stock.items) (sym is)
          (right-new (λ (i : Item). i.number) b.counter.next (piece n quantity b.counter.next serial b.stock)
          (table.insert b.stock.items ((item_at n b.stock).number ∷ []) (smaller n quantity b.stock)) refl
          room.some rest);
      numbers = ap (λ (s : StockBooks). lacks k s.counter) is ∙ numbers-rest k b.counter room.numbers;
      entries =
          (let len = (uses-cut_off n quantity serial day b room.stock.history).len in
          let same = ap (λ (s : StockBooks). entries_in s) is in omega (arith, len, same, room.entries));
    }

-- what is left has a piece for each of the others
pub whole-cut : (n : ℕ) (serial : Option (List ℕ)) (day : CivilDay) (k : ℕ) (b new : StockBooks) → HasRoom (1 + k) b
    → 1 ≤ k → IsWhole n (1 + k) b → new ≡ cut_off n 1 serial day b → IsWhole n k new
whole-cut n serial day k b new room more whole is = subst (λ (s : StockBooks). IsWhole n k s) (sym is) whole-after
  where
    own : (item_at n b.stock).number ≡ n
    own = right-number (λ (i : Item). i.number) b.counter.next n (item_at n b.stock) b.stock.items room.rows whole.there

    below : n < b.counter.next
    below = (let r = room.rows (n ∷ []) (item_at n b.stock) whole.there in omega (arith, own, r.drawn))

    other : (b.counter.next == (item_at n b.stock).number) ≡ false
    other = go (b.counter.next == (item_at n b.stock).number) refl
      where
        go : (c : Bool) → (b.counter.next == (item_at n b.stock).number) ≡ c → c ≡ false
        go true e = absurd (omega (arith, eqb-true b.counter.next (item_at n b.stock).number e, own, below))
        go false e = refl

    row : table.get (cut_off n 1 serial day b).stock.items (n ∷ []) ≡ Some (smaller n 1 b.stock)
    row = ap (λ m. table.get (cut_off n 1 serial day b).stock.items (m ∷ [])) (sym own)
        ∙ moved-first (cut_change 1 b.counter.next serial (tree_of n b.stock)).notes day b.stock (smaller n 1 b.stock)
        (piece n 1 b.counter.next serial b.stock) other

    whole-after : IsWhole n k (cut_off n 1 serial day b)
    whole-after = record {
      there = row ∙ ap (λ o. Some (unwrap_or o no_item)) (sym row);
      loose =
          ap (λ o. is_at (unwrap_or o no_item).place) row ∙ left-loose ((item_at n b.stock).quantity - 1)
          (item_at n b.stock).place (omega (arith, whole.enough, more)) whole.loose;
      plain = ap (λ o. (unwrap_or o no_item).lot.serial) row ∙ whole.plain;
      enough =
          (let left : (item_at n (cut_off n 1 serial day b).stock).quantity ≡ (item_at n b.stock).quantity - 1 =
          ap (λ o. (unwrap_or o no_item).quantity) row in
          omega (arith, left, whole.enough));
    }

-- one more piece can be cut off
pub can-cut : (n : ℕ) (serial : Option (List ℕ)) (k : ℕ) (b : StockBooks) → HasRoom (1 + k) b → IsWhole n (1 + k) b
    → IfSome serial (λ _. ◌≡◌ {A = ℕ} 1 1) → CanCut n 1 serial b
can-cut n serial k b room whole one = record {
  stock = room.stock;
  item = record {
    there = whole.there;
    loose = whole.loose;
    no_serial = whole.plain;
    some = omega arith;
    enough = omega (arith, whole.enough);
    is_new = right-none (λ (i : Item). i.number) b.counter.next b.counter.next b.stock.items room.rows (omega arith);
    one = one;
  };
  number = fewer-numbers k b.counter room.numbers;
  entry = omega (arith, room.entries);
}

-- ---- turns of a loop over serials

-- a copy of the next serial, and what is left of the list
pub next-serial : (xs : List (List ℕ)) (i : ℕ) (x copy : List ℕ) → i < length xs → x ≡ get_or xs i x → copy ≡ x
    → drop i xs ≡ copy ∷ drop (i + 1) xs
next-serial xs i x copy in_list is copied =
    at_drop_more (λ l. l) xs i x in_list ∙ ap (λ y. y ∷ drop (i + 1) xs) (sym (copied ∙ is))

-- the item has a piece for each serial, if there is one
abbrev pub HasPieces : ℕ → List (List ℕ) → StockBooks → Type 0
HasPieces n [] b = Unit {0}
HasPieces n (x ∷ xs) b = IsWhole n (length (x ∷ xs)) b

pub pieces-whole : (n : ℕ) (xs : List (List ℕ)) (b : StockBooks) → IsWhole n (length xs) b → HasPieces n xs b
pieces-whole n [] b whole = tt
pieces-whole n (x ∷ xs) b whole = whole

pub whole-pieces : (n : ℕ) (x : List ℕ) (xs ys : List (List ℕ)) (b : StockBooks) → ys ≡ x ∷ xs → HasPieces n ys b
    → IsWhole n (1 + length xs) b
whole-pieces n x xs ys b is h =
    subst (λ k. IsWhole n k b) (let e : length (x ∷ xs) ≡ 1 + length xs = omega arith in e)
    (subst (λ (l : List (List ℕ)). HasPieces n l b) is h)

pub pieces-cut : (n : ℕ) (serial : Option (List ℕ)) (day : CivilDay) (xs : List (List ℕ)) (b new : StockBooks)
    → HasRoom (1 + length xs) b → IsWhole n (1 + length xs) b → new ≡ cut_off n 1 serial day b → HasPieces n xs new
pieces-cut n serial day [] b new room whole is = tt
pieces-cut n serial day (x ∷ xs) b new room whole is =
    whole-cut n serial day (length (x ∷ xs)) b new room (omega arith) whole is

pub room-rest : (x : List ℕ) (xs ys : List (List ℕ)) (b : StockBooks) → ys ≡ x ∷ xs → HasRoom (length ys) b
    → HasRoom (1 + length xs) b
room-rest x xs ys b is room =
    subst (λ k. HasRoom k b) (ap length is ∙ (let e : length (x ∷ xs) ≡ 1 + length xs = omega arith in e)) room

-- ---- where a command passes its checks, there is room for what it makes

pub room-checked : (k : ℕ) (b new : StockBooks) → AreSoundItems b → b.counter.limits.entries ≤ 10000000000
    → Uses k k b new → is_full new ≡ false → HasRoom k b
room-checked k b new sound small u left = record {
  stock = sound.stock;
  some = sound.locations.some;
  rows = sound.rows;
  numbers = numbers-left k k b new u left;
  entries = room-left k k b new u small left;
}

-- and where that has fewer entries, or none
pub room-few : (k entries : ℕ) (b new : StockBooks) → AreSoundItems b → b.counter.limits.entries ≤ 10000000000
    → k ≤ 10000000000 → Uses k entries b new → is_full new ≡ false → HasRoom k b
room-few k entries b new sound small few u left = record {
  stock = sound.stock;
  some = sound.locations.some;
  rows = sound.rows;
  numbers = numbers-left k entries b new u left;
  entries = omega (arith, small, few, sound.within);
}
