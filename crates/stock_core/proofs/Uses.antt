-- How many numbers and entries a command uses: what Full counts.
use Rattle.std.proofs.Common.{◌≡◌, ℕ, ◌+◌, Bool, true, false, ◌||◌, List, [], ◌∷◌, ◌++◌, length}
use Rattle.std.proofs.Common.{Option, Some, None, map, refl, sym, ap, ◌∙◌, subst, arith}
use Rattle.std.specs.Prelude.{◌-◌, filter, if◌then◌else◌, nat_lt, unwrap_or}
use Rattle.std.specs.FinMap as table
use Rattle.std.specs.List.{list_any}
use Rattle.word_core.specs.Counter.{Numbering, drawn, lacks, passes_limit}
use Rattle.word_core.specs.Day.{CivilDay}
use Rattle.sheet_core.proofs.Conditions.{or_none}
use Rattle.forest.specs.declared.item.Item.{Item}
use Rattle.forest.specs.declared.entry.Note.{Note}
use Rattle.forest.specs.declared.place.Place.{Place}
use Rattle.forest.specs.declared.place.Place.TheVariants.{At, In, Output, Sent, Used, Off, Gone}
use Rattle.forest.specs.declared.place.Reason.{Reason}
use Rattle.forest.specs.Forest.{is_at, none, row_of}
use Rattle.forest.specs.Moves.{Change, cut_change, cut_node, leaf, lift_entries}
use Rattle.forest.specs.Moves.{make_change, pour_change, with_quantity}
use Rattle.forest.specs.Rows.{lies_in}
use Rattle.forest.specs.Tables.{node_of, trees_below}
use Rattle.yard_core.specs.StockBooks.{StockBooks, entries_in, is_full, with_drawn, with_stock}
use Rattle.yard_core.specs.Stock.{Stock, by_change, has_content, item_at, lift_notes, moved}
use Rattle.yard_core.specs.Stock.{no_item, pour, tree_of, IsHistory, IsItemTable, IsThere}
use Rattle.yard_core.proofs.Moved.{length-lift_leaf, made-loose, moved-history, moved-len, moved-second}
use Rattle.yard_core.proofs.Items.{no_trees, own_number}
use Rattle.stock_core.specs.declared.arrivals.Arrival.{Arrival}
use Rattle.stock_core.specs.declared.arrivals.NewStock.{NewStock}
use Rattle.stock_core.specs.Arrives.{count_of}
use Rattle.stock_core.specs.ItemTests.{has_more, is_loose}
use Rattle.stock_core.specs.Merge.{pour_each}
use Rattle.stock_core.specs.Steps.{cut_each, cut_off, make_each, make_new, make_one, new_item, take}

-- so many numbers are drawn and so many entries written, and the history is one still
pub record Uses (numbers entries : ℕ) (old new : StockBooks) : Type 0 where
  pub counter : new.counter ≡ drawn numbers old.counter
  pub history : IsHistory new.stock.history
  pub len : entries_in new ≡ entries_in old + entries

drawn-none : (c : Numbering) → c ≡ drawn 0 c
drawn-none c = ap (λ n. record { next = n; limits = c.limits }) (let e : c.next ≡ c.next + 0 = omega arith in e)

-- what changes nothing uses nothing
pub uses-nothing : (b : StockBooks) → IsHistory b.stock.history → Uses 0 0 b b
uses-nothing b h = record { counter = drawn-none b.counter; history = h; len = omega arith }

-- a move
pub uses-moved : (rows : List Item) (new : List Note) (day : CivilDay) (b : StockBooks) → IsHistory b.stock.history
    → Uses 0 (length new) b (with_stock (moved rows new day b.stock) b)
uses-moved rows new day b h = record {
  counter = drawn-none b.counter;
  history = moved-history rows new day b.stock h;
  len = moved-len rows new day b.stock h;
}

-- a move for which a number is drawn
pub uses-drawn : (rows : List Item) (new : List Note) (day : CivilDay) (b : StockBooks) → IsHistory b.stock.history
    → Uses 1 (length new) b (with_drawn (moved rows new day b.stock) b)
uses-drawn rows new day b h =
    record { counter = refl; history = moved-history rows new day b.stock h; len = moved-len rows new day b.stock h }

-- one after the other
pub uses-both : (m e n f : ℕ) (a b c : StockBooks) → Uses m e a b → Uses n f b c → Uses (m + n) (e + f) a c
uses-both m e n f a b c u v = record {
  counter =
      v.counter ∙ ap (drawn n) u.counter ∙ ap (λ k. record { next = k; limits = a.counter.limits })
      (let s : a.counter.next + m + n ≡ a.counter.next + (m + n) = omega arith in s);
  history = v.history;
  len = omega (arith, u.len, v.len);
}

-- what is used decides whether the limits are passed
pub full-used : (n e : ℕ) (old new : StockBooks) → Uses n e old new
    → (lacks n old.counter || nat_lt old.counter.limits.entries (entries_in old + e)) ≡ is_full new
full-used n e old new u =
    ap (λ k. lacks n old.counter || nat_lt old.counter.limits.entries k) (sym u.len)
    ∙ ap (λ c. passes_limit c || nat_lt c.limits.entries (entries_in new)) (sym u.counter)

-- ---- the moves

-- numbers that are counted otherwise
pub uses-as : (m n e f : ℕ) (a b : StockBooks) → m ≡ n → e ≡ f → Uses m e a b → Uses n f a b
uses-as m n e f a b same alike u = subst (λ k. Uses k f a b) same (subst (λ k. Uses m k a b) alike u)

-- one after the other, together counted otherwise
pub uses-then : {m e n f k g : ℕ} {a b c : StockBooks} → Uses m e a b → Uses n f b c → k ≡ m + n → g ≡ e + f
    → Uses k g a c
uses-then {m = m} {e = e} {n = n} {f = f} {k = k} {g = g} {a = a} {b = b} {c = c} u v same alike =
    uses-as (m + n) k (e + f) g a c (sym same) (sym alike) (uses-both m e n f a b c u v)

pub uses-change : (c : Change) (day : CivilDay) (b : StockBooks) → IsHistory b.stock.history
    → Uses 0 (length c.notes) b (with_stock (by_change c day b.stock) b)
uses-change c day b h = uses-moved (map row_of (c.roots ++ c.leaves)) c.notes day b h

pub uses-change_drawn : (c : Change) (day : CivilDay) (b : StockBooks) → IsHistory b.stock.history
    → Uses 1 (length c.notes) b (with_drawn (by_change c day b.stock) b)
uses-change_drawn c day b h = uses-drawn (map row_of (c.roots ++ c.leaves)) c.notes day b h

pub uses-cut_off : (n quantity : ℕ) (serial : Option (List ℕ)) (day : CivilDay) (b : StockBooks)
    → IsHistory b.stock.history → Uses 1 1 b (cut_off n quantity serial day b)
uses-cut_off n quantity serial day b h =
    uses-change_drawn (cut_change quantity b.counter.next serial (tree_of n b.stock)) day b h

pub uses-cut_each : (n : ℕ) (serials : List (List ℕ)) (day : CivilDay) (b : StockBooks) → IsHistory b.stock.history
    → Uses (length serials) (length serials) b (cut_each n serials day b)
uses-cut_each n [] day b h = uses-nothing b h
uses-cut_each n (x ∷ xs) day b h =
    let one = uses-cut_off n 1 (Some x) day b h in
    let rest = uses-cut_each n xs day (cut_off n 1 (Some x) day b) one.history in
    uses-then one rest (omega arith) (omega arith)

pub uses-make_one : (a : Arrival) (quantity : ℕ) (batch serial : Option (List ℕ)) (day : CivilDay) (b : StockBooks)
    → is_at a.place ≡ true → IsHistory b.stock.history
    → Uses 1 1 b (make_one a quantity batch serial day b)
uses-make_one a quantity batch serial day b loose h =
    let item = new_item b.counter.next a quantity batch serial in
    let change = make_change a.kind a.place (node_of item) in
    uses-as 1 1 (length change.notes) 1 b (make_one a quantity batch serial day b) refl
    (made-loose a.kind a.place (node_of item) loose) (uses-change_drawn change day b h)

pub uses-make_each : (a : Arrival) (batch : Option (List ℕ)) (serials : List (List ℕ)) (day : CivilDay) (b : StockBooks)
    → is_at a.place ≡ true → IsHistory b.stock.history
    → Uses (length serials) (length serials) b (make_each a batch serials day b)
uses-make_each a batch [] day b loose h = uses-nothing b h
uses-make_each a batch (x ∷ xs) day b loose h =
    let one = uses-make_one a 1 batch (Some x) day b loose h in
    let rest = uses-make_each a batch xs day (make_one a 1 batch (Some x) day b) loose one.history in
    uses-then one rest (omega arith) (omega arith)

pub uses-make_new : (a : Arrival) (new : NewStock) (day : CivilDay) (b : StockBooks) → is_at a.place ≡ true
    → IsHistory b.stock.history
    → Uses (count_of new.serials) (count_of new.serials) b (make_new a new day b)
uses-make_new a new day b loose h = go new.serials
  where
    go : (o : Option (List (List ℕ))) → Uses (count_of o) (count_of o) b
        (make_new a (record { quantity = new.quantity; batch = new.batch; serials = o }) day b)
    go None = uses-make_one a new.quantity new.batch None day b loose h
    go (Some xs) = uses-make_each a new.batch xs day b loose h

pub uses-pour_each : (items : List ℕ) (into : ℕ) (day : CivilDay) (b : StockBooks) → IsHistory b.stock.history
    → Uses 0 (length items) b (with_stock (pour_each items into day b.stock) b)
uses-pour_each [] into day b h = uses-nothing b h
uses-pour_each (n ∷ ns) into day b h =
    let next = with_stock (pour n into day b.stock) b in
    let one = uses-change (pour_change (tree_of n b.stock) (tree_of into b.stock)) day b h in
    uses-then one (uses-pour_each ns into day next one.history) refl (omega arith)

-- ---- entries of lifts of loose items

-- a loose item is there
pub loose-there : (n : ℕ) (s : Stock) → is_loose n s ≡ true → IsThere n s
loose-there n s loose = go (table.get s.items (n ∷ [])) refl loose
  where
    go : (o : Option Item) → table.get s.items (n ∷ []) ≡ o → is_at (unwrap_or o no_item).place ≡ true
        → table.get s.items (n ∷ []) ≡ Some (item_at n s)
    go None e at = cc
    go (Some x) e at = e ∙ ap (λ o. Some (unwrap_or o no_item)) (sym e)

-- to another location: one
pub entries-carried : (n l : ℕ) (s : Stock) → is_loose n s ≡ true → length (lift_notes n (At l) s) ≡ 1
entries-carried n l s loose = go (item_at n s).place loose
  where
    go : (q : Place) → is_at q ≡ true → length (lift_entries q (At l) (tree_of n s)) ≡ 1
    go (At m) e = refl
    go (In m) e = cc
    go (Output m) e = cc
    go (Sent m) e = cc
    go (Used m) e = cc
    go (Off m) e = cc
    go Gone e = cc

no-filter : (p : Item → Bool) (xs : List Item) → list_any p xs ≡ false → filter p xs ≡ []
no-filter p [] e = refl
no-filter p (x ∷ xs) e = let both = or_none (p x) (list_any p xs) e in rw both.0 (no-filter p xs both.1)

-- off the books, where nothing lies in it: one
pub entries-off : (n : ℕ) (reason : Reason) (s : Stock) → IsItemTable s.items → is_loose n s ≡ true
    → has_content n s ≡ false → length (lift_notes n (Off reason) s) ≡ 1
entries-off n reason s rows loose empty =
    let own : (item_at n s).number ≡ n = own_number s.items n (item_at n s) rows (loose-there n s loose) in
    let bare : (tree_of n s).trees ≡ none =
    ap (trees_below 16 (table.values s.items)) own
    ∙ no_trees 15 (table.values s.items) n (no-filter (lies_in n) (table.values s.items) empty) in
    go (item_at n s).place loose bare
  where
    go : (q : Place) → is_at q ≡ true → (tree_of n s).trees ≡ none
        → length (lift_entries q (Off reason) (tree_of n s)) ≡ 1
    go (At m) e bare = length-lift_leaf (At m) (Off reason) (tree_of n s) tt bare
    go (In m) e bare = cc
    go (Output m) e bare = cc
    go (Sent m) e bare = cc
    go (Used m) e bare = cc
    go (Off m) e bare = cc
    go Gone e bare = cc

-- an item that was cut off a loose one is loose
pub piece-loose : (n quantity : ℕ) (serial : Option (List ℕ)) (day : CivilDay) (b : StockBooks)
    → is_loose n b.stock ≡ true → is_loose b.counter.next (cut_off n quantity serial day b).stock ≡ true
piece-loose n quantity serial day b loose =
    let c = cut_change quantity b.counter.next serial (tree_of n b.stock) in
    let smaller = row_of (with_quantity ((item_at n b.stock).quantity - quantity) (tree_of n b.stock)) in
    let piece =
    row_of (leaf (item_at n b.stock).place (cut_node quantity b.counter.next serial (node_of (item_at n b.stock)))) in
    ap (λ o. is_at (unwrap_or o no_item).place) (moved-second c.notes day b.stock smaller piece) ∙ loose

-- ---- what is taken

abbrev choose : ℕ → ℕ → CivilDay → StockBooks → Bool → StockBooks × ℕ
choose n quantity day b more = if more then (cut_off n quantity None day b, b.counter.next) else (b, n)

-- less than the whole
pub take-part : (n quantity : ℕ) (day : CivilDay) (b : StockBooks) → has_more n quantity b.stock ≡ true
    → take n quantity day b ≡ choose n quantity day b true
take-part n quantity day b more = ap (choose n quantity day b) more

-- the whole
pub take-whole : (n quantity : ℕ) (day : CivilDay) (b : StockBooks) → has_more n quantity b.stock ≡ false
    → take n quantity day b ≡ choose n quantity day b false
take-whole n quantity day b all = ap (choose n quantity day b) all
