-- The sums over one part, added up over the rows.
use Rattle.std.proofs.Common.{◌≡◌, ℕ, ◌+◌, ◌-◌, ◌≤◌, Bool, true, false, List, [], ◌∷◌}
use Rattle.std.proofs.Common.{◌++◌, map, refl, sym, ap, ◌∙◌, arith, Option, Some}
use Rattle.std.specs.Prelude.{nat_lt, if◌then◌else◌, sum_by, unwrap_or}
use Rattle.std.specs.FinMap as table
use Rattle.std.proofs.lemmas.List.Sums.{sum_by-cons}
use Rattle.sheet_core.specs.Sheet.{Table}
use Rattle.forest.specs.declared.item.Item.{Item}
use Rattle.forest.specs.declared.entry.Entry.{Entry}
use Rattle.forest.specs.declared.entry.Kind.{Kind}
use Rattle.forest.specs.declared.place.Place.{Place}
use Rattle.forest.specs.declared.place.Place.TheVariants.{In}
use Rattle.forest.specs.Forest.{Trees, none, tree, Forest, held, amount, counted, recorded}
use Rattle.forest.specs.Forest.{weigh, height, row_of, rows_in, rows_of, insert_row, sort_rows}
use Rattle.forest.specs.Rows.{parent_of, root_up}
use Rattle.forest.specs.Sound.{RootsSound}
use Rattle.forest.specs.Tables.{forest_of, node_of}
use Rattle.yard_core.specs.Stock.{no_item, IsItemTable}
use Rattle.yard_core.specs.Sums.{lying}
use Rattle.yard_core.proofs.Listed.{AllAt, AllAt-append, all-listed}
use Rattle.yard_core.proofs.Ups.{root_up-none, root_up-some}

-- ---- sums over rows

abbrev added_up : (Item → ℕ) → List Item → ℕ
added_up g [] = 0
added_up g (x ∷ xs) = g x + added_up g xs

sum-added_up : (g : Item → ℕ) (xs : List Item) → sum_by g xs ≡ added_up g xs
sum-added_up g [] = refl
sum-added_up g (x ∷ xs) = sum_by-cons g x xs ∙ ap (λ n. g x + n) (sum-added_up g xs)

added_up-append : (g : Item → ℕ) (xs ys : List Item) → added_up g (xs ++ ys) ≡ added_up g xs + added_up g ys
added_up-append g [] ys = omega arith
added_up-append g (x ∷ xs) ys = omega (arith, added_up-append g xs ys)

added_up-insert : (g : Item → ℕ) (x : Item) (ys : List Item) → added_up g (insert_row x ys) ≡ g x + added_up g ys
added_up-insert g x [] = refl
added_up-insert g x (y ∷ ys) = go (nat_lt x.number y.number) (added_up-insert g x ys)
  where
    go : (b : Bool) → added_up g (insert_row x ys) ≡ g x + added_up g ys
        → added_up g (if b then x ∷ y ∷ ys else y ∷ insert_row x ys) ≡ g x + added_up g (y ∷ ys)
    go true ih = refl
    go false ih = omega (arith, ih)

added_up-sort : (g : Item → ℕ) (xs : List Item) → added_up g (sort_rows xs) ≡ added_up g xs
added_up-sort g [] = refl
added_up-sort g (x ∷ xs) = omega (arith, added_up-insert g x (sort_rows xs), added_up-sort g xs)

-- ---- each item stands under its root

module _ (at : Place → Bool) (p : ℕ) (t : Table Item) where
  abbrev look : ℕ → Option Item
  look n = table.get t (n ∷ [])

  -- the rows of trees whose node m stands under the root n
  module _ (n : ℕ) (q : Place) (placed : (unwrap_or (look n) no_item).place ≡ q) where
    lying-under : (x : Item) → root_up 16 look x.number ≡ n
        → lying at p t x ≡ (if at q then amount p (node_of x) else 0)
    lying-under x e =
        ap (λ l. if at l then amount p (node_of x) else 0) (ap (λ k. (unwrap_or (look k) no_item).place) e ∙ placed)

    step_up : (d m k : ℕ) → ((e : ℕ) → d ≤ e → root_up e look m ≡ n) → parent_of (look k) ≡ Some m → (e : ℕ) → 1 + d ≤ e
        → root_up e look k ≡ n
    step_up d m k up inside e le = root_up-some e k m look (omega (arith, le)) inside ∙ up (e - 1) (omega (arith, le))

    added_up-trees : (d m : ℕ) (ts : Trees) → ((e : ℕ) → d ≤ e → root_up e look m ≡ n) → height ts + d ≤ 16
        → AllAt look (rows_in m ts)
        → added_up (lying at p t) (rows_in m ts) ≡ (if at q then weigh (amount p) ts else 0)
    added_up-trees d m none up low all = go (at q)
      where
        go : (b : Bool) → ◌≡◌ {A = ℕ} 0 (if b then 0 else 0)
        go true = refl
        go false = refl
    added_up-trees d m (tree x below rest) up low all =
        let both = AllAt-append look (rows_in x.number below) (rows_in m rest) all.1 in
        let inside : parent_of (look x.number) ≡ Some m = ap parent_of all.0 in
        let up_here = step_up d m x.number up inside in
        go (at q)
        (added_up-append (lying at p t) (rows_in x.number below) (rows_in m rest))
        (lying-under (record { number = x.number; part = x.part; lot = x.lot; quantity = x.quantity; place = In m })
        (up_here 16 (omega (arith, low))))
        (added_up-trees (1 + d) x.number below up_here (omega (arith, low)) both.0)
        (added_up-trees d m rest up (omega (arith, low)) both.1)
      where
        go : (b : Bool) {l r u v : ℕ} → r ≡ u + v → l ≡ (if b then amount p x else 0)
            → u ≡ (if b then weigh (amount p) below else 0) → v ≡ (if b then weigh (amount p) rest else 0)
            → l + r ≡ (if b then amount p x + weigh (amount p) below + weigh (amount p) rest else 0)
        go true e f g h = omega arith
        go false e f g h = omega arith

  added_up-roots : (f : Forest) → RootsSound f → AllAt look (rows_of f)
      → added_up (lying at p t) (rows_of f) ≡ held at (amount p) f
  added_up-roots [] h all = refl
  added_up-roots (r ∷ rs) h all =
      let both = AllAt-append look (rows_in r.node.number r.trees) (rows_of rs) all.1 in
      let placed : (unwrap_or (look r.node.number) no_item).place ≡ r.place =
      ap (λ (o : Option Item). (unwrap_or o no_item).place) all.0 in
      let top = λ (e : ℕ). root_up-none e r.node.number look (ap parent_of all.0 ∙ h.0.outside) in
      go (at r.place)
      (added_up-append (lying at p t) (rows_in r.node.number r.trees) (rows_of rs))
      (lying-under r.node.number r.place placed (row_of r) (top 16))
      (added_up-trees r.node.number r.place placed 0 r.node.number r.trees (λ e le. top e)
      (omega (arith, h.0.shallow)) both.0)
      (added_up-roots rs h.1 both.1)
    where
      go : (b : Bool) {l x u v : ℕ} → x ≡ u + v → l ≡ (if b then amount p r.node else 0)
          → u ≡ (if b then weigh (amount p) r.trees else 0) → v ≡ held at (amount p) rs
          → l + x ≡ (if b then amount p r.node + weigh (amount p) r.trees else 0) + held at (amount p) rs
      go true e f g i = omega arith
      go false e f g i = omega arith

  -- a part's quantity under roots at such places, item by item
  pub held-lying : IsItemTable t
      → held at (amount p) (forest_of (table.values t)) ≡ sum_by (lying at p t) (table.values t)
  held-lying h =
      let rows = table.values t in
      let f = forest_of rows in
      sym (added_up-roots f h.flat.sound.roots (all-listed t h))
      ∙ sym (added_up-sort (lying at p t) (rows_of f))
      ∙ ap (added_up (lying at p t)) (sym h.flat.flat)
      ∙ sym (sum-added_up (lying at p t) rows)

pub recorded-entries : (k : Kind) (p : ℕ) (es : List Entry)
    → recorded k p (map (λ e. e.note) es) ≡ sum_by (λ e. counted k p e.note) es
recorded-entries k p [] = refl
recorded-entries k p (e ∷ es) =
    ap (λ n. counted k p e.note + n) (recorded-entries k p es)
    ∙ sym (sum_by-cons (λ (d : Entry). counted k p d.note) e es)
