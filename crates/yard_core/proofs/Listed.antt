-- Rows that are found under their numbers.
use Rattle.std.proofs.Common.{◌≡◌, ℕ, ◌≤◌, Bool, true, false, List, [], ◌∷◌, ◌++◌}
use Rattle.std.proofs.Common.{refl, sym, ◌∙◌, subst, arith, Option, Some, eqb-true}
use Rattle.std.specs.Prelude.{◌==◌, nat_lt, if◌then◌else◌}
use Rattle.std.specs.FinMap as table
use Rattle.std.proofs.lemmas.Bool.{eq-eqb}
use Rattle.sheet_core.specs.Sheet.{Table}
use Rattle.forest.specs.declared.item.Item.{Item}
use Rattle.forest.specs.Forest.{Forest, Root, row_of, rows_in, rows_of, insert_row, sort_rows}
use Rattle.forest.specs.Moves.{find_root}
use Rattle.forest.specs.Rows.{row_at}
use Rattle.forest.specs.Tables.{forest_of}
use Rattle.forest.proofs.Sorts.{count, count-sort}
use Rattle.forest.proofs.Flat.{count-rows_of}
use Rattle.yard_core.specs.Stock.{IsItemTable}
use Rattle.yard_core.proofs.Rows.{get-row_at}

abbrev pub AllAt : (ℕ → Option Item) → List Item → Type 0
AllAt look [] = Unit {0}
AllAt look (y ∷ ys) = (look y.number ≡ Some y) × AllAt look ys

AllAt-more : (x : Item) (rows ys : List Item) → count x.number ys ≡ 0 → AllAt (λ n. row_at n rows) ys
    → AllAt (λ n. row_at n (x ∷ rows)) ys
AllAt-more x rows [] z all = tt
AllAt-more x rows (y ∷ ys) z all = (go (x.number == y.number) refl, AllAt-more x rows ys (omega (arith, z)) all.1)
  where
    go : (b : Bool) → (x.number == y.number) ≡ b → (if b then Some x else row_at y.number rows) ≡ Some y
    go true e =
        let same : (y.number == x.number) ≡ true = eq-eqb y.number x.number (sym (eqb-true x.number y.number e)) in
        absurd (let z' = rw same at z in omega (arith, z'))
    go false e = all.0

pub AllAt-self : (xs : List Item) → ((k : ℕ) → count k xs ≤ 1) → AllAt (λ n. row_at n xs) xs
AllAt-self [] once = tt
AllAt-self (x ∷ xs) once =
    let self : (x.number == x.number) ≡ true = eq-eqb x.number x.number refl in
    let alone : count x.number xs ≡ 0 = (let o = rw self at (once x.number) in omega (arith, o)) in
    ((rw self refl), AllAt-more x xs xs alone (AllAt-self xs (λ k. omega (arith, once k))))

AllAt-insert : (look : ℕ → Option Item) (x : Item) (ys : List Item) → AllAt look (insert_row x ys) → AllAt look (x ∷ ys)
AllAt-insert look x [] all = all
AllAt-insert look x (y ∷ ys) all = go (nat_lt x.number y.number) all (AllAt-insert look x ys)
  where
    go : (b : Bool) → AllAt look (if b then x ∷ y ∷ ys else y ∷ insert_row x ys)
        → (AllAt look (insert_row x ys) → AllAt look (x ∷ ys)) → AllAt look (x ∷ y ∷ ys)
    go true all ih = all
    go false all ih = let both = ih all.1 in (both.0, (all.0, both.1))

pub AllAt-sort : (look : ℕ → Option Item) (xs : List Item) → AllAt look (sort_rows xs) → AllAt look xs
AllAt-sort look [] all = tt
AllAt-sort look (x ∷ xs) all = let both = AllAt-insert look x (sort_rows xs) all in (both.0, AllAt-sort look xs both.1)

pub AllAt-append : (look : ℕ → Option Item) (xs ys : List Item) → AllAt look (xs ++ ys) → AllAt look xs × AllAt look ys
AllAt-append look [] ys all = (tt, all)
AllAt-append look (x ∷ xs) ys all = let both = AllAt-append look xs ys all.1 in ((all.0, both.0), both.1)

AllAt-look : (look other : ℕ → Option Item) → ((n : ℕ) → look n ≡ other n) → (xs : List Item) → AllAt other xs
    → AllAt look xs
AllAt-look look other same [] all = tt
AllAt-look look other same (x ∷ xs) all = (same x.number ∙ all.0, AllAt-look look other same xs all.1)

-- the row of each node of the forest is in the table
pub all-listed : (t : Table Item) → IsItemTable t
    → AllAt (λ n. table.get t (n ∷ [])) (rows_of (forest_of (table.values t)))
all-listed t h =
    let rows = table.values t in
    let f = forest_of rows in
    let look = λ (n : ℕ). table.get t (n ∷ []) in
    let all : AllAt look rows = AllAt-look look (λ n. row_at n rows) (λ n. get-row_at t n h.own) rows
    (AllAt-self rows
    (λ k. subst (λ (l : List Item). count k l ≤ 1) (sym h.flat.flat)
    (omega (arith, count-sort k (rows_of f), count-rows_of k f, h.flat.sound.once k)))) in
    AllAt-sort look (rows_of f) (subst (AllAt look) h.flat.flat all)

pub AllAt-root : (look : ℕ → Option Item) (n : ℕ) (f : Forest) (r : Root) → AllAt look (rows_of f)
    → find_root n f ≡ Some r → look r.node.number ≡ Some (row_of r)
AllAt-root look n [] r all e = cc
AllAt-root look n (s ∷ ss) r all e =
    go (s.node.number == n) e
    (AllAt-root look n ss r (AllAt-append look (rows_in s.node.number s.trees) (rows_of ss) all.1).1)
  where
    go : (b : Bool) → (if b then Some s else find_root n ss) ≡ Some r
        → (find_root n ss ≡ Some r → look r.node.number ≡ Some (row_of r)) → look r.node.number ≡ Some (row_of r)
    go true e ih = let same : s ≡ r = cc in subst (λ (q : Root). look q.node.number ≡ Some (row_of q)) same all.0
    go false e ih = ih e
