-- The rows of a table of items, after one of them was changed and after a new one.
use Rattle.std.proofs.Common.{◌≡◌, ◌≢◌, ℕ, Bool, true, false, cond, List, [], ◌∷◌, map, refl}
use Rattle.std.proofs.Common.{sym, ap, ◌∙◌, subst, arith, Option, Some, None, eqb-true, get_or}
use Rattle.std.specs.Prelude.{◌==◌, nat_lt, if◌then◌else◌}
use Rattle.std.specs.FinMap as table
use Rattle.std.specs.FinMap.Entries.{put, by_order}
use Rattle.std.proofs.lemmas.Bool.{eqb-false, ltb-true, ltb-false}
use Rattle.std.specs.Ordering.{is_eq}
use Rattle.std.specs.Cmp.{tied_itself}
use Rattle.std.specs.declared.cmp.Ordering.TheVariants.{Less, Equal, Greater}
use Rattle.sheet_core.specs.Sheet.{Table, key_cmp}
use Rattle.sheet_core.proofs.Keys.{key_eq, key_eq-same, key_eq-other, keys_total}
use Rattle.sheet_core.proofs.Entries.{find_in}
use Rattle.sheet_core.proofs.Selects.{AreAbove, Rises, Rises-from}
use Rattle.forest.specs.declared.item.Item.{Item}
use Rattle.forest.specs.Forest.{insert_row}
use Rattle.forest.specs.Rows.{row_at, set_row}
use Rattle.yard_core.specs.Stock.{keyed}
use Rattle.sheet_core.proofs.Logs.{above}
use Rattle.sheet_core.proofs.Conditions.{is_true}
use Rattle.yard_core.proofs.Notes.{values-keyed, below}

greater : (k q : List ℕ) → key_eq k q ≡ false → (key_cmp k q ≢ Less) → key_cmp k q ≡ Greater
greater k q other low = elim (key_cmp k q) as (λ r. key_cmp k q ≡ r → is_eq r ≡ false → r ≡ Greater) [
  | Less ↦ λ p e. absurd (low p)
  | Equal ↦ λ p e. cc
  | Greater ↦ λ p e. refl
] refl other

pub any : Item → Bool
any x = true

abbrev pub by_number : List Item → List (List ℕ × Item)
by_number = keyed (λ i. i.number)

key_eq-number : (n m : ℕ) → key_eq (n ∷ []) (m ∷ []) ≡ (m == n)
key_eq-number n m =
    elim (m == n) as (λ b. (m == n) ≡ b → key_eq (n ∷ []) (m ∷ []) ≡ b) [
      | true ↦ λ e. key_eq-same (n ∷ []) (m ∷ []) (ap (λ k. k ∷ []) (sym (eqb-true m n e)))
      | false ↦ λ e. key_eq-other (n ∷ []) (m ∷ []) (λ s. eqb-false m n e (sym (ap (λ (ks : List ℕ). get_or ks 0 0) s)))
    ] refl

-- another number's row stays
pub get-other : (n m : ℕ) (x : Item) (t : Table Item) → (n == m) ≡ false
    → table.get (table.insert t (n ∷ []) x) (m ∷ []) ≡ table.get t (m ∷ [])
get-other n m x t other =
    table.get-insert keys_total t (n ∷ []) x (m ∷ [])
    ∙ ap (λ b. cond b (Some x) (table.get t (m ∷ []))) (key_eq-number m n ∙ other)

pub get-own : (n : ℕ) (x : Item) (t : Table Item) → table.get (table.insert t (n ∷ []) x) (n ∷ []) ≡ Some x
get-own n x t =
    table.get-insert keys_total t (n ∷ []) x (n ∷ [])
    ∙ ap (λ b. cond b (Some x) (table.get t (n ∷ []))) (key_eq-same (n ∷ []) (n ∷ []) refl)

pub find-number : (n : ℕ) (xs : List Item) → find_in (n ∷ []) (by_number xs) ≡ row_at n xs
find-number n [] = refl
find-number n (x ∷ xs) =
    ap (λ b. cond b (Some x) (find_in (n ∷ []) (by_number xs))) (key_eq-number n x.number)
    ∙ elim (x.number == n)
    as (λ b. cond b (Some x) (find_in (n ∷ []) (by_number xs)) ≡ (if b then Some x else row_at n xs)) [
      | true ↦ refl
      | false ↦ find-number n xs
    ]

-- the row of a number is what the table has under it
pub get-row_at : (t : Table Item) (n : ℕ) → table.entries t ≡ by_number (table.values t)
    → table.get t (n ∷ []) ≡ row_at n (table.values t)
get-row_at t n own = table.get-entries t (n ∷ []) ∙ ap (find_in (n ∷ [])) own ∙ find-number n (table.values t)

pub find-above : (k : List ℕ) (es : List (List ℕ × Item)) → AreAbove any k es → find_in k es ≡ None
find-above k [] a = refl
find-above k (e ∷ es) a = ap (λ o. cond (is_eq o) (Some e.1) (find_in k es)) a.0 ∙ find-above k es a.1

same_row : (a b : Item) → Some a ≡ Some b → a ≡ b
same_row a b e = cc

further : (k : List ℕ) (m : ℕ) → key_cmp k (m ∷ []) ≡ Less → (es : List (List ℕ × Item)) → AreAbove any (m ∷ []) es
    → AreAbove any k es
further k m low [] a = tt
further k m low (e ∷ es) a = (keys_total.trans k (m ∷ []) e.0 low a.0, further k m low es a.1)

some_none : {x : Item} → ◌≡◌ {A = Option Item} (Some x) None → ⊥
some_none e = cc

put-changed : (x : Item) (xs : List Item) (old : Item) → Rises any (by_number xs) → row_at x.number xs ≡ Some old
    → put key_cmp (x.number ∷ []) x (by_number xs) ≡ by_number (set_row x xs)
put-changed x [] old r e = cc
put-changed x (y ∷ ys) old r e = go (y.number == x.number) refl e (put-changed x ys old r.1)
  where
    go : (b : Bool) → (y.number == x.number) ≡ b → (if b then Some y else row_at x.number ys) ≡ Some old
        → (row_at x.number ys ≡ Some old → put key_cmp (x.number ∷ []) x (by_number ys) ≡ by_number (set_row x ys))
        → by_order (key_cmp (x.number ∷ []) (y.number ∷ [])) ((x.number ∷ [], x) ∷ by_number (y ∷ ys))
        ((y.number ∷ [], x) ∷ by_number ys) ((y.number ∷ [], y) ∷ put key_cmp (x.number ∷ []) x (by_number ys))
        ≡ by_number (if b then x ∷ ys else y ∷ set_row x ys)
    go true u e ih =
        let same : y.number ≡ x.number = eqb-true _ _ u in
        let tie : key_cmp (x.number ∷ []) (y.number ∷ []) ≡ Equal =
        ap (λ m. key_cmp (x.number ∷ []) (m ∷ [])) same ∙ tied_itself keys_total (x.number ∷ []) in
        ap (λ o. by_order o ((x.number ∷ [], x) ∷ by_number (y ∷ ys)) ((y.number ∷ [], x) ∷ by_number ys)
        ((y.number ∷ [], y) ∷ put key_cmp (x.number ∷ []) x (by_number ys)))
        tie
        ∙ ap (λ m. (m ∷ [], x) ∷ by_number ys) same
    go false u e ih =
        let far : key_eq (x.number ∷ []) (y.number ∷ []) ≡ false = key_eq-number x.number y.number ∙ u in
        let after =
        greater (x.number ∷ []) (y.number ∷ []) far
        (λ low. some_none
        (sym e
        ∙ sym (find-number x.number ys)
        ∙ find-above (x.number ∷ []) (by_number ys) (further (x.number ∷ []) y.number low (by_number ys) r.0))) in
        ap (λ o. by_order o ((x.number ∷ [], x) ∷ by_number (y ∷ ys)) ((y.number ∷ [], x) ∷ by_number ys)
        ((y.number ∷ [], y) ∷ put key_cmp (x.number ∷ []) x (by_number ys)))
        after
        ∙ ap (λ l. (y.number ∷ [], y) ∷ l) (ih e)

pub by_number-rises : (t : Table Item) → table.entries t ≡ by_number (table.values t)
    → Rises any (by_number (table.values t))
by_number-rises t own = subst (Rises any) own (Rises-from any (table.entries t) (is_true _ (table.entries_sorted t)))

-- one row in the place of another of its number
module _ (x old : Item) (t : Table Item) (own : table.entries t ≡ by_number (table.values t))
    (is : table.get t (x.number ∷ []) ≡ Some old) where
  entries-changed : table.entries (table.insert t (x.number ∷ []) x) ≡ by_number (set_row x (table.values t))
  entries-changed =
      table.entries-insert keys_total t (x.number ∷ []) x
      ∙ ap (put key_cmp (x.number ∷ []) x) own
      ∙ put-changed x (table.values t) old (by_number-rises t own) (sym (get-row_at t x.number own) ∙ is)

  pub values-changed : table.values (table.insert t (x.number ∷ []) x) ≡ set_row x (table.values t)
  values-changed =
      ap (map (λ (e : List ℕ × Item). e.1)) entries-changed ∙ values-keyed (λ i. i.number) (set_row x (table.values t))

  pub own-changed : table.entries (table.insert t (x.number ∷ []) x)
      ≡ by_number (table.values (table.insert t (x.number ∷ []) x))
  own-changed = entries-changed ∙ ap by_number (sym values-changed)

put-new : (x : Item) (xs : List Item) → row_at x.number xs ≡ None
    → put key_cmp (x.number ∷ []) x (by_number xs) ≡ by_number (insert_row x xs)
put-new x [] e = refl
put-new x (y ∷ ys) e = go (y.number == x.number) refl e (nat_lt x.number y.number) refl (put-new x ys)
  where
    go : (b : Bool) → (y.number == x.number) ≡ b → (if b then Some y else row_at x.number ys) ≡ None → (c : Bool)
        → nat_lt x.number y.number ≡ c
        → (row_at x.number ys ≡ None → put key_cmp (x.number ∷ []) x (by_number ys) ≡ by_number (insert_row x ys))
        → by_order (key_cmp (x.number ∷ []) (y.number ∷ [])) ((x.number ∷ [], x) ∷ by_number (y ∷ ys))
        ((y.number ∷ [], x) ∷ by_number ys) ((y.number ∷ [], y) ∷ put key_cmp (x.number ∷ []) x (by_number ys))
        ≡ by_number (if c then x ∷ y ∷ ys else y ∷ insert_row x ys)
    go true u e c v ih = cc
    go false u e true v ih =
        ap (λ o. by_order o ((x.number ∷ [], x) ∷ by_number (y ∷ ys)) ((y.number ∷ [], x) ∷ by_number ys)
        ((y.number ∷ [], y) ∷ put key_cmp (x.number ∷ []) x (by_number ys)))
        (below x.number y.number (ltb-true _ _ v))
    go false u e false v ih =
        ap (λ o. by_order o ((x.number ∷ [], x) ∷ by_number (y ∷ ys)) ((y.number ∷ [], x) ∷ by_number ys)
        ((y.number ∷ [], y) ∷ put key_cmp (x.number ∷ []) x (by_number ys)))
        (above x.number y.number (omega (arith, ltb-false _ _ v, eqb-false _ _ u)))
        ∙ ap (λ l. (y.number ∷ [], y) ∷ l) (ih e)

-- a row of a new number
module _ (x : Item) (t : Table Item) (own : table.entries t ≡ by_number (table.values t))
    (new : table.get t (x.number ∷ []) ≡ None) where
  pub no_row : row_at x.number (table.values t) ≡ None
  no_row = sym (get-row_at t x.number own) ∙ new

  entries-new : table.entries (table.insert t (x.number ∷ []) x) ≡ by_number (insert_row x (table.values t))
  entries-new =
      table.entries-insert keys_total t (x.number ∷ []) x
      ∙ ap (put key_cmp (x.number ∷ []) x) own
      ∙ put-new x (table.values t) no_row

  pub values-new : table.values (table.insert t (x.number ∷ []) x) ≡ insert_row x (table.values t)
  values-new =
      ap (map (λ (e : List ℕ × Item). e.1)) entries-new ∙ values-keyed (λ i. i.number) (insert_row x (table.values t))

  pub own-new : table.entries (table.insert t (x.number ∷ []) x)
      ≡ by_number (table.values (table.insert t (x.number ∷ []) x))
  own-new = entries-new ∙ ap by_number (sym values-new)
