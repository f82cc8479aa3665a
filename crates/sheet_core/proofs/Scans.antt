-- The rows of the slots from a place on, and up to it.
use Rattle.std.proofs.Common.{◌≡◌, ℕ, suc, zero, Bool, true, false, cond, ◌||◌, ◌+◌, List, [], ◌∷◌, ◌++◌}
use Rattle.std.proofs.Common.{map, take, drop, Option, Some, None, refl, sym, ap, ◌∙◌, subst, arith}
use Rattle.std.specs.Prelude.{slice_get, filter, sum_by}
use Rattle.std.specs.FinMap as table
use Rattle.std.specs.List.{list_any}
use Rattle.std.specs.List.Sorted.{IsPermutation, IsSortedByKey}
use Rattle.std.specs.Map.{values_of}
use Rattle.std.specs.Ordering.{is_lt}
use Rattle.std.proofs.lemmas.List.Sums.{sum_by-cons}
use Rattle.std.proofs.lemmas.List.Elements.{filter-append}
use Rattle.std.proofs.lemmas.List.Sorted.{IsPermutation-map}
use Rattle.std.proofs.Common.{get_or}
use Rattle.sheet_core.specs.declared.slots.Held.{Held}
use Rattle.sheet_core.specs.declared.slots.KeyedRow.{KeyedRow}
use Rattle.sheet_core.specs.Sheet.{key_cmp, IsDistinct, table_of}
use Rattle.sheet_core.specs.Slots.{with_row, rows_by, now_row, row_found, slots_of}
use Rattle.sheet_core.proofs.Lookups.{slot_of_value}
use Rattle.sheet_core.proofs.Ordered.{NoneFalls}
use Rattle.sheet_core.proofs.Selects.{passing, sorted-passing, values-passing}

module _ {X : Type 0} where
  abbrev pub of_rows : List (List ℕ × X) → List X
  of_rows = map (λ e. e.1)

  abbrev pub passes : (X → Bool) → Option X → Bool
  passes p None = false
  passes p (Some x) = p x

  abbrev pub measured : (X → ℕ) → Option X → ℕ
  measured f None = 0
  measured f (Some x) = f x

  -- one row under its key where it passes
  abbrev pub one_passing : (X → Bool) → List ℕ → Option X → List (List ℕ × X)
  one_passing p k None = []
  one_passing p k (Some x) = cond (p x) ((k, x) ∷ []) []

  pub any-with_row : (p : X → Bool) (k : List ℕ) (o : Option X) (rs : List (List ℕ × X))
      → list_any p (of_rows (with_row k o rs)) ≡ (passes p o || list_any p (of_rows rs))
  any-with_row p k None rs = refl
  any-with_row p k (Some x) rs = refl

  pub sum-with_row : (f : X → ℕ) (k : List ℕ) (o : Option X) (rs : List (List ℕ × X))
      → sum_by f (of_rows (with_row k o rs)) ≡ measured f o + sum_by f (of_rows rs)
  sum-with_row f k None rs = none_plus (sum_by f (of_rows rs))
    where
      none_plus : (n : ℕ) → n ≡ 0 + n
      none_plus n = omega arith
  sum-with_row f k (Some x) rs = sum_by-cons f x (of_rows rs)

  pub passing-with_row : (p : X → Bool) (k : List ℕ) (o : Option X) → passing p (with_row k o []) ≡ one_passing p k o
  passing-with_row p k None = refl
  passing-with_row p k (Some x) = refl

  module _ (f : Held X → Option X) where
    pub rows-drop : (es : List (List ℕ × Held X)) (i j : ℕ) (k : List ℕ) (h : Held X) → slice_get es i ≡ Some (k, h)
        → j ≡ i + 1 → rows_by f (drop i es) ≡ with_row k (f h) (rows_by f (drop j es))
    rows-drop [] i j k h at e = cc
    rows-drop (e ∷ es) zero j k h at is =
        let one : j ≡ 1 = omega arith in
        subst (λ m. with_row e.0 (f e.1) (rows_by f es) ≡ with_row k (f h) (rows_by f (drop m (e ∷ es)))) (sym one)
        (ap (λ (s : List ℕ × Held X). with_row s.0 (f s.1) (rows_by f es)) (same_slot e (k, h) at))
      where
        same_slot : (a b : List ℕ × Held X) → Some a ≡ Some b → a ≡ b
        same_slot a b e = cc
    rows-drop (e ∷ es) (suc i) j k h at is =
        let next : j ≡ suc (i + 1) = omega arith in
        subst (λ m. rows_by f (drop i es) ≡ with_row k (f h) (rows_by f (drop m (e ∷ es)))) (sym next)
        (rows-drop es i (i + 1) k h at refl)

    with_row-append : (k : List ℕ) (o : Option X) (rs ss : List (List ℕ × X))
        → with_row k o rs ++ ss ≡ with_row k o (rs ++ ss)
    with_row-append k None rs ss = refl
    with_row-append k (Some x) rs ss = refl

    pub rows-take : (es : List (List ℕ × Held X)) (i j : ℕ) (k : List ℕ) (h : Held X) → slice_get es i ≡ Some (k, h)
        → j ≡ i + 1 → rows_by f (take j es) ≡ rows_by f (take i es) ++ with_row k (f h) []
    rows-take [] i j k h at e = cc
    rows-take (e ∷ es) zero j k h at is =
        let one : j ≡ 1 = omega arith in
        subst (λ m. rows_by f (take m (e ∷ es)) ≡ with_row k (f h) []) (sym one)
        (ap (λ (s : List ℕ × Held X). with_row s.0 (f s.1) []) (same_slot e (k, h) at))
      where
        same_slot : (a b : List ℕ × Held X) → Some a ≡ Some b → a ≡ b
        same_slot a b e = cc
    rows-take (e ∷ es) (suc i) j k h at is =
        let next : j ≡ suc (i + 1) = omega arith in
        subst (λ m. rows_by f (take m (e ∷ es)) ≡ with_row e.0 (f e.1) (rows_by f (take i es)) ++ with_row k (f h) [])
        (sym next)
        (ap (with_row e.0 (f e.1)) (rows-take es i (i + 1) k h at refl)
        ∙ sym (with_row-append e.0 (f e.1) (rows_by f (take i es)) (with_row k (f h) [])))

  -- the passing rows of one more slot
  pub passing-more : (p : X → Bool) (es : List (List ℕ × Held X)) (i : ℕ) (k : List ℕ) (h : Held X)
      → slice_get es i ≡ Some (k, h)
      → passing p (rows_by now_row (take (i + 1) es)) ≡ passing p (rows_by now_row (take i es)) ++ one_passing p k (now_row h)
  passing-more p es i k h at =
      ap (passing p) (rows-take now_row es i (i + 1) k h at refl)
      ∙ filter-append (λ (e : List ℕ × X). p e.1) (rows_by now_row (take i es)) (with_row k (now_row h) [])
      ∙ ap (λ rs. passing p (rows_by now_row (take i es)) ++ rs) (passing-with_row p k (now_row h))

-- a row or none under a key, before other rows: whether one passes
module _ {X : Type 0} (p : X → Bool) (rs rest : List (List ℕ × X)) (k : List ℕ) (o : Option X)
    (is : rs ≡ with_row k o rest) where
  any-here : list_any p (of_rows rs) ≡ (passes p o || list_any p (of_rows rest))
  any-here = ap (λ l. list_any p (of_rows l)) is ∙ any-with_row p k o rest

  pub any-met : (x : X) → o ≡ Some x → p x ≡ true → list_any p (of_rows rs) ≡ true
  any-met x row met = any-here ∙ ap (λ b. b || list_any p (of_rows rest)) (ap (passes p) row ∙ met)

  pub any-left : passes p o ≡ false → list_any p (of_rows rs) ≡ list_any p (of_rows rest)
  any-left fails = any-here ∙ ap (λ b. b || list_any p (of_rows rest)) fails

-- the rows of the slots from the place of a value on
module _ {K X : Type 0} (digits : K → List ℕ) (es : List (K × Held X)) (i : ℕ) (h : Held X)
    (value : slice_get (values_of es) i ≡ Some h) where
  abbrev left_from : ℕ → List (List ℕ × X)
  left_from j = rows_by now_row (drop j (slots_of digits es))

  rows-from : left_from i ≡ with_row (slot_of_value digits es i h value).0 (now_row h) (left_from (i + 1))
  rows-from =
      let s = slot_of_value digits es i h value in rows-drop now_row (slots_of digits es) i (i + 1) s.0 h s.1 refl

  pub any-from_met : (p : X → Bool) (x : X) → now_row h ≡ Some x → p x ≡ true
      → list_any p (of_rows (rows_by now_row (drop i (slots_of digits es)))) ≡ true
  any-from_met p x row met =
      any-met p (left_from i) (left_from (i + 1)) (slot_of_value digits es i h value).0 (now_row h) rows-from x row met

  pub any-from_left : (p : X → Bool) → passes p (now_row h) ≡ false
      → list_any p (of_rows (rows_by now_row (drop i (slots_of digits es))))
      ≡ list_any p (of_rows (rows_by now_row (drop (i + 1) (slots_of digits es))))
  any-from_left p fails =
      any-left p (left_from i) (left_from (i + 1)) (slot_of_value digits es i h value).0 (now_row h) rows-from fails

  pub sum-from : (f : X → ℕ)
      → sum_by f (of_rows (rows_by now_row (drop i (slots_of digits es))))
      ≡ measured f (now_row h) + sum_by f (of_rows (rows_by now_row (drop (i + 1) (slots_of digits es))))
  sum-from f =
      ap (λ rs. sum_by f (of_rows rs)) rows-from
      ∙ sum-with_row f (slot_of_value digits es i h value).0 (now_row h) (left_from (i + 1))

module _ {K X : Type 0} (digits : K → List ℕ) where
  rows-found : (xs : List (KeyedRow K X))
      → map (λ (f : KeyedRow K X). f.row.now) xs ≡ map (λ (e : List ℕ × X). e.1) (map (row_found digits) xs)
  rows-found [] = refl
  rows-found (x ∷ xs) = ap (λ l. x.row.now ∷ l) (rows-found xs)

  NoneFalls-found : (xs : List (KeyedRow K X)) → IsSortedByKey (λ (f : KeyedRow K X). digits f.key.now) key_cmp xs
      → NoneFalls (map (row_found digits) xs)
  NoneFalls-found [] up = tt
  NoneFalls-found (x ∷ []) up = tt
  NoneFalls-found (x ∷ y ∷ xs) up = (
    up 0 x (omega arith) (omega arith),
    NoneFalls-found (y ∷ xs) (λ k d low lt.
        let at : suc k + 1 ≡ suc (k + 1) = omega arith in
        ap (λ j. is_lt (key_cmp (digits (get_or (x ∷ y ∷ xs) j d).key.now) (digits (get_or (y ∷ xs) k d).key.now)))
        (sym at) ∙ up (suc k) d (omega arith) (omega arith)),
  )

  -- the rows of all that pass, once they are sorted
  pub selected-all : (p : X → Bool) (found sorted : List (KeyedRow K X)) (rs : List (List ℕ × X)) → IsDistinct rs
      → map (row_found digits) found ≡ passing p rs
      → IsPermutation found sorted → IsSortedByKey (λ (f : KeyedRow K X). digits f.key.now) key_cmp sorted
      → map (λ (f : KeyedRow K X). f.row.now) sorted ≡ filter p (table.values (table_of rs))
  selected-all p found sorted rs d h moved up =
      let moved_too =
      subst (λ l. IsPermutation l (map (row_found digits) sorted)) h
      (IsPermutation-map (row_found digits) found sorted moved) in
      rows-found sorted
      ∙ ap (map (λ (e : List ℕ × X). e.1))
      (sorted-passing p rs (map (row_found digits) sorted) d moved_too (NoneFalls-found sorted up))
      ∙ values-passing p (table.entries (table_of rs))
