-- Slots, as the finite maps of their rows see them.
use Rattle.std.proofs.Common.{◌≡◌, ℕ, suc, zero, Bool, true, false, cond, ◌+◌, ◌-◌, ◌≤◌, List, []}
use Rattle.std.proofs.Common.{◌∷◌, ◌++◌, length, Option, Some, None, set, refl, sym, ap, ◌∙◌, arith}
use Rattle.std.specs.Prelude.{Result, Ok, Err, IfOk, OnErr, slice_get, option_map, is_some}
use Rattle.std.specs.FinMap as table
use Rattle.std.specs.FinMap.Entries.{find-append}
use Rattle.std.specs.List.Sorted.{IsPermutation}
use Rattle.sheet_core.specs.declared.slots.Held.{Held}
use Rattle.sheet_core.specs.Sheet.{key_cmp, IsDistinct, HasKeyAt, Table, given}
use Rattle.sheet_core.specs.Slots.{with_row, rows_by, table_by}
use Rattle.sheet_core.proofs.Keys.{key_eq, keys_total, keys_exact, key_eq-true}
use Rattle.sheet_core.proofs.Entries.{find_in, find-at, find-set, IsDistinct-set, IsDistinct-push}
use Rattle.sheet_core.proofs.Ordered.{IsDistinct-permutation, find-permutation, len-at_most}

pub IfOk-map : {A E : Type 0} {P Q : A → Type 0} (r : Result A E) → IfOk r P → ((v : A) → P v → Q v) → IfOk r Q
IfOk-map (Ok x) p f = f x p
IfOk-map (Err e) p f = p

pub OnErr-always : {A E P : Type 0} (r : Result A E) → P → OnErr r P
OnErr-always (Ok x) p = tt
OnErr-always (Err e) p = p

module _ {X : Type 0} where
  -- what f tells of what was found
  abbrev pub seen : (Held X → Option X) → Option (Held X) → Option X
  seen f None = None
  seen f (Some h) = f h

  seen-cond : (f : Held X → Option X) (b : Bool) (h : Held X) (o : Option (Held X))
      → seen f (cond b (Some h) o) ≡ cond b (f h) (seen f o)
  seen-cond f true h o = refl
  seen-cond f false h o = refl

  find-with_row : (q k : List ℕ) (o : Option X) (rs : List (List ℕ × X)) → find_in k rs ≡ None
      → find_in q (with_row k o rs) ≡ cond (key_eq q k) o (find_in q rs)
  find-with_row q k (Some x) rs none = refl
  find-with_row q k None rs none =
      elim (key_eq q k) as (λ b. key_eq q k ≡ b → find_in q rs ≡ cond b None (find_in q rs)) [
        | true ↦ λ p. ap (λ r. find_in r rs) (key_eq-true q k p) ∙ none
        | false ↦ λ p. refl
      ] refl

  IsDistinct-with_row : (k : List ℕ) (o : Option X) (rs : List (List ℕ × X)) → find_in k rs ≡ None → IsDistinct rs
      → IsDistinct (with_row k o rs)
  IsDistinct-with_row k None rs none d = d
  IsDistinct-with_row k (Some x) rs none d = (none, d)

  module _ (f : Held X → Option X) where
    pub find-rows : (es : List (List ℕ × Held X)) (q : List ℕ) → IsDistinct es
        → find_in q (rows_by f es) ≡ seen f (find_in q es)
    find-rows [] q d = refl
    find-rows (e ∷ es) q d =
        find-with_row q e.0 (f e.1) (rows_by f es) (find-rows es e.0 d.1 ∙ ap (seen f) d.0)
        ∙ ap (cond (key_eq q e.0) (f e.1)) (find-rows es q d.1) ∙ sym (seen-cond f (key_eq q e.0) e.1 (find_in q es))

    -- the rows have distinct keys
    pub IsDistinct-rows : (es : List (List ℕ × Held X)) → IsDistinct es → IsDistinct (rows_by f es)
    IsDistinct-rows [] d = tt
    IsDistinct-rows (e ∷ es) d =
        IsDistinct-with_row e.0 (f e.1) (rows_by f es) (find-rows es e.0 d.1 ∙ ap (seen f) d.0) (IsDistinct-rows es d.1)

    -- the row of a key is what its slot tells
    pub get-table : (es : List (List ℕ × Held X)) (q : List ℕ) → IsDistinct es
        → table.get (table_by f es) q ≡ seen f (find_in q es)
    get-table es q d = table.get-from_entries keys_total (rows_by f es) q ∙ find-rows es q d

    length-with_row : (k : List ℕ) (o : Option X) (rs : List (List ℕ × X)) (n : ℕ) → length rs ≤ n
        → length (with_row k o rs) ≤ suc n
    length-with_row k None rs n le = omega arith
    length-with_row k (Some x) rs n le = omega arith

    length-rows : (es : List (List ℕ × Held X)) → length (rows_by f es) ≤ length es
    length-rows [] = omega arith
    length-rows (e ∷ es) = length-with_row e.0 (f e.1) (rows_by f es) (length es) (length-rows es)

    -- there are no more rows than slots
    pub len-table : (es : List (List ℕ × Held X)) → table.len (table_by f es) ≤ length es
    len-table es = let a = len-at_most (rows_by f es) in let b = length-rows es in omega arith

  pub get-given : (k : List ℕ) (o : Option X) (m : Table X) (q : List ℕ)
      → table.get (given k o m) q ≡ cond (key_eq q k) o (table.get m q)
  get-given k None m q = table.get-remove keys_total m k q
  get-given k (Some x) m q = table.get-insert keys_total m k x q

  -- a key is given what it has
  pub given-same : (k : List ℕ) (o : Option X) (m : Table X) → table.get m k ≡ o → given k o m ≡ m
  given-same k o m has = table.same_map keys_total keys_exact _ _ (λ q.
      get-given k o m q ∙ elim (key_eq q k)
      as (λ b. key_eq q k ≡ b → cond b o (table.get m q) ≡ table.get m q) [
        | true ↦ λ p. sym (ap (table.get m) (key_eq-true q k p) ∙ has)
        | false ↦ λ p. refl
      ] refl)

  slot_key : (es : List (List ℕ × Held X)) (i : ℕ) (k : List ℕ) (h : Held X) → slice_get es i ≡ Some (k, h)
      → HasKeyAt es i k
  slot_key es i k h at = ap (option_map (λ (e : List ℕ × Held X). e.0)) at

  find-slot : (es : List (List ℕ × Held X)) (i : ℕ) (k : List ℕ) (h : Held X) → IsDistinct es
      → slice_get es i ≡ Some (k, h) → find_in k es ≡ Some h
  find-slot es i k h d at = find-at es i k d (slot_key es i k h at) ∙ ap (option_map (λ (e : List ℕ × Held X). e.1)) at

  -- a slot is written
  module _ (f : Held X → Option X) (es : List (List ℕ × Held X)) (i : ℕ) (k : List ℕ) (h h' : Held X)
      (d : IsDistinct es) (at : slice_get es i ≡ Some (k, h)) where
    pub get-written : (q : List ℕ)
        → table.get (table_by f (set es i (k, h'))) q ≡ cond (key_eq q k) (f h') (table.get (table_by f es) q)
    get-written q =
        get-table f (set es i (k, h')) q (IsDistinct-set es i k h' d (slot_key es i k h at))
        ∙ ap (seen f) (find-set es i k h' q d (slot_key es i k h at))
        ∙ seen-cond f (key_eq q k) h' (find_in q es) ∙ ap (cond (key_eq q k) (f h')) (sym (get-table f es q d))

    -- the key is given what the slot now tells
    pub table-written : table_by f (set es i (k, h')) ≡ given k (f h') (table_by f es)
    table-written =
        table.same_map keys_total keys_exact _ _ (λ q. get-written q ∙ sym (get-given k (f h') (table_by f es) q))

    -- the rows are as they were where the slot tells the same
    pub table-same : f h' ≡ f h → table_by f (set es i (k, h')) ≡ table_by f es
    table-same same = table.same_map keys_total keys_exact _ _ (λ q.
        get-written q ∙ elim (key_eq q k)
        as (λ b. key_eq q k ≡ b → cond b (f h') (table.get (table_by f es) q) ≡ table.get (table_by f es) q) [
          | true ↦
              λ p. same ∙ sym (get-table f es q d
              ∙ ap (λ r. seen f (find_in r es)) (key_eq-true q k p)
              ∙ ap (seen f) (find-slot es i k h d at))
          | false ↦ λ p. refl
        ] refl)

  -- a slot with a new key is put last
  module _ (f : Held X → Option X) (es : List (List ℕ × Held X)) (k : List ℕ) (h : Held X) (d : IsDistinct es)
      (none : find_in k es ≡ None) where
    pub get-added : (q : List ℕ)
        → table.get (table_by f (es ++ (k, h) ∷ [])) q ≡ cond (key_eq q k) (f h) (table.get (table_by f es) q)
    get-added q =
        get-table f (es ++ (k, h) ∷ []) q (IsDistinct-push es k h d none)
        ∙ ap (seen f) (find-append key_cmp keys_total es k h q none)
        ∙ seen-cond f (key_eq q k) h (find_in q es) ∙ ap (cond (key_eq q k) (f h)) (sym (get-table f es q d))

    pub table-added : table_by f (es ++ (k, h) ∷ []) ≡ given k (f h) (table_by f es)
    table-added =
        table.same_map keys_total keys_exact _ _ (λ q. get-added q ∙ sym (get-given k (f h) (table_by f es) q))

    pub table-added_none : f h ≡ None → table_by f (es ++ (k, h) ∷ []) ≡ table_by f es
    table-added_none nothing = table.same_map keys_total keys_exact _ _ (λ q.
        get-added q ∙ elim (key_eq q k)
        as (λ b. key_eq q k ≡ b → cond b (f h) (table.get (table_by f es) q) ≡ table.get (table_by f es) q) [
          | true ↦
              λ p. nothing
              ∙ sym (get-table f es q d ∙ ap (λ r. seen f (find_in r es)) (key_eq-true q k p) ∙ ap (seen f) none)
          | false ↦ λ p. refl
        ] refl)

  -- a slot is taken out, which f tells nothing of
  module _ (es fs : List (List ℕ × Held X)) (k : List ℕ) (h : Held X) (d : IsDistinct es)
      (moved : IsPermutation es ((k, h) ∷ fs)) where
    pub distinct-taken : IsDistinct fs
    distinct-taken = (IsDistinct-permutation es ((k, h) ∷ fs) d moved).1

    pub table-taken : (f : Held X → Option X) → f h ≡ None → table_by f fs ≡ table_by f es
    table-taken f nothing = table.same_map keys_total keys_exact _ _ (λ q.
        let both = IsDistinct-permutation es ((k, h) ∷ fs) d moved in
        let old : table.get (table_by f es) q ≡ cond (key_eq q k) (f h) (seen f (find_in q fs)) =
        get-table f es q d
        ∙ ap (seen f) (sym (find-permutation es ((k, h) ∷ fs) d moved q))
        ∙ seen-cond f (key_eq q k) h (find_in q fs) in
        get-table f fs q both.1
        ∙ elim (key_eq q k) as (λ b. key_eq q k ≡ b → seen f (find_in q fs) ≡ cond b (f h) (seen f (find_in q fs))) [
          | true ↦ λ p. ap (λ r. seen f (find_in r fs)) (key_eq-true q k p) ∙ ap (seen f) both.0 ∙ sym nothing
          | false ↦ λ p. refl
        ] refl
        ∙ sym old)

  -- the row of a slot
  pub get-slot : (f : Held X → Option X) (es : List (List ℕ × Held X)) (i : ℕ) (k : List ℕ) (h : Held X) → IsDistinct es
      → slice_get es i ≡ Some (k, h) → table.get (table_by f es) k ≡ f h
  get-slot f es i k h d at = get-table f es k d ∙ ap (seen f) (find-slot es i k h d at)

  -- how many rows there are, once a key is given one, or none
  pub len-put_new : (m : Table X) (k : List ℕ) (x : X) (b : Bool) → b ≡ is_some (table.get m k) → b ≡ false
      → table.len (table.insert m k x) ≡ table.len m + 1
  len-put_new m k x b is none =
      table.len-insert keys_total m k x ∙ ap (λ c. cond c (table.len m) (table.len m + 1)) (sym is ∙ none)

  pub len-put_same : (m : Table X) (k : List ℕ) (x : X) (b : Bool) → b ≡ is_some (table.get m k) → b ≡ true
      → table.len (table.insert m k x) ≡ table.len m
  len-put_same m k x b is some =
      table.len-insert keys_total m k x ∙ ap (λ c. cond c (table.len m) (table.len m + 1)) (sym is ∙ some)

  pub len-removed : (m : Table X) (k : List ℕ) (b : Bool) → b ≡ is_some (table.get m k) → b ≡ true
      → table.len (table.remove m k) ≡ table.len m - 1
  len-removed m k b is some =
      table.len-remove keys_total m k ∙ ap (λ c. cond c (table.len m - 1) (table.len m)) (sym is ∙ some)

  pub len-not_removed : (m : Table X) (k : List ℕ) (b : Bool) → b ≡ is_some (table.get m k) → b ≡ false
      → table.len (table.remove m k) ≡ table.len m
  len-not_removed m k b is none =
      table.len-remove keys_total m k ∙ ap (λ c. cond c (table.len m - 1) (table.len m)) (sym is ∙ none)

  pub len-some : (m : Table X) (k : List ℕ) (b : Bool) → b ≡ is_some (table.get m k) → b ≡ true → 1 ≤ table.len m
  len-some m k b is some = by (table.len m) refl
    where
      by : (n : ℕ) → table.len m ≡ n → 1 ≤ n
      by zero e =
          let none : is_some (table.get m k) ≡ false =
          ap (λ t. is_some (table.get t k)) (table.empty_of_len m e) ∙ ap is_some (table.get-empty key_cmp k) in
          let yes : is_some (table.get m k) ≡ true = sym is ∙ some in cc
      by (suc n) e = omega arith

  -- a key that has no slot has no row
  pub get-no_slot : (f : Held X → Option X) (es : List (List ℕ × Held X)) (k : List ℕ) → IsDistinct es
      → find_in k es ≡ None → table.get (table_by f es) k ≡ None
  get-no_slot f es k d none = get-table f es k d ∙ ap (seen f) none
