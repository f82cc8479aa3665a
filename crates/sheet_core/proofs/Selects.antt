-- The entries that pass a test, in order of key.
use Rattle.std.proofs.Common.{◌≡◌, ℕ, Bool, true, false, cond, List, [], ◌∷◌, map, Some, None, refl, sym, ap, ◌∙◌}
use Rattle.std.specs.Prelude.{filter, ◌&&◌, T}
use Rattle.std.specs.FinMap as table
use Rattle.std.specs.FinMap.Entries.{put, by_order, below_all, is_sorted}
use Rattle.std.specs.declared.cmp.Ordering.TheVariants.{Less, Equal, Greater}
use Rattle.std.specs.Ordering.{is_eq, is_lt}
use Rattle.sheet_core.specs.Sheet.{key_cmp, IsDistinct, table_of}
use Rattle.sheet_core.proofs.Keys.{keys_total, key_eq-other}
use Rattle.sheet_core.proofs.Entries.{find_in, get-absent, not_first}
use Rattle.sheet_core.proofs.Totals.{entries-empty}
use Rattle.sheet_core.proofs.Ordered.{NoneFalls, entries-of_sorted}
use Rattle.std.specs.List.Sorted.{IsPermutation}

module _ {X : Type 0} where
  module _ (p : X → Bool) where
    abbrev pub passing : List (List ℕ × X) → List (List ℕ × X)
    passing = filter (λ (e : List ℕ × X). p e.1)

    pub none-passing : (k : List ℕ) (es : List (List ℕ × X)) → find_in k es ≡ None → find_in k (passing es) ≡ None
    none-passing k [] none = refl
    none-passing k (e ∷ es) none =
        let other = not_first e es k none in
        let rest = none-passing k es other.1 in
        elim (p e.1) as (λ b. find_in k (cond b (e ∷ passing es) (passing es)) ≡ None) [
          | true ↦
              ap (λ b. cond b (Some e.1) (find_in k (passing es))) (key_eq-other k e.0 (λ s. other.0 (sym s))) ∙ rest
          | false ↦ rest
        ]

    pub values-passing : (es : List (List ℕ × X))
        → map (λ (e : List ℕ × X). e.1) (passing es) ≡ filter p (map (λ (e : List ℕ × X). e.1) es)
    values-passing [] = refl
    values-passing (e ∷ es) =
        elim (p e.1) as (λ b. map (λ (e : List ℕ × X). e.1) (cond b (e ∷ passing es) (passing es))
        ≡ cond b (e.1 ∷ filter p (map (λ (e : List ℕ × X). e.1) es)) (filter p (map (λ (e : List ℕ × X). e.1) es))) [
          | true ↦ ap (λ r. e.1 ∷ r) (values-passing es)
          | false ↦ values-passing es
        ]

    -- each key is above k
    abbrev pub AreAbove : List ℕ → List (List ℕ × X) → Type 0
    AreAbove k [] = Unit {0}
    AreAbove k (e ∷ es) = (key_cmp k e.0 ≡ Less) × AreAbove k es

    put-front : (k : List ℕ) (x : X) (es : List (List ℕ × X)) → AreAbove k es → put key_cmp k x es ≡ (k, x) ∷ es
    put-front k x [] a = refl
    put-front k x (e ∷ es) a = ap (λ o. by_order o ((k, x) ∷ e ∷ es) ((e.0, x) ∷ es) (e ∷ put key_cmp k x es)) a.0

    pub AreAbove-passing : (k : List ℕ) (es : List (List ℕ × X)) → AreAbove k es → AreAbove k (passing es)
    AreAbove-passing k [] a = tt
    AreAbove-passing k (e ∷ es) a =
        elim (p e.1) as (λ b. AreAbove k (cond b (e ∷ passing es) (passing es))) [
          | true ↦ (a.0, AreAbove-passing k es a.1)
          | false ↦ AreAbove-passing k es a.1
        ]

    AreAbove-more : (k q : List ℕ) (es : List (List ℕ × X)) → key_cmp k q ≡ Less → AreAbove q es → AreAbove k es
    AreAbove-more k q [] low a = tt
    AreAbove-more k q (e ∷ es) low a = (keys_total.trans k q e.0 low a.0, AreAbove-more k q es low a.1)

    -- the keys rise
    abbrev pub Rises : List (List ℕ × X) → Type 0
    Rises [] = Unit {0}
    Rises (e ∷ es) = AreAbove e.0 es × Rises es

    less_is : (k q : List ℕ) (b : Bool) → (is_lt (key_cmp k q) && b) ≡ true → (key_cmp k q ≡ Less) × (b ≡ true)
    less_is k q b = elim (key_cmp k q) as (λ r. (is_lt r && b) ≡ true → (r ≡ Less) × (b ≡ true)) [
      | Less ↦ λ h. (refl, h)
      | Equal ↦ λ h. cc
      | Greater ↦ λ h. cc
    ]

    AreAbove-from : (k : List ℕ) (es : List (List ℕ × X)) → below_all key_cmp k es ≡ true → AreAbove k es
    AreAbove-from k [] h = tt
    AreAbove-from k (e ∷ es) h =
        let both = less_is k e.0 (below_all key_cmp k es) h in
        (both.0, AreAbove-from k es both.1)

    and_is : (a b : Bool) → (a && b) ≡ true → (a ≡ true) × (b ≡ true)
    and_is true b h = (refl, h)
    and_is false b h = cc

    pub Rises-from : (es : List (List ℕ × X)) → is_sorted key_cmp es ≡ true → Rises es
    Rises-from [] h = tt
    Rises-from (e ∷ es) h =
        let both = and_is (below_all key_cmp e.0 es) (is_sorted key_cmp es) h in
        (AreAbove-from e.0 es both.0, Rises-from es both.1)

    put-passing : (k : List ℕ) (x : X) (es : List (List ℕ × X)) → Rises es → find_in k es ≡ None
        → passing (put key_cmp k x es) ≡ cond (p x) (put key_cmp k x (passing es)) (passing es)
    put-passing k x [] r none = refl
    put-passing k x (e ∷ es) r none =
        elim (key_cmp k e.0) as (λ o. key_cmp k e.0 ≡ o → is_eq o ≡ false
        → passing (by_order o ((k, x) ∷ e ∷ es) ((e.0, x) ∷ es) (e ∷ put key_cmp k x es))
        ≡ cond (p x) (put key_cmp k x (passing (e ∷ es))) (passing (e ∷ es))) [
          | Less ↦ λ c o.
              let front =
              put-front k x (passing (e ∷ es)) (AreAbove-passing k (e ∷ es) (c, AreAbove-more k e.0 es c r.0)) in
              elim (p x) as (λ b. cond b ((k, x) ∷ passing (e ∷ es)) (passing (e ∷ es))
              ≡ cond b (put key_cmp k x (passing (e ∷ es))) (passing (e ∷ es))) [ true ↦ sym front | false ↦ refl ]
          | Equal ↦ λ c o. cc
          | Greater ↦ λ c o.
              let rest = put-passing k x es r.1 (not_first e es k none).1 in
              elim (p e.1) as (λ b. cond b (e ∷ passing (put key_cmp k x es)) (passing (put key_cmp k x es)) ≡ cond
              (p x) (put key_cmp k x (cond b (e ∷ passing es) (passing es))) (cond b (e ∷ passing es) (passing es))) [
                | true ↦
                    let skip : put key_cmp k x (e ∷ passing es) ≡ e ∷ put key_cmp k x (passing es) =
                    ap (λ o.
                    by_order o ((k, x) ∷ e ∷ passing es) ((e.0, x) ∷ passing es) (e ∷ put key_cmp k x (passing es)))
                    c in
                    ap (λ l. e ∷ l) rest
                    ∙ elim (p x) as (λ b. e ∷ cond b (put key_cmp k x (passing es)) (passing es)
                    ≡ cond b (put key_cmp k x (e ∷ passing es)) (e ∷ passing es)) [ true ↦ sym skip | false ↦ refl ]
                | false ↦ rest
              ]
        ] refl (key_eq-other k e.0 (λ s. (not_first e es k none).0 (sym s)))

    -- the passing entries of a table are the table of the passing entries
    pub entries-passing : (es : List (List ℕ × X)) → IsDistinct es
        → table.entries (table_of (passing es)) ≡ passing (table.entries (table_of es))
    entries-passing [] d = entries-empty ∙ sym (ap passing entries-empty)
    entries-passing (e ∷ es) d =
        let m = table_of es in
        let rest = entries-passing es d.1 in
        let absent : find_in e.0 (table.entries m) ≡ None = sym (table.get-entries m e.0) ∙ get-absent es e.0 d.0 in
        let put_in =
        ap passing (table.entries-insert keys_total m e.0 e.1) ∙ put-passing e.0 e.1 (table.entries m)
        (Rises-from (table.entries m) (sorted_is _ (table.entries_sorted m))) absent in
        elim (p e.1) as (λ b. table.entries (table_of (cond b (e ∷ passing es) (passing es)))
        ≡ cond b (put key_cmp e.0 e.1 (passing (table.entries m))) (passing (table.entries m))) [
          | true ↦ table.entries-insert keys_total (table_of (passing es)) e.0 e.1 ∙ ap (put key_cmp e.0 e.1) rest
          | false ↦ rest
        ] ∙ sym put_in
      where
        sorted_is : (b : Bool) → T b → b ≡ true
        sorted_is true h = refl
        sorted_is false h = absurd h

    IsDistinct-passing : (es : List (List ℕ × X)) → IsDistinct es → IsDistinct (passing es)
    IsDistinct-passing [] d = tt
    IsDistinct-passing (e ∷ es) d =
        elim (p e.1) as (λ b. IsDistinct (cond b (e ∷ passing es) (passing es))) [
          | true ↦ (none-passing e.0 es d.0, IsDistinct-passing es d.1)
          | false ↦ IsDistinct-passing es d.1
        ]

    -- the passing entries, once they are sorted, are those of the table
    pub sorted-passing : (es fs : List (List ℕ × X)) → IsDistinct es → IsPermutation (passing es) fs → NoneFalls fs
        → fs ≡ passing (table.entries (table_of es))
    sorted-passing es fs d moved up =
        entries-of_sorted (passing es) fs (IsDistinct-passing es d) moved up ∙ entries-passing es d
