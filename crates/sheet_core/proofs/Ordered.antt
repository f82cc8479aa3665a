-- Entries with distinct keys, once they are sorted by key, are the entries of their table.
use Rattle.std.proofs.Common.{◌≡◌, ℕ, suc, ◌+◌, ◌≤◌, Bool, true, false, cond, List, [], ◌∷◌}
use Rattle.std.proofs.Common.{length, is_some, Option, Some, None, refl, sym, ap, ◌∙◌, arith}
use Rattle.std.specs.FinMap as table
use Rattle.std.specs.FinMap.Entries.{put, by_order, is_some-find}
use Rattle.std.specs.declared.cmp.Ordering.TheVariants.{Less, Equal, Greater}
use Rattle.std.specs.Ordering.{is_eq, is_lt, ordering_reverse}
use Rattle.std.specs.List.{All}
use Rattle.std.specs.List.Sorted.{IsPermutation}
use Rattle.std.proofs.lemmas.List.Sorted.{All-permutation, list_any-IsPermutation}
use Rattle.std.proofs.lemmas.List.Sorted.{IsPermutation-map, length_permutation}
use Rattle.std.proofs.lemmas.List.Elements.{All-nil, All-cons, All-head, All-tail, All-weaker}
use Rattle.sheet_core.specs.Sheet.{key_cmp, IsDistinct, table_of}
use Rattle.sheet_core.proofs.Keys.{key_eq, keys_total, keys_exact, key_eq-self, key_eq-true, key_eq-other}
use Rattle.sheet_core.proofs.Entries.{find_in, not_first}
use Rattle.sheet_core.proofs.Totals.{entries-empty, len-of_rows}

-- of two keys that differ, the one that is not above is below
below : (k q : List ℕ) → is_lt (key_cmp q k) ≡ false → key_eq k q ≡ false → key_cmp k q ≡ Less
below k q up other =
    elim (key_cmp k q) as (λ r. key_cmp k q ≡ r → is_eq r ≡ false → r ≡ Less) [
      | Less ↦ λ p o. refl
      | Equal ↦ λ p o. cc
      | Greater ↦
          λ p o. let turned : key_cmp q k ≡ Less = keys_total.antisymm q k ∙ ap ordering_reverse p in
          let bad = sym up ∙ ap is_lt turned in cc
    ] refl other

none_is : {X : Type 0} (o : Option X) → is_some o ≡ false → o ≡ None
none_is None e = refl
none_is (Some x) e = cc

module _ {X : Type 0} where
  -- no key is below the one before it
  abbrev pub NoneFalls : List (List ℕ × X) → Type 0
  NoneFalls [] = Unit {0}
  NoneFalls (e ∷ []) = Unit {0}
  NoneFalls (e ∷ f ∷ es) = (is_lt (key_cmp f.0 e.0) ≡ false) × NoneFalls (f ∷ es)

  entries-rising : (es : List (List ℕ × X)) → IsDistinct es → NoneFalls es → table.entries (table_of es) ≡ es
  entries-rising [] d up = entries-empty
  entries-rising (e ∷ []) d up =
      table.entries-insert keys_total (table_of []) e.0 e.1 ∙ ap (put key_cmp e.0 e.1) entries-empty
  entries-rising (e ∷ f ∷ es) d up =
      let other : key_eq e.0 f.0 ≡ false = key_eq-other e.0 f.0 (λ s. (not_first f es e.0 d.0).0 (sym s)) in
      table.entries-insert keys_total (table_of (f ∷ es)) e.0 e.1
      ∙ ap (put key_cmp e.0 e.1) (entries-rising (f ∷ es) d.1 up.1)
      ∙ ap (λ o. by_order o (e ∷ f ∷ es) ((f.0, e.1) ∷ es) (f ∷ put key_cmp e.0 e.1 es)) (below e.0 f.0 up.0 other)

  -- each entry is found under its key
  abbrev IsFoundIn : List (List ℕ × X) → List ℕ × X → Type 0
  IsFoundIn es e = find_in e.0 es ≡ Some e.1

  found-more : (e : List ℕ × X) (es : List (List ℕ × X)) (f : List ℕ × X) → find_in e.0 es ≡ None → IsFoundIn es f
      → IsFoundIn (e ∷ es) f
  found-more e es f none here =
      let other : key_eq f.0 e.0 ≡ false =
      key_eq-other f.0 e.0 (λ s. let bad : None ≡ Some f.1 = sym none ∙ sym (ap (λ k. find_in k es) s) ∙ here in cc) in
      ap (λ b. cond b (Some e.1) (find_in f.0 es)) other ∙ here

  found-all : (es : List (List ℕ × X)) → IsDistinct es → All (IsFoundIn es) es
  found-all [] d = All-nil (IsFoundIn [])
  found-all (e ∷ es) d =
      All-cons (IsFoundIn (e ∷ es)) e es (ap (λ b. cond b (Some e.1) (find_in e.0 es)) (key_eq-self e.0))
      (All-weaker (IsFoundIn es) (IsFoundIn (e ∷ es)) (λ f here. found-more e es f d.0 here) es (found-all es d.1))

  found-same : (es fs : List (List ℕ × X)) (q : List ℕ) (v : X) → All (IsFoundIn es) fs → find_in q fs ≡ Some v
      → find_in q es ≡ Some v
  found-same es [] q v all e = cc
  found-same es (f ∷ fs) q v all e =
      elim (key_eq q f.0)
      as (λ b. key_eq q f.0 ≡ b → cond b (Some f.1) (find_in q fs) ≡ Some v → find_in q es ≡ Some v) [
        | true ↦ λ p h. ap (λ k. find_in k es) (key_eq-true q f.0 p) ∙ All-head (IsFoundIn es) f fs all ∙ h
        | false ↦ λ p h. found-same es fs q v (All-tail (IsFoundIn es) f fs all) h
      ] refl e

  pub find-permutation : (es fs : List (List ℕ × X)) → IsDistinct es → IsPermutation es fs → (q : List ℕ)
      → find_in q fs ≡ find_in q es
  find-permutation es fs d moved q =
      let all = All-permutation (IsFoundIn es) es fs moved (found-all es d) in
      let any : is_some (find_in q fs) ≡ is_some (find_in q es) =
      is_some-find key_cmp q fs
      ∙ sym (list_any-IsPermutation (key_eq q) _ _ (IsPermutation-map (λ (e : List ℕ × X). e.0) es fs moved))
      ∙ sym (is_some-find key_cmp q es) in
      elim (find_in q fs) as (λ o. find_in q fs ≡ o → is_some o ≡ is_some (find_in q es) → o ≡ find_in q es) [
        | None ↦ λ p h. sym (none_is (find_in q es) (sym h))
        | Some v ↦ λ p h. sym (found-same es fs q v all p)
      ] refl any

  pub len-at_most : (es : List (List ℕ × X)) → table.len (table_of es) ≤ length es
  len-at_most [] = omega (arith, table.len-empty key_cmp X)
  len-at_most (e ∷ es) =
      let step = table.len-insert keys_total (table_of es) e.0 e.1 in
      let rest = len-at_most es in
      at_most (is_some (table.get (table_of es) e.0)) (table.len (table_of es)) (length es)
      (table.len (table_of (e ∷ es))) step rest
    where
      at_most : (b : Bool) (m n k : ℕ) → k ≡ cond b m (m + 1) → m ≤ n → k ≤ suc n
      at_most true m n k e h = omega arith
      at_most false m n k e h = omega arith

  -- a table as long as the list it is made of: no key stands twice
  IsDistinct-from_len : (es : List (List ℕ × X)) → table.len (table_of es) ≡ length es → IsDistinct es
  IsDistinct-from_len [] e = tt
  IsDistinct-from_len (e ∷ es) long =
      let step = table.len-insert keys_total (table_of es) e.0 e.1 in
      let here =
      new_here (is_some (table.get (table_of es) e.0)) (table.len (table_of es)) (length es)
      (table.len (table_of (e ∷ es))) step long (len-at_most es) in (
        sym (table.get-from_entries keys_total es e.0) ∙ none_is (table.get (table_of es) e.0) here.0,
        IsDistinct-from_len es here.1,
      )
    where
      new_here : (b : Bool) (m n k : ℕ) → k ≡ cond b m (m + 1) → k ≡ suc n → m ≤ n → (b ≡ false) × (m ≡ n)
      new_here true m n k e h le = absurd (omega arith)
      new_here false m n k e h le = (refl, omega arith)

  table-permutation : (es fs : List (List ℕ × X)) → IsDistinct es → IsPermutation es fs → table_of fs ≡ table_of es
  table-permutation es fs d moved = table.same_map keys_total keys_exact _ _ (λ q.
      table.get-from_entries keys_total fs q
      ∙ find-permutation es fs d moved q
      ∙ sym (table.get-from_entries keys_total es q))

  -- entries in another order have distinct keys too
  pub IsDistinct-permutation : (es fs : List (List ℕ × X)) → IsDistinct es → IsPermutation es fs → IsDistinct fs
  IsDistinct-permutation es fs d moved =
      IsDistinct-from_len fs
      (ap table.len (table-permutation es fs d moved) ∙ len-of_rows es d ∙ sym (length_permutation es fs moved))

  pub entries-of_sorted : (es fs : List (List ℕ × X)) → IsDistinct es → IsPermutation es fs → NoneFalls fs
      → fs ≡ table.entries (table_of es)
  entries-of_sorted es fs d moved up =
      sym (entries-rising fs (IsDistinct-permutation es fs d moved) up)
      ∙ ap table.entries (table-permutation es fs d moved)
