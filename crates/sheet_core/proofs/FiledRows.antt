-- The rows of numbers that rise, where each row that passes a test has one of them: those that pass are the table's
-- rows that do.
use Rattle.std.proofs.Common.{◌≡◌, ℕ, Bool, true, false, cond, ◌||◌, List, []}
use Rattle.std.proofs.Common.{◌∷◌, map, Option, Some, None, refl, sym, ap, ◌∙◌}
use Rattle.std.specs.Prelude.{filter, T}
use Rattle.std.specs.FinMap as table
use Rattle.std.specs.FinMap.Entries.{below_all, is_sorted, same_entries}
use Rattle.std.specs.List.{list_any, AllByRecursion}
use Rattle.std.specs.List.Sorted.{IsStrictlySortedBy}
use Rattle.std.specs.Ordering.{nat_cmp, is_lt, ordering_then, is_eq}
use Rattle.std.specs.declared.cmp.Ordering.TheVariants.{Less, Equal}
use Rattle.sheet_core.specs.Index.{rows_at, Rise}
use Rattle.sheet_core.specs.Sheet.{key_cmp, Table}
use Rattle.sheet_core.specs.Slots.{with_row}
use Rattle.sheet_core.proofs.Conditions.{and_both}
use Rattle.sheet_core.proofs.Entries.{find_in}
use Rattle.sheet_core.proofs.Keys.{key_eq, keys_total, keys_exact, key_eq-true}
use Rattle.sheet_core.proofs.Scans.{any-left, any-met, of_rows, passes}
use Rattle.sheet_core.proofs.Selects.{passing, values-passing, none-passing}
use Rattle.sheet_core.proofs.Selects.{AreAbove, AreAbove-passing, Rises, Rises-from}

module _ {X : Type 0} (p : X → Bool) where
  pub filter-taken : (k : List ℕ) (x : X) (rs : List (List ℕ × X)) → p x ≡ true
      → filter p (of_rows (with_row k (Some x) rs)) ≡ x ∷ filter p (of_rows rs)
  filter-taken k x rs passes = ap (λ b. cond b (x ∷ filter p (of_rows rs)) (filter p (of_rows rs))) passes

  pub filter-left : (k : List ℕ) (x : X) (rs : List (List ℕ × X)) → p x ≡ false
      → filter p (of_rows (with_row k (Some x) rs)) ≡ filter p (of_rows rs)
  filter-left k x rs fails = ap (λ b. cond b (x ∷ filter p (of_rows rs)) (filter p (of_rows rs))) fails

  -- the rows at numbers, of which n is the first
  module _ (t : Table X) (ns ms : List ℕ) (n : ℕ) (first : ns ≡ n ∷ ms) where
    pub any-at_met : (x : X) → table.get t (n ∷ []) ≡ Some x → p x ≡ true
        → list_any p (of_rows (rows_at t ns)) ≡ true
    any-at_met x row met =
        any-met p (rows_at t ns) (rows_at t ms) (n ∷ []) (table.get t (n ∷ [])) (ap (λ l. rows_at t l) first) x row met

    pub any-at_left : (o : Option X) → table.get t (n ∷ []) ≡ o → passes p o ≡ false
        → list_any p (of_rows (rows_at t ns)) ≡ list_any p (of_rows (rows_at t ms))
    any-at_left o row fails =
        any-left p (rows_at t ns) (rows_at t ms) (n ∷ []) (table.get t (n ∷ [])) (ap (λ l. rows_at t l) first)
        (ap (passes p) row ∙ fails)

    filter-at : (o : Option X) → table.get t (n ∷ []) ≡ o
        → filter p (of_rows (rows_at t ns)) ≡ filter p (of_rows (with_row (n ∷ []) o (rows_at t ms)))
    filter-at o row =
        ap (λ l. filter p (of_rows (rows_at t l))) first
        ∙ ap (λ r. filter p (of_rows (with_row (n ∷ []) r (rows_at t ms)))) row

    pub filter-at_taken : (x : X) → table.get t (n ∷ []) ≡ Some x → p x ≡ true
        → filter p (of_rows (rows_at t ns)) ≡ x ∷ filter p (of_rows (rows_at t ms))
    filter-at_taken x row met = filter-at (Some x) row ∙ filter-taken (n ∷ []) x (rows_at t ms) met

    pub filter-at_left : (x : X) → table.get t (n ∷ []) ≡ Some x → p x ≡ false
        → filter p (of_rows (rows_at t ns)) ≡ filter p (of_rows (rows_at t ms))
    filter-at_left x row fails = filter-at (Some x) row ∙ filter-left (n ∷ []) x (rows_at t ms) fails

    pub filter-at_none : table.get t (n ∷ []) ≡ None
        → filter p (of_rows (rows_at t ns)) ≡ filter p (of_rows (rows_at t ms))
    filter-at_none none = filter-at None none

  -- a row or none, where it passes
  abbrev passed : Option X → Option X
  passed None = None
  passed (Some x) = cond (p x) (Some x) None

  none-above : (k : List ℕ) (es : List (List ℕ × X)) → AreAbove p k es → find_in k es ≡ None
  none-above k [] a = refl
  none-above k (e ∷ es) a = ap (λ r. cond (is_eq r) (Some e.1) (find_in k es)) a.0 ∙ none-above k es a.1

  Rises-passing : (es : List (List ℕ × X)) → Rises p es → Rises p (passing p es)
  Rises-passing [] r = tt
  Rises-passing (e ∷ es) r =
      elim (p e.1) as (λ b. Rises p (cond b (e ∷ passing p es) (passing p es))) [
        | true ↦ (AreAbove-passing p e.0 es r.0, Rises-passing es r.1)
        | false ↦ Rises-passing es r.1
      ]

  find-passing : (q : List ℕ) (es : List (List ℕ × X)) → Rises p es → find_in q (passing p es) ≡ passed (find_in q es)
  find-passing q [] r = refl
  find-passing q (e ∷ es) r = by (key_eq q e.0) refl (p e.1) refl (find-passing q es r.1)
    where
      by : (b : Bool) → key_eq q e.0 ≡ b → (c : Bool) → p e.1 ≡ c → find_in q (passing p es) ≡ passed (find_in q es)
          → find_in q (cond c (e ∷ passing p es) (passing p es)) ≡ passed (cond b (Some e.1) (find_in q es))
      by true s true y rest =
          ap (λ b. cond b (Some e.1) (find_in q (passing p es))) s ∙ sym (ap (λ b. cond b (Some e.1) None) y)
      by true s false y rest =
          none-passing p q es (ap (λ k. find_in k es) (key_eq-true q e.0 s) ∙ none-above e.0 es r.0)
          ∙ sym (ap (λ b. cond b (Some e.1) None) y)
      by false s true y rest = ap (λ b. cond b (Some e.1) (find_in q (passing p es))) s ∙ rest
      by false s false y rest = rest

  below-from : (k : List ℕ) (es : List (List ℕ × X)) → AreAbove p k es → below_all key_cmp k es ≡ true
  below-from k [] a = refl
  below-from k (e ∷ es) a =
      and_both (is_lt (key_cmp k e.0)) (below_all key_cmp k es) (ap is_lt a.0) (below-from k es a.1)

  sorted-from : (es : List (List ℕ × X)) → Rises p es → is_sorted key_cmp es ≡ true
  sorted-from [] r = refl
  sorted-from (e ∷ es) r =
      and_both (below_all key_cmp e.0 es) (is_sorted key_cmp es) (below-from e.0 es r.0) (sorted-from es r.1)

  any-passing : (xs : List X) → list_any p xs ≡ list_any p (filter p xs)
  any-passing [] = refl
  any-passing (x ∷ xs) = by (p x) refl (any-passing xs)
    where
      by : (b : Bool) → p x ≡ b → list_any p xs ≡ list_any p (filter p xs)
          → (b || list_any p xs) ≡ list_any p (cond b (x ∷ filter p xs) (filter p xs))
      by true y rest = sym (ap (λ b. b || list_any p (filter p xs)) y)
      by false y rest = rest

  module _ (t : Table X) where
    AreAbove-rows : (n : ℕ) (ns : List ℕ) → AllByRecursion (λ m. nat_cmp n m ≡ Less) ns
        → AreAbove p (n ∷ []) (rows_at t ns)
    AreAbove-rows n [] up = tt
    AreAbove-rows n (m ∷ ms) up =
        elim (table.get t (m ∷ [])) as (λ o. AreAbove p (n ∷ []) (with_row (m ∷ []) o (rows_at t ms))) [
          | None ↦ AreAbove-rows n ms up.1
          | Some x ↦ (ap (λ o. ordering_then o Equal) up.0, AreAbove-rows n ms up.1)
        ]

    Rises-rows : (ns : List ℕ) → Rise ns → Rises p (rows_at t ns)
    unfolding IsStrictlySortedBy
    Rises-rows [] up = tt
    Rises-rows (n ∷ ns) up =
        elim (table.get t (n ∷ [])) as (λ o. Rises p (with_row (n ∷ []) o (rows_at t ns))) [
          | None ↦ Rises-rows ns up.1
          | Some x ↦ (AreAbove-rows n ns up.0, Rises-rows ns up.1)
        ]

    Rises-entries : Rises p (table.entries t)
    Rises-entries = Rises-from p (table.entries t) (sorted_is _ (table.entries_sorted t))
      where
        sorted_is : (b : Bool) → T b → b ≡ true
        sorted_is true h = refl
        sorted_is false h = absurd h

    -- whether the key is one of the numbers
    abbrev is_one : List ℕ → List ℕ → Bool
    is_one q ns = list_any (λ n. key_eq q (n ∷ [])) ns

    find-rows : (q : List ℕ) (ns : List ℕ) → find_in q (rows_at t ns) ≡ cond (is_one q ns) (table.get t q) None
    find-rows q [] = refl
    find-rows q (n ∷ ns) = by (key_eq q (n ∷ [])) refl (table.get t (n ∷ [])) refl (find-rows q ns)
      where
        nothing : (b : Bool) → ◌≡◌ {A = Option X} (cond b None None) None
        nothing true = refl
        nothing false = refl

        by : (b : Bool) → key_eq q (n ∷ []) ≡ b → (o : Option X) → table.get t (n ∷ []) ≡ o
            → find_in q (rows_at t ns) ≡ cond (is_one q ns) (table.get t q) None
            → find_in q (with_row (n ∷ []) o (rows_at t ns)) ≡ cond (b || is_one q ns) (table.get t q) None
        by true s None e rest =
            let gone : table.get t q ≡ None = ap (table.get t) (key_eq-true q (n ∷ []) s) ∙ e in
            rest ∙ ap (λ r. cond (is_one q ns) r None) gone ∙ nothing (is_one q ns) ∙ sym gone
        by true s (Some x) e rest =
            ap (λ b. cond b (Some x) (find_in q (rows_at t ns))) s
            ∙ sym (ap (table.get t) (key_eq-true q (n ∷ []) s) ∙ e)
        by false s None e rest = rest
        by false s (Some x) e rest = ap (λ b. cond b (Some x) (find_in q (rows_at t ns))) s ∙ rest

    module _ (ns : List ℕ) (up : Rise ns)
        (covered : (k : List ℕ) (x : X) → table.get t k ≡ Some x → p x ≡ true → is_one k ns ≡ true) where
      same-found : (q : List ℕ) → find_in q (passing p (rows_at t ns)) ≡ find_in q (passing p (table.entries t))
      same-found q =
          find-passing q (rows_at t ns) (Rises-rows ns up) ∙ ap passed (find-rows q ns)
          ∙ by (table.get t q) refl (is_one q ns) refl
          ∙ ap passed (table.get-entries t q) ∙ sym (find-passing q (table.entries t) Rises-entries)
        where
          by : (o : Option X) → table.get t q ≡ o → (b : Bool) → is_one q ns ≡ b → passed (cond b o None) ≡ passed o
          by o e true a = refl
          by None e false a = refl
          by (Some x) e false a = sym (fails (p x) refl)
            where
              fails : (c : Bool) → p x ≡ c → cond c (Some x) None ≡ None
              fails false y = refl
              fails true y = let yes = covered q x e y in cc

      same-passing : passing p (rows_at t ns) ≡ passing p (table.entries t)
      same-passing =
          same_entries key_cmp keys_total keys_exact (passing p (rows_at t ns)) (passing p (table.entries t))
          (tested _ (sorted-from _ (Rises-passing _ (Rises-rows ns up))))
          (tested _ (sorted-from _ (Rises-passing _ Rises-entries)))
          same-found
        where
          tested : (b : Bool) → b ≡ true → T b
          tested true e = tt
          tested false e = cc

      pub selected-filed : filter p (of_rows (rows_at t ns)) ≡ filter p (table.values t)
      selected-filed =
          sym (values-passing p (rows_at t ns))
          ∙ ap (map (λ (e : List ℕ × X). e.1)) same-passing
          ∙ values-passing p (table.entries t)

      pub any-filed : list_any p (of_rows (rows_at t ns)) ≡ list_any p (table.values t)
      any-filed =
          any-passing (of_rows (rows_at t ns)) ∙ ap (list_any p) selected-filed ∙ sym (any-passing (table.values t))
