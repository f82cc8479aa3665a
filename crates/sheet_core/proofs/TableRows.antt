-- Tables without some of their rows: their rows in order, and what stands under a key.
use Rattle.std.proofs.Common.{◌≡◌, ℕ, Bool, true, false, not, cond, List, [], ◌∷◌, map, Some, None, refl, sym, ap, ◌∙◌}
use Rattle.std.specs.Prelude.{filter, T}
use Rattle.std.specs.FinMap as table
use Rattle.std.specs.FinMap.Entries.{put, by_order}
use Rattle.std.specs.Ordering.{is_eq}
use Rattle.sheet_core.specs.Sheet.{Table, key_cmp}
use Rattle.sheet_core.proofs.Entries.{find_in}
use Rattle.sheet_core.proofs.Keys.{key_eq, key_eq-true, keys_total}
use Rattle.sheet_core.proofs.Selects.{AreAbove, Rises, Rises-from, none-passing, passing, values-passing}
use Rattle.sheet_core.proofs.Totals.{entries-empty}
use Rattle.sheet_core.specs.TableRows.{without_rows}

module _ {X : Type 0} where
  pub any : X → Bool
  any x = true

  -- the keys of a table's entries rise
  pub rises-entries : (t : Table X) → Rises any (table.entries t)
  rises-entries t = Rises-from any (table.entries t) (sorted_is _ (table.entries_sorted t))
    where
      sorted_is : (b : Bool) → T b → b ≡ true
      sorted_is true h = refl
      sorted_is false h = absurd h

  put-front : (k : List ℕ) (x : X) (es : List (List ℕ × X)) → AreAbove any k es → put key_cmp k x es ≡ (k, x) ∷ es
  put-front k x [] a = refl
  put-front k x (e ∷ es) a = ap (λ o. by_order o ((k, x) ∷ e ∷ es) ((e.0, x) ∷ es) (e ∷ put key_cmp k x es)) a.0

  -- entries whose keys rise are those of their table
  pub entries-from : (es : List (List ℕ × X)) → Rises any es → table.entries (table.from_entries {R = key_cmp} es) ≡ es
  entries-from [] r = entries-empty
  entries-from (e ∷ es) r =
      table.entries-insert keys_total (table.from_entries es) e.0 e.1
      ∙ ap (put key_cmp e.0 e.1) (entries-from es r.1)
      ∙ put-front e.0 e.1 es r.0

  -- nothing is found below keys that are all above
  find-above : (k : List ℕ) (es : List (List ℕ × X)) → AreAbove any k es → find_in k es ≡ None
  find-above k [] a = refl
  find-above k (e ∷ es) a = ap (λ o. cond (is_eq o) (Some e.1) (find_in k es)) a.0 ∙ find-above k es a.1

  module _ (test : X → Bool) where
    abbrev stays : X → Bool
    stays x = not (test x)

    rises-passing : (es : List (List ℕ × X)) → Rises any es → Rises any (passing stays es)
    rises-passing [] r = tt
    rises-passing (e ∷ es) r =
        elim (stays e.1) as (λ b. Rises any (cond b (e ∷ passing stays es) (passing stays es))) [
          | true ↦ (above e.0 es r.0, rises-passing es r.1)
          | false ↦ rises-passing es r.1
        ]
      where
        above : (k : List ℕ) (es : List (List ℕ × X)) → AreAbove any k es → AreAbove any k (passing stays es)
        above k [] a = tt
        above k (f ∷ fs) a =
            elim (stays f.1) as (λ b. AreAbove any k (cond b (f ∷ passing stays fs) (passing stays fs))) [
              | true ↦ (a.0, above k fs a.1)
              | false ↦ above k fs a.1
            ]

    pub entries-without : (t : Table X) → table.entries (without_rows test t) ≡ passing stays (table.entries t)
    entries-without t =
        entries-from (passing stays (table.entries t)) (rises-passing (table.entries t) (rises-entries t))

    -- the rows that stay, in order
    pub values-without : (t : Table X) → table.values (without_rows test t) ≡ filter stays (table.values t)
    values-without t = ap (map (λ (e : List ℕ × X). e.1)) (entries-without t) ∙ values-passing stays (table.entries t)

    find-passing : (k : List ℕ) (x : X) (es : List (List ℕ × X)) → Rises any es → find_in k (passing stays es) ≡ Some x
        → (find_in k es ≡ Some x) × (test x ≡ false)
    find-passing k x [] r e = cc
    find-passing k x (f ∷ fs) r e = go (key_eq k f.0) refl (test f.1) refl e (find-passing k x fs r.1)
      where
        same : (a b : X) → Some a ≡ Some b → a ≡ b
        same a b h = cc

        go : (b : Bool) → key_eq k f.0 ≡ b → (c : Bool) → test f.1 ≡ c
            → find_in k (cond (not c) (f ∷ passing stays fs) (passing stays fs)) ≡ Some x
            → (find_in k (passing stays fs) ≡ Some x → (find_in k fs ≡ Some x) × (test x ≡ false))
            → (cond b (Some f.1) (find_in k fs) ≡ Some x) × (test x ≡ false)
        go true p false q h ih =
            let here : cond true (Some f.1) (find_in k (passing stays fs)) ≡ Some x =
            ap (λ b. cond b (Some f.1) (find_in k (passing stays fs))) (sym p) ∙ h in
            (here, ap test (sym (same f.1 x here)) ∙ q)
        go true p true q h ih =
            let absent : find_in k fs ≡ None = ap (λ j. find_in j fs) (key_eq-true k f.0 p) ∙ find-above f.0 fs r.0 in
            let none : None ≡ Some x = sym (none-passing stays k fs absent) ∙ h in
            cc
        go false p false q h ih = ih (ap (λ b. cond b (Some f.1) (find_in k (passing stays fs))) (sym p) ∙ h)
        go false p true q h ih = ih h

    -- a row that stayed was there, and doesn't pass
    pub get-without : (t : Table X) (k : List ℕ) (x : X) → table.get (without_rows test t) k ≡ Some x
        → (table.get t k ≡ Some x) × (test x ≡ false)
    get-without t k x e =
        let found =
        find-passing k x (table.entries t) (rises-entries t)
        (sym (table.get-from_entries keys_total (passing stays (table.entries t)) k) ∙ e) in
        (table.get-entries t k ∙ found.0, found.1)

    find-kept : (k : List ℕ) (x : X) (es : List (List ℕ × X)) → find_in k es ≡ Some x → test x ≡ false
        → find_in k (passing stays es) ≡ Some x
    find-kept k x [] e h = cc
    find-kept k x (f ∷ fs) e h = go (key_eq k f.0) refl (test f.1) refl e (λ i. find-kept k x fs i h)
      where
        same : (a b : X) → Some a ≡ Some b → a ≡ b
        same a b h = cc

        go : (b : Bool) → key_eq k f.0 ≡ b → (c : Bool) → test f.1 ≡ c → cond b (Some f.1) (find_in k fs) ≡ Some x
            → (find_in k fs ≡ Some x → find_in k (passing stays fs) ≡ Some x)
            → find_in k (cond (not c) (f ∷ passing stays fs) (passing stays fs)) ≡ Some x
        go true p false q i ih = ap (λ b. cond b (Some f.1) (find_in k (passing stays fs))) p ∙ i
        go true p true q i ih = let clash : true ≡ false = sym q ∙ ap test (same f.1 x i) ∙ h in cc
        go false p false q i ih = ap (λ b. cond b (Some f.1) (find_in k (passing stays fs))) p ∙ ih i
        go false p true q i ih = ih i

    -- a row that doesn't pass stays
    pub get-kept : (t : Table X) (k : List ℕ) (x : X) → table.get t k ≡ Some x → test x ≡ false
        → table.get (without_rows test t) k ≡ Some x
    get-kept t k x e h =
        table.get-from_entries keys_total (passing stays (table.entries t)) k
        ∙ find-kept k x (table.entries t) (sym (table.get-entries t k) ∙ e) h
