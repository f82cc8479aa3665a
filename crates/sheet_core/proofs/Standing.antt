-- Elements of lists, and rows among a table's rows.
use Rattle.std.proofs.Common.{◌≡◌, ◌⊎◌, inl, inr, ℕ, suc, zero, ◌<◌, Bool, true, false, cond}
use Rattle.std.proofs.Common.{List, [], ◌∷◌, map, length, get_or, Some, refl, sym, ap, ◌∙◌, arith}
use Rattle.std.specs.Prelude.{filter}
use Rattle.std.specs.List.{Contains, list_any}
use Rattle.std.specs.FinMap as table
use Rattle.std.specs.FinMap.Entries.{below_all, is_sorted}
use Rattle.std.specs.declared.cmp.Ordering.TheVariants.{Less, Equal, Greater}
use Rattle.std.specs.Ordering.{is_eq, is_lt}
use Rattle.std.proofs.lemmas.Bool.{or_left, or_right}
use Rattle.sheet_core.specs.Rows.{EachRow}
use Rattle.sheet_core.specs.Sheet.{key_cmp, Table}
use Rattle.sheet_core.proofs.Conditions.{and_parts, is_true, or_cases}
use Rattle.sheet_core.proofs.Keys.{key_eq, key_eq-self, key_eq-same, key_eq-other}

-- x stands in the list
abbrev pub Stands : {X : Type 0} → X → List X → Type 0
Stands x [] = ⊥
Stands x (y ∷ ys) = (y ≡ x) ⊎ Stands x ys

less_is : (k q : List ℕ) → is_lt (key_cmp k q) ≡ true → key_cmp k q ≡ Less
less_is k q =
    elim (key_cmp k q) as (λ r. is_lt r ≡ true → r ≡ Less) [ Less ↦ λ h. refl | Equal ↦ λ h. cc | Greater ↦ λ h. cc ]

-- a key above another is not that one
apart : (a b : List ℕ) → key_cmp a b ≡ Less → key_eq b a ≡ false
apart a b h =
    key_eq-other b a
    (λ same. let less : key_eq a b ≡ false = ap is_eq h in
    let tied : key_eq a b ≡ true = key_eq-same a b (sym same) in cc)

module _ {X : Type 0} where
  pub filter_all : (xs : List X) → filter (λ (x : X). true) xs ≡ xs
  filter_all [] = refl
  filter_all (x ∷ xs) = ap (λ l. x ∷ l) (filter_all xs)

  pub Contains-Stands : (xs : List X) (x : X) → Contains xs x → Stands x xs
  Contains-Stands xs x c = go xs c.0 c.1 c.2
    where
      go : (ys : List X) (k : ℕ) → k < length ys → get_or ys k x ≡ x → Stands x ys
      go [] k h e = absurd (omega arith)
      go (y ∷ ys) zero h e = inl e
      go (y ∷ ys) (suc k) h e = inr (go ys k (omega arith) e)

  pub Stands-Contains : (xs : List X) (x : X) → Stands x xs → Contains xs x
  Stands-Contains [] x s = absurd s
  Stands-Contains (y ∷ ys) x s =
      elim s [
        | inl e ↦ (zero, omega arith, e)
        | inr r ↦ let c = Stands-Contains ys x r in (suc c.0, (let lt = c.1 in omega arith), c.2)
      ]

  found-Stands : (es : List (List ℕ × X)) (k : List ℕ) (x : X) → table.find key_cmp k es ≡ Some x
      → Stands x (map (λ e. e.1) es)
  found-Stands [] k x e = cc
  found-Stands (f ∷ fs) k x e =
      elim (key_eq k f.0)
      as (λ b. cond b (Some f.1) (table.find key_cmp k fs) ≡ Some x → (f.1 ≡ x) ⊎ Stands x (map (λ e. e.1) fs)) [
        | true ↦ λ h. inl (same f.1 x h)
        | false ↦ λ h. inr (found-Stands fs k x h)
      ] e
    where
      same : (a b : X) → Some a ≡ Some b → a ≡ b
      same a b e = cc

  -- the row under a key is one of the rows
  pub get-Stands : (m : Table X) (k : List ℕ) (x : X) → table.get m k ≡ Some x → Stands x (table.values m)
  get-Stands m k x e = found-Stands (table.entries m) k x (sym (table.get-entries m k) ∙ e)

  -- each key is above k
  abbrev AreAbove : List ℕ → List (List ℕ × X) → Type 0
  AreAbove k [] = Unit {0}
  AreAbove k (e ∷ es) = (key_cmp k e.0 ≡ Less) × AreAbove k es

  abbrev Rises : List (List ℕ × X) → Type 0
  Rises [] = Unit {0}
  Rises (e ∷ es) = AreAbove e.0 es × Rises es

  AreAbove-from : (k : List ℕ) (es : List (List ℕ × X)) → below_all key_cmp k es ≡ true → AreAbove k es
  AreAbove-from k [] h = tt
  AreAbove-from k (e ∷ es) h =
      let both = and_parts (is_lt (key_cmp k e.0)) (below_all key_cmp k es) h in
      (less_is k e.0 both.0, AreAbove-from k es both.1)

  Rises-from : (es : List (List ℕ × X)) → is_sorted key_cmp es ≡ true → Rises es
  Rises-from [] h = tt
  Rises-from (e ∷ es) h =
      let both = and_parts (below_all key_cmp e.0 es) (is_sorted key_cmp es) h in
      (AreAbove-from e.0 es both.0, Rises-from es both.1)

  -- a row that stands among entries that rise is found under some key, which is above what is below them all
  row-found : (es : List (List ℕ × X)) (x : X) → Rises es → Stands x (map (λ e. e.1) es)
      → (k : List ℕ) × (table.find key_cmp k es ≡ Some x) × ((q : List ℕ) → AreAbove q es → key_cmp q k ≡ Less)
  row-found [] x r s = absurd s
  row-found (e ∷ es) x r s = elim s [
    | inl i ↦ (
      e.0,
      ap (λ b. cond b (Some e.1) (table.find key_cmp e.0 es)) (key_eq-self e.0) ∙ ap (λ y. Some y) i,
      λ q a. a.0,
    )
    | inr t ↦
        let f = row-found es x r.1 t in (
          f.0,
          ap (λ b. cond b (Some e.1) (table.find key_cmp f.0 es)) (apart e.0 f.0 (f.2 e.0 r.0)) ∙ f.1,
          λ q a. f.2 q a.1,
        )
  ]

  -- a row stands under some key
  pub Stands-get : (m : Table X) (x : X) → Stands x (table.values m) → (k : List ℕ) × (table.get m k ≡ Some x)
  Stands-get m x s =
      let f = row-found (table.entries m) x (Rises-from (table.entries m) (is_true _ (table.entries_sorted m))) s in
      (f.0, table.get-entries m f.0 ∙ f.1)

  -- what holds of each row holds of those that stand among the table's
  pub each-value : (P : X → Type 0) (m : Table X) → EachRow P m → (x : X) → Stands x (table.values m) → P x
  each-value P m each x s = let g = Stands-get m x s in each g.0 x g.1

  -- what a filter leaves stood there before
  pub Stands-filtered : (p : X → Bool) (xs : List X) (x : X) → Stands x (filter p xs) → Stands x xs
  Stands-filtered p [] x s = s
  Stands-filtered p (y ∷ ys) x s = go (p y) s (Stands-filtered p ys x)
    where
      go : (b : Bool) → Stands x (cond b (y ∷ filter p ys) (filter p ys)) → (Stands x (filter p ys) → Stands x ys)
          → (y ≡ x) ⊎ Stands x ys
      go true (inl e) ih = inl e
      go true (inr r) ih = inr (ih r)
      go false r ih = inr (ih r)

  -- what a test over a list finds
  pub any-found : (p : X → Bool) (xs : List X) → list_any p xs ≡ true → (x : X) × Stands x xs × (p x ≡ true)
  any-found p [] e = cc
  any-found p (x ∷ xs) e =
      elim (or_cases (p x) (list_any p xs) e) [
        | inl h ↦ (x, inl refl, h)
        | inr h ↦ let f = any-found p xs h in (f.0, inr f.1, f.2)
      ]

  pub any-from : (p : X → Bool) (xs : List X) (x : X) → Stands x xs → p x ≡ true → list_any p xs ≡ true
  any-from p [] x s e = absurd s
  any-from p (y ∷ ys) x s e =
      elim s [
        | inl h ↦ or_left (p y) (list_any p ys) (ap p h ∙ e)
        | inr h ↦ or_right (p y) (list_any p ys) (any-from p ys x h e)
      ]
