-- What is filed of the items that builds used are those items.
use Rattle.std.proofs.Common.{◌≡◌, ◌∙◌, ◌==◌, ℕ, Bool, true, false, cond, List, [], ◌∷◌, ◌++◌, map, filter, length}
use Rattle.std.proofs.Common.{append_assoc, append-nil, arith, ap, refl, subst, sym}
use Rattle.std.specs.Prelude.{flat_map, T}
use Rattle.std.specs.List.{AllByRecursion}
use Rattle.std.specs.FinMap as table
use Rattle.std.specs.FinMap.Entries.{put, by_order, below_all, is_sorted}
use Rattle.std.specs.declared.cmp.Ordering.{Ordering}
use Rattle.std.specs.declared.cmp.Ordering.TheVariants.{Less, Equal, Greater}
use Rattle.std.specs.Ordering.{is_lt, ordering_reverse}
use Rattle.sheet_core.specs.Filled.{filled, filled_onto}
use Rattle.sheet_core.specs.Sheet.{Table, key_cmp}
use Rattle.sheet_core.proofs.Conditions.{and_parts}
use Rattle.sheet_core.proofs.Keys.{keys_total}
use Rattle.sheet_core.proofs.Totals.{entries-empty}
use Rattle.forest.specs.declared.item.Item.{Item}
use Rattle.forest.specs.declared.place.Place.{Place}
use Rattle.forest.specs.declared.place.Place.TheVariants.{At, In, Output, Sent, Used, Off, Gone}
use Rattle.yard_core.specs.Stock.{Stock, keyed}
use Rattle.list_core.specs.Used.{is_used_by, numbers_used, used_at, used_by, used_in, used_row}
use Rattle.list_core.specs.declared.used.UsedItem.{UsedItem}

-- ---- rows whose keys rise are those of the table that they fill

abbrev entry : UsedItem → List ℕ × UsedItem
entry u = (u.number ∷ [], u)

-- the key is below those of the rows
abbrev IsBelow : List ℕ → List UsedItem → Type 0
IsBelow k us = AllByRecursion (λ u. key_cmp k (u.number ∷ []) ≡ Less) us

abbrev Rise : List UsedItem → Type 0
Rise [] = Unit {0}
Rise (u ∷ us) = IsBelow (u.number ∷ []) us × Rise us

-- the key is above those of the entries
abbrev IsAbove : List (List ℕ × UsedItem) → List ℕ → Type 0
IsAbove es k = AllByRecursion (λ e. key_cmp e.0 k ≡ Less) es

above-push : (es : List (List ℕ × UsedItem)) (u : UsedItem) (k : List ℕ) → IsAbove es k
    → key_cmp (u.number ∷ []) k ≡ Less → IsAbove (es ++ entry u ∷ []) k
above-push [] u k h new = (new, tt)
above-push (e ∷ es) u k h new = (h.0, above-push es u k h.1 new)

put-last : (k : List ℕ) (u : UsedItem) (es : List (List ℕ × UsedItem)) → IsAbove es k
    → put key_cmp k u es ≡ es ++ (k, u) ∷ []
put-last k u [] h = refl
put-last k u (e ∷ es) h =
    ap (λ o. by_order o ((k, u) ∷ e ∷ es) ((e.0, u) ∷ es) (e ∷ put key_cmp k u es))
    (keys_total.antisymm k e.0 ∙ ap ordering_reverse h.0)
    ∙ ap (λ l. e ∷ l) (put-last k u es h.1)

-- each row is above the entries
abbrev AreAbove : List (List ℕ × UsedItem) → List UsedItem → Type 0
AreAbove es us = AllByRecursion (λ u. IsAbove es (u.number ∷ [])) us

above-more : (es : List (List ℕ × UsedItem)) (u : UsedItem) (us : List UsedItem) → AreAbove es us
    → IsBelow (u.number ∷ []) us → AreAbove (es ++ entry u ∷ []) us
above-more es u [] h b = tt
above-more es u (v ∷ us) h b = (above-push es u (v.number ∷ []) h.0 b.0, above-more es u us h.1 b.1)

entries-onto : (t : Table UsedItem) (us : List UsedItem) → Rise us → AreAbove (table.entries t) us
    → table.entries (filled_onto (λ u. u.number ∷ []) t us) ≡ table.entries t ++ map entry us
entries-onto t [] r b = sym (append-nil (table.entries t))
entries-onto t (u ∷ us) r b =
    let one : table.entries (table.insert t (u.number ∷ []) u) ≡ table.entries t ++ entry u ∷ [] =
    table.entries-insert keys_total t (u.number ∷ []) u ∙ put-last (u.number ∷ []) u (table.entries t) b.0 in
    entries-onto (table.insert t (u.number ∷ []) u) us r.1
    (subst (λ (es : List (List ℕ × UsedItem)). AreAbove es us) (sym one) (above-more (table.entries t) u us b.1 r.0))
    ∙ ap (λ (es : List (List ℕ × UsedItem)). es ++ map entry us) one
    ∙ append_assoc (table.entries t) (entry u ∷ []) (map entry us)

above-nothing : (us : List UsedItem) → AreAbove [] us
above-nothing [] = tt
above-nothing (u ∷ us) = (tt, above-nothing us)

each-again : (us : List UsedItem) → map (λ e. e.1) (map entry us) ≡ us
each-again [] = refl
each-again (u ∷ us) = ap (λ l. u ∷ l) (each-again us)

values-filled : (us : List UsedItem) → Rise us → table.values (filled (λ u. u.number ∷ []) us) ≡ us
values-filled us r =
    let none : table.entries table.empty ≡ [] = entries-empty in
    let all : table.entries (filled (λ u. u.number ∷ []) us) ≡ map entry us =
    entries-onto table.empty us r
    (subst (λ (es : List (List ℕ × UsedItem)). AreAbove es us) (sym none) (above-nothing us))
    ∙ ap (λ (es : List (List ℕ × UsedItem)). es ++ map entry us) none in
    ap (map (λ (e : List ℕ × UsedItem). e.1)) all ∙ each-again us

-- ---- the rows of items in order of number

less-is : (o : Ordering) → is_lt o ≡ true → o ≡ Less
less-is Less h = refl
less-is Equal h = cc
less-is Greater h = cc

below-rows : (k : List ℕ) (xs : List Item) → below_all key_cmp k (keyed (λ x. x.number) xs) ≡ true
    → IsBelow k (flat_map used_row xs)
below-rows k [] h = tt
below-rows k (x ∷ xs) h =
    let both = and_parts (is_lt (key_cmp k (x.number ∷ []))) (below_all key_cmp k (keyed (λ x. x.number) xs)) h in
    go x.place (less-is (key_cmp k (x.number ∷ [])) both.0) (below-rows k xs both.1)
  where
    go : (q : Place) → key_cmp k (x.number ∷ []) ≡ Less → IsBelow k (flat_map used_row xs)
        → IsBelow k (used_at x.number q ++ flat_map used_row xs)
    go (At l) here rest = rest
    go (In m) here rest = rest
    go (Output b) here rest = rest
    go (Sent o) here rest = rest
    go (Used b) here rest = (here, rest)
    go (Off reason) here rest = rest
    go Gone here rest = rest

rows-rise : (xs : List Item) → is_sorted key_cmp (keyed (λ x. x.number) xs) ≡ true → Rise (flat_map used_row xs)
rows-rise [] h = tt
rows-rise (x ∷ xs) h =
    let both = and_parts (below_all key_cmp (x.number ∷ []) (keyed (λ x. x.number) xs))
    (is_sorted key_cmp (keyed (λ x. x.number) xs)) h in
    go x.place (below-rows (x.number ∷ []) xs both.0) (rows-rise xs both.1)
  where
    go : (q : Place) → IsBelow (x.number ∷ []) (flat_map used_row xs) → Rise (flat_map used_row xs)
        → Rise (used_at x.number q ++ flat_map used_row xs)
    go (At l) below rest = rest
    go (In m) below rest = rest
    go (Output b) below rest = rest
    go (Sent o) below rest = rest
    go (Used b) below rest = (below, rest)
    go (Off reason) below rest = rest
    go Gone below rest = rest

numbers-of : (build : ℕ) (xs : List Item)
    → map (λ u. u.number) (filter (λ u. u.build == build) (flat_map used_row xs))
    ≡ map (λ x. x.number) (filter (λ x. is_used_by build x.place) xs)
numbers-of build [] = refl
numbers-of build (x ∷ xs) = go x.place (numbers-of build xs)
  where
    go : (q : Place)
        → map (λ u. u.number) (filter (λ u. u.build == build) (flat_map used_row xs))
        ≡ map (λ x. x.number) (filter (λ x. is_used_by build x.place) xs)
        → map (λ u. u.number) (filter (λ u. u.build == build) (used_at x.number q ++ flat_map used_row xs))
        ≡ map (λ x. x.number)
        (cond (is_used_by build q) (x ∷ filter (λ x. is_used_by build x.place) xs)
        (filter (λ x. is_used_by build x.place) xs))
    go (At l) rest = rest
    go (In m) rest = rest
    go (Output b) rest = rest
    go (Sent o) rest = rest
    go (Used b) rest =
        elim (b == build) as (λ t. map (λ (u : UsedItem). u.number)
        (cond t (record { number = x.number; build = b } ∷ filter (λ u. u.build == build) (flat_map used_row xs))
        (filter (λ u. u.build == build) (flat_map used_row xs)))
        ≡ map (λ (y : Item). y.number)
        (cond t (x ∷ filter (λ y. is_used_by build y.place) xs) (filter (λ y. is_used_by build y.place) xs))) [
          | true ↦ ap (λ l. x.number ∷ l) rest
          | false ↦ rest
        ]
    go (Off reason) rest = rest
    go Gone rest = rest

is-T : (b : Bool) → T b → b ≡ true
is-T true h = refl
is-T false h = absurd h

-- what is filed of a sound stock's items
pub used_told : (s : Stock) → table.entries s.items ≡ keyed (λ x. x.number) (table.values s.items) → (build : ℕ)
    → numbers_used build (used_in s) ≡ used_by build s
used_told s own build =
    let sorted : is_sorted key_cmp (keyed (λ x. x.number) (table.values s.items)) ≡ true =
    ap (is_sorted key_cmp) (sym own) ∙ is-T (is_sorted key_cmp (table.entries s.items)) (table.entries_sorted s.items) in
    let values : table.values (used_in s) ≡ flat_map used_row (table.values s.items) =
    values-filled (flat_map used_row (table.values s.items)) (rows-rise (table.values s.items) sorted) in
    ap (λ (us : List UsedItem). map (λ (u : UsedItem). u.number) (filter (λ (u : UsedItem). u.build == build) us)) values
    ∙ numbers-of build (table.values s.items)
