-- Sums over rows.
use Rattle.std.proofs.Common.{◌≡◌, ℕ, ◌+◌, Bool, true, false, cond, List, [], ◌∷◌}
use Rattle.std.proofs.Common.{refl, ap, sym, ◌∙◌, arith, Option, Some, None, eqb-true}
use Rattle.std.specs.Prelude.{◌==◌, ◌&&◌, if◌then◌else◌, filter}
use Rattle.std.proofs.lemmas.Bool.{eqb-false}
use Rattle.forest.specs.declared.item.Item.{Item}
use Rattle.forest.specs.declared.place.Place.{Place}
use Rattle.forest.specs.Forest.{Node, Trees, weigh, held}
use Rattle.forest.specs.Rows.{parent_in, row_at, lies_in}
use Rattle.forest.specs.Tables.{trees_from, node_of, roots_from}
use Rattle.forest.proofs.Sorts.{Above, Rising}
use Rattle.yard_core.specs.Climbs.{above, over, at_row, in_rows}

-- the sum over the rows that pass
abbrev pub added : (Item → Bool) → (Item → ℕ) → List Item → ℕ
added p v [] = 0
added p v (x ∷ xs) = (if p x then v x else 0) + added p v xs

-- the sum over all rows
abbrev pub summed : (Item → ℕ) → List Item → ℕ
summed v [] = 0
summed v (x ∷ xs) = v x + summed v xs

pub added-same : (p : Item → Bool) (v u : Item → ℕ) (xs : List Item) → ((x : Item) → v x ≡ u x)
    → added p v xs ≡ added p u xs
added-same p v u [] h = refl
added-same p v u (x ∷ xs) h = rw (h x, added-same p v u xs h) refl

pub added-split : (p : Item → Bool) (v u : Item → ℕ) (xs : List Item)
    → added p (λ x. v x + u x) xs ≡ added p v xs + added p u xs
added-split p v u [] = refl
added-split p v u (x ∷ xs) = go (p x) (added-split p v u xs)
  where
    go : (b : Bool) → added p (λ x. v x + u x) xs ≡ added p v xs + added p u xs
        → (if b then v x + u x else 0) + added p (λ x. v x + u x) xs
        ≡ (if b then v x else 0) + added p v xs + ((if b then u x else 0) + added p u xs)
    go true ih = omega (arith, ih)
    go false ih = omega (arith, ih)

pub added-summed : (p : Item → Bool) (v u : Item → ℕ) (xs : List Item)
    → added p v xs + summed u xs ≡ summed (λ x. (if p x then v x else 0) + u x) xs
added-summed p v u [] = refl
added-summed p v u (x ∷ xs) = omega (arith, added-summed p v u xs)

pub added-alone : (p : Item → Bool) (v : Item → ℕ) (xs : List Item)
    → added p v xs ≡ summed (λ x. if p x then v x else 0) xs
added-alone p v [] = refl
added-alone p v (x ∷ xs) = omega (arith, added-alone p v xs)

pub summed-same : (v u : Item → ℕ) (xs : List Item) → ((x : Item) → v x ≡ u x) → summed v xs ≡ summed u xs
summed-same v u [] h = refl
summed-same v u (x ∷ xs) h = omega (arith, h x, summed-same v u xs h)

pub weigh-trees_from : (w : Node → ℕ) (look : ℕ → Trees) (p : Item → Bool) (xs : List Item)
    → weigh w (trees_from look (filter p xs)) ≡ added p (λ x. w (node_of x) + weigh w (look x.number)) xs
weigh-trees_from w look p [] = refl
weigh-trees_from w look p (x ∷ xs) = go (p x) (weigh-trees_from w look p xs)
  where
    go : (b : Bool)
        → weigh w (trees_from look (filter p xs)) ≡ added p (λ x. w (node_of x) + weigh w (look x.number)) xs
        → weigh w (trees_from look (cond b (x ∷ filter p xs) (filter p xs)))
        ≡ (if b then w (node_of x) + weigh w (look x.number) else 0)
        + added p (λ x. w (node_of x) + weigh w (look x.number)) xs
    go true ih = omega (arith, ih)
    go false ih = omega (arith, ih)

pub held-roots : (at : Place → Bool) (w : Node → ℕ) (look : ℕ → Trees) (p : Item → Bool) (xs : List Item)
    → held at w (roots_from look (filter p xs))
    ≡ added (λ x. p x && at x.place) (λ x. w (node_of x) + weigh w (look x.number)) xs
held-roots at w look p [] = refl
held-roots at w look p (x ∷ xs) = go (p x) (at x.place) refl (held-roots at w look p xs)
  where
    go : (b c : Bool) → at x.place ≡ c → held at w (roots_from look (filter p xs))
        ≡ added (λ x. p x && at x.place) (λ x. w (node_of x) + weigh w (look x.number)) xs
        → held at w (roots_from look (cond b (x ∷ filter p xs) (filter p xs)))
        ≡ (if b && c then w (node_of x) + weigh w (look x.number) else 0)
        + added (λ x. p x && at x.place) (λ x. w (node_of x) + weigh w (look x.number)) xs
    go true true e ih = rw e (omega (arith, ih))
    go true false e ih = rw e (omega (arith, ih))
    go false c e ih = omega (arith, ih)

-- ---- sums over the items in items, in another order

-- whether a place is in the item m
abbrev pub lies_to : ℕ → Option ℕ → Bool
lies_to m None = false
lies_to m (Some k) = k == m

pub lies_in-is : (m : ℕ) (x : Item) → lies_in m x ≡ lies_to m (parent_in x.place)
lies_in-is m x = go (parent_in x.place) refl
  where
    go : (o : Option ℕ) → parent_in x.place ≡ o → lies_in m x ≡ lies_to m o
    go None e = rw e refl
    go (Some k) e = rw e refl

pub row_at-above : (n m : ℕ) (xs : List Item) → n ≡ m → Above n xs → row_at m xs ≡ None
row_at-above n m [] e a = refl
row_at-above n m (x ∷ xs) e a = go (x.number == m) refl (row_at-above n m xs e a.1)
  where
    go : (b : Bool) → (x.number == m) ≡ b → row_at m xs ≡ None → (if b then Some x else row_at m xs) ≡ None
    go true t ih = absurd (omega (arith, eqb-true _ _ t, a.0))
    go false t ih = ih

-- whether the row above, among these, passes
abbrev pub over_is : List Item → (Item → Bool) → Item → Bool
over_is ys p x = at_row p (over (in_rows ys) x)

one_more : (p : Item → Bool) (y : Item) (ys : List Item) (n : ℕ) → Above y.number ys → (o : Option ℕ)
    → (if p y then (if lies_to y.number o then n else 0) else 0) + (if at_row p (above (in_rows ys) o) then n else 0)
    ≡ (if at_row p (above (in_rows (y ∷ ys)) o) then n else 0)
one_more p y ys n a None = go (p y)
  where
    go : (b : Bool) → (if b then (if false then n else 0) else 0) + 0 ≡ 0
    go true = refl
    go false = refl
one_more p y ys n a (Some k) = go (k == y.number) refl (y.number == k) refl
  where
    both : (c : Bool) → (if c then (if true then n else 0) else 0) + 0 ≡ (if c then n else 0)
    both true = omega arith
    both false = refl

    neither : (c : Bool) (r : ℕ) → (if c then (if false then n else 0) else 0) + r ≡ r
    neither true r = omega arith
    neither false r = omega arith

    go : (b : Bool) → (k == y.number) ≡ b → (c : Bool) → (y.number == k) ≡ c
        → (if p y then (if b then n else 0) else 0) + (if at_row p (row_at k ys) then n else 0)
        ≡ (if at_row p (if c then Some y else row_at k ys) then n else 0)
    go true t true u = rw (row_at-above y.number k ys (eqb-true _ _ u) a) (both (p y))
    go true t false u = absurd (eqb-false _ _ u (sym (eqb-true _ _ t)))
    go false t true u = absurd (eqb-false _ _ t (sym (eqb-true _ _ u)))
    go false t false u = neither (p y) (if at_row p (row_at k ys) then n else 0)

with_one : (p : Item → Bool) (v : Item → ℕ) (y : Item) (ys xs : List Item) → Above y.number ys
    → (if p y then added (lies_in y.number) v xs else 0) + added (over_is ys p) v xs ≡ added (over_is (y ∷ ys) p) v xs
with_one p v y ys [] a = go (p y)
  where
    go : (b : Bool) → ◌≡◌ {A = ℕ} ((if b then 0 else 0) + 0) 0
    go true = refl
    go false = refl
with_one p v y ys (x ∷ xs) a =
    go (p y) (one_more p y ys (v x) a (parent_in x.place)) (with_one p v y ys xs a)
  where
    go : (b : Bool)
        → (if b then (if lies_to y.number (parent_in x.place) then v x else 0) else 0)
        + (if over_is ys p x then v x else 0) ≡ (if over_is (y ∷ ys) p x then v x else 0)
        → (if b then added (lies_in y.number) v xs else 0) + added (over_is ys p) v xs ≡ added (over_is (y ∷ ys) p) v xs
        → (if b then (if lies_in y.number x then v x else 0) + added (lies_in y.number) v xs else 0)
        + ((if over_is ys p x then v x else 0) + added (over_is ys p) v xs)
        ≡ (if over_is (y ∷ ys) p x then v x else 0) + added (over_is (y ∷ ys) p) v xs
    go true e ih = rw (lies_in-is y.number x) (omega (arith, e, ih))
    go false e ih = omega (arith, e, ih)

none_over : (p : Item → Bool) (o : Option ℕ) → at_row p (above (in_rows []) o) ≡ false
none_over p None = refl
none_over p (Some m) = refl

added-none : (p : Item → Bool) (v : Item → ℕ) (xs : List Item) → ((x : Item) → p x ≡ false) → added p v xs ≡ 0
added-none p v [] h = refl
added-none p v (x ∷ xs) h = rw (h x, added-none p v xs h) refl

-- summed item by item over what lies in it, or row by row over what lies in a passing item
pub exchange : (p : Item → Bool) (v : Item → ℕ) (xs ys : List Item) → Rising ys
    → added p (λ y. added (lies_in y.number) v xs) ys ≡ added (over_is ys p) v xs
exchange p v xs [] r = sym (added-none (over_is [] p) v xs (λ x. none_over p (parent_in x.place)))
exchange p v xs (y ∷ ys) r =
    ap (λ n. (if p y then added (lies_in y.number) v xs else 0) + n) (exchange p v xs ys r.1) ∙ with_one p v y ys xs r.0
