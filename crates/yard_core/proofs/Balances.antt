-- The three equations by shares are those of the forest and its history.
use Rattle.std.proofs.Common.{◌≡◌, ℕ, ◌+◌, Bool, true, false, List, [], ◌∷◌, ◌++◌, map}
use Rattle.std.proofs.Common.{refl, sym, ◌∙◌, arith, Option, Some, None, suc, zero}
use Rattle.std.specs.Prelude.{◌==◌, ◌&&◌, if◌then◌else◌, ◌↔◌}
use Rattle.forest.specs.declared.item.Item.{Item}
use Rattle.forest.specs.declared.entry.Entry.{Entry}
use Rattle.forest.specs.declared.entry.Kind.{Kind}
use Rattle.forest.specs.declared.entry.Kind.TheVariants.{Received, Found, Built, Consumed, Shipped, Returned, Written}
use Rattle.forest.specs.declared.place.Place.{Place}
use Rattle.forest.specs.Forest.{Balanced, amount, held, kind_code, recorded}
use Rattle.forest.specs.Tables.{is_root, node_of, forest_of}
use Rattle.forest.proofs.Sorts.{Rising}
use Rattle.yard_core.specs.Climbs.{over, at_row, in_rows, ends, IsByNumber}
use Rattle.yard_core.specs.Shares.{lefts, rights, Agree}
use Rattle.yard_core.specs.Equations.{is_left, is_right, is_counted, entry_share, item_share}
use Rattle.yard_core.specs.Equations.{place_from, place_up, is_place, shares_of, AreBalanced}
use Rattle.yard_core.specs.declared.opening.shares.Share.{Share}
use Rattle.yard_core.specs.declared.opening.equations.Equation.{Equation}
use Rattle.yard_core.specs.declared.opening.equations.Equation.TheVariants.{Accounted, Sent, Used}
use Rattle.yard_core.proofs.Added.{summed}
use Rattle.yard_core.proofs.Spread.{held-rows}
use Rattle.yard_core.proofs.Tables.{rising-is}

lefts-append : (p : ℕ) (ss ts : List Share) → lefts p (ss ++ ts) ≡ lefts p ss + lefts p ts
lefts-append p [] ts = omega arith
lefts-append p (s ∷ ss) ts = omega (arith, lefts-append p ss ts)

rights-append : (p : ℕ) (ss ts : List Share) → rights p (ss ++ ts) ≡ rights p ss + rights p ts
rights-append p [] ts = omega arith
rights-append p (s ∷ ss) ts = omega (arith, rights-append p ss ts)

-- ---- the items

up-ends : (look : ℕ → Option Item) (at : Place → Bool) (d : ℕ) (x : Item)
    → is_place at (place_up look d x) ≡ ends look at d x
unfolding place_up ends
up-ends look at zero x = go (is_root x)
  where
    go : (b : Bool) → is_place at (if b then Some x.place else None) ≡ (b && at x.place)
    go true = refl
    go false = refl
up-ends look at (suc d) x = go (is_root x) (over look x) (λ y. up-ends look at d y)
  where
    go : (b : Bool) (o : Option Item) → ((y : Item) → is_place at (place_up look d y) ≡ ends look at d y)
        → is_place at (if b then Some x.place else place_from (place_up look d) o)
        ≡ (if b then at x.place else at_row (ends look at d) o)
    go true o ih = refl
    go false None ih = refl
    go false (Some y) ih = ih y

no_lefts : (e : Equation) (look : ℕ → Option Item) (p : ℕ) (xs : List Item) → lefts p (map (item_share e look) xs) ≡ 0
no_lefts e look p [] = refl
no_lefts e look p (x ∷ xs) = go (x.part == p) (no_lefts e look p xs)
  where
    go : (b : Bool) → lefts p (map (item_share e look) xs) ≡ 0
        → (if b then 0 else 0) + lefts p (map (item_share e look) xs) ≡ 0
    go true ih = omega (arith, ih)
    go false ih = omega (arith, ih)

item_rights : (e : Equation) (look : ℕ → Option Item) (p : ℕ) (xs : List Item)
    → rights p (map (item_share e look) xs)
    ≡ summed (λ x. if ends look (is_counted e) 16 x then amount p (node_of x) else 0) xs
item_rights e look p [] = refl
item_rights e look p (x ∷ xs) =
    rw (up-ends look (is_counted e) 16 x) (go (x.part == p) (ends look (is_counted e) 16 x) (item_rights e look p xs))
  where
    go : (b c : Bool) → rights p (map (item_share e look) xs)
        ≡ summed (λ x. if ends look (is_counted e) 16 x then amount p (node_of x) else 0) xs
        → (if b then (if c then x.quantity else 0) else 0) + rights p (map (item_share e look) xs)
        ≡ (if c then (if b then x.quantity else 0) else 0)
        + summed (λ x. if ends look (is_counted e) 16 x then amount p (node_of x) else 0) xs
    go true true ih = omega (arith, ih)
    go true false ih = omega (arith, ih)
    go false true ih = omega (arith, ih)
    go false false ih = omega (arith, ih)

held_is : (e : Equation) (p : ℕ) (rows : List Item) → Rising rows
    → rights p (map (item_share e (in_rows rows)) rows) ≡ held (is_counted e) (amount p) (forest_of rows)
held_is e p rows r = item_rights e (in_rows rows) p rows ∙ sym (held-rows (is_counted e) (amount p) rows r 16)

-- ---- the history

abbrev noted : Kind → ℕ → List Entry → ℕ
noted k p es = recorded k p (map (λ e. e.note) es)

-- what an entry of kind k adds to the sum of the kind j
abbrev adds : Kind → Kind → Bool → ℕ → ℕ
adds j k b n = if kind_code k == kind_code j && b then n else 0

accounted_left : (k : Kind) (b : Bool) (n : ℕ) → (if b then (if is_left Accounted k then n else 0) else 0)
    ≡ adds Received k b n + adds Found k b n + adds Built k b n + adds Returned k b n
accounted_left Received true n = omega arith
accounted_left Found true n = omega arith
accounted_left Built true n = omega arith
accounted_left Returned true n = omega arith
accounted_left _ true n = refl
accounted_left Received false n = refl
accounted_left _ false n = refl

accounted_right : (k : Kind) (b : Bool) (n : ℕ) → (if b then (if is_right Accounted k then n else 0) else 0)
    ≡ adds Consumed k b n + adds Shipped k b n + adds Written k b n
accounted_right Consumed true n = omega arith
accounted_right Shipped true n = omega arith
accounted_right Written true n = omega arith
accounted_right _ true n = refl
accounted_right Consumed false n = refl
accounted_right _ false n = refl

sent_left : (k : Kind) (b : Bool) (n : ℕ) → (if b then (if is_left Sent k then n else 0) else 0) ≡ adds Shipped k b n
sent_left Shipped true n = refl
sent_left _ true n = refl
sent_left Shipped false n = refl
sent_left _ false n = refl

sent_right : (k : Kind) (b : Bool) (n : ℕ) → (if b then (if is_right Sent k then n else 0) else 0) ≡ adds Returned k b n
sent_right Returned true n = refl
sent_right _ true n = refl
sent_right Returned false n = refl
sent_right _ false n = refl

used_left : (k : Kind) (b : Bool) (n : ℕ) → (if b then (if is_left Used k then n else 0) else 0) ≡ adds Consumed k b n
used_left Consumed true n = refl
used_left _ true n = refl
used_left Consumed false n = refl
used_left _ false n = refl

nothing : (b : Bool) → ◌≡◌ {A = ℕ} (if b then 0 else 0) 0
nothing true = refl
nothing false = refl

accounted_lefts : (p : ℕ) (es : List Entry) → lefts p (map (entry_share Accounted) es)
    ≡ noted Received p es + noted Found p es + noted Built p es + noted Returned p es
accounted_lefts p [] = refl
accounted_lefts p (e ∷ es) =
    omega (arith, accounted_left e.note.kind (e.note.part == p) e.note.quantity, accounted_lefts p es)

accounted_rights : (p : ℕ) (es : List Entry)
    → rights p (map (entry_share Accounted) es) ≡ noted Consumed p es + noted Shipped p es + noted Written p es
accounted_rights p [] = refl
accounted_rights p (e ∷ es) =
    omega (arith, accounted_right e.note.kind (e.note.part == p) e.note.quantity, accounted_rights p es)

sent_lefts : (p : ℕ) (es : List Entry) → lefts p (map (entry_share Sent) es) ≡ noted Shipped p es
sent_lefts p [] = refl
sent_lefts p (e ∷ es) = omega (arith, sent_left e.note.kind (e.note.part == p) e.note.quantity, sent_lefts p es)

sent_rights : (p : ℕ) (es : List Entry) → rights p (map (entry_share Sent) es) ≡ noted Returned p es
sent_rights p [] = refl
sent_rights p (e ∷ es) = omega (arith, sent_right e.note.kind (e.note.part == p) e.note.quantity, sent_rights p es)

used_lefts : (p : ℕ) (es : List Entry) → lefts p (map (entry_share Used) es) ≡ noted Consumed p es
used_lefts p [] = refl
used_lefts p (e ∷ es) = omega (arith, used_left e.note.kind (e.note.part == p) e.note.quantity, used_lefts p es)

used_rights : (p : ℕ) (es : List Entry) → rights p (map (entry_share Used) es) ≡ 0
used_rights p [] = refl
used_rights p (e ∷ es) = omega (arith, nothing (e.note.part == p), used_rights p es)

-- ---- the equations

module _ (rows : List Item) (es : List Entry) (r : Rising rows) (p : ℕ) where
  left_is : (e : Equation) → lefts p (shares_of e rows es) ≡ lefts p (map (entry_share e) es)
  left_is e = omega (
    arith,
    lefts-append p (map (entry_share e) es) (map (item_share e (in_rows rows)) rows),
    no_lefts e (in_rows rows) p rows,
  )

  right_is : (e : Equation) → rights p (shares_of e rows es)
      ≡ rights p (map (entry_share e) es) + held (is_counted e) (amount p) (forest_of rows)
  right_is e =
      omega
      (arith, rights-append p (map (entry_share e) es) (map (item_share e (in_rows rows)) rows), held_is e p rows r)

  pub balanced_from : lefts p (shares_of Accounted rows es) ≡ rights p (shares_of Accounted rows es)
      → lefts p (shares_of Sent rows es) ≡ rights p (shares_of Sent rows es)
      → lefts p (shares_of Used rows es) ≡ rights p (shares_of Used rows es)
      → Balanced p (record { forest = forest_of rows; history = map (λ e. e.note) es })
  balanced_from k s u = record {
    accounted = omega (arith, left_is Accounted, right_is Accounted, accounted_lefts p es, accounted_rights p es, k);
    shipped = omega (arith, left_is Sent, right_is Sent, sent_lefts p es, sent_rights p es, s);
    consumed = omega (arith, left_is Used, right_is Used, used_lefts p es, used_rights p es, u);
  }

  pub accounted_from : Balanced p (record { forest = forest_of rows; history = map (λ e. e.note) es })
      → lefts p (shares_of Accounted rows es) ≡ rights p (shares_of Accounted rows es)
  accounted_from b =
      omega (arith, left_is Accounted, right_is Accounted, accounted_lefts p es, accounted_rights p es, b.accounted)

  pub sent_from : Balanced p (record { forest = forest_of rows; history = map (λ e. e.note) es })
      → lefts p (shares_of Sent rows es) ≡ rights p (shares_of Sent rows es)
  sent_from b = omega (arith, left_is Sent, right_is Sent, sent_lefts p es, sent_rights p es, b.shipped)

  pub used_from : Balanced p (record { forest = forest_of rows; history = map (λ e. e.note) es })
      → lefts p (shares_of Used rows es) ≡ rights p (shares_of Used rows es)
  used_from b = omega (arith, left_is Used, right_is Used, used_lefts p es, used_rights p es, b.consumed)

pub balanced_iff : (rows : List Item) (es : List Entry) → IsByNumber rows
    → (Agree (shares_of Accounted rows es) × Agree (shares_of Sent rows es) × Agree (shares_of Used rows es))
    ↔ AreBalanced rows es
balanced_iff rows es by =
    let r = rising-is rows by in (
      λ h p. balanced_from rows es r p (h.0 p) (h.1 p) (h.2 p),
      λ b. (λ p. accounted_from rows es r p (b p), λ p. sent_from rows es r p (b p), λ p. used_from rows es r p (b p)),
    )
