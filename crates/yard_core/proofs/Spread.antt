-- The sums over the forest that rows stand for are sums over the rows.
use Rattle.std.proofs.Common.{◌≡◌, ℕ, ◌+◌, Bool, true, false, List, refl, ap}
use Rattle.std.proofs.Common.{sym, ◌∙◌, arith, Option, Some, None, suc, zero}
use Rattle.std.specs.Prelude.{◌&&◌, if◌then◌else◌, filter}
use Rattle.forest.specs.declared.item.Item.{Item}
use Rattle.forest.specs.declared.place.Place.{Place}
use Rattle.forest.specs.Forest.{Node, weigh, held}
use Rattle.forest.specs.Rows.{parent_in, lies_in}
use Rattle.forest.specs.Tables.{trees_from, node_of, is_root, roots_from, trees_below}
use Rattle.forest.proofs.Sorts.{Rising}
use Rattle.yard_core.specs.Climbs.{above, over, at_row, in_rows, ends}
use Rattle.yard_core.proofs.Added.{added, summed, added-same, added-split, added-summed, added-alone}
use Rattle.yard_core.proofs.Added.{summed-same, weigh-trees_from, held-roots, over_is, exchange}

-- n for each of the first steps up at which the row passes
unfoldable pub share : List Item → ℕ → (Item → Bool) → ℕ → Item → ℕ
share rows zero p n x = if p x then n else 0
share rows (suc d) p n x = (if p x then n else 0) + share rows d (over_is rows p) n x

plus_none : (w : Node → ℕ) (p : Item → Bool) (xs : List Item)
    → added p (λ x. w (node_of x) + 0) xs ≡ summed (λ x. if p x then w (node_of x) else 0) xs
plus_none w p xs =
    added-same p (λ x. w (node_of x) + 0) (λ x. w (node_of x)) xs (λ x. omega arith)
    ∙ added-alone p (λ x. w (node_of x)) xs

pub spread : (w : Node → ℕ) (rows : List Item) → Rising rows → (d : ℕ) (p : Item → Bool)
    → added p (λ x. w (node_of x) + weigh w (trees_below d rows x.number)) rows
    ≡ summed (λ x. share rows d p (w (node_of x)) x) rows
unfolding trees_below share
spread w rows r zero p = plus_none w p rows
spread w rows r (suc d) p =
    let look = trees_below d rows in
    let inner = λ (x : Item). w (node_of x) + weigh w (look x.number) in
    added-same p (λ x. w (node_of x) + weigh w (trees_from look (filter (lies_in x.number) rows)))
    (λ x. w (node_of x) + added (lies_in x.number) inner rows) rows
    (λ x. ap (λ n. w (node_of x) + n) (weigh-trees_from w look (lies_in x.number) rows))
    ∙ added-split p (λ x. w (node_of x)) (λ x. added (lies_in x.number) inner rows) rows
    ∙ ap (λ n. added p (λ x. w (node_of x)) rows + n)
    (exchange p inner rows rows r ∙ spread w rows r d (over_is rows p))
    ∙ added-summed p (λ x. w (node_of x)) (λ x. share rows d (over_is rows p) (w (node_of x)) x) rows

-- what is counted from the row above
abbrev share_at : List Item → ℕ → (Item → Bool) → ℕ → Option Item → ℕ
share_at rows d p n None = 0
share_at rows d p n (Some y) = share rows d p n y

share-over : (rows : List Item) (d : ℕ) (p : Item → Bool) (n : ℕ) (x : Item)
    → share rows d (over_is rows p) n x ≡ share_at rows d p n (over (in_rows rows) x)
unfolding share
share-over rows zero p n x = go (over (in_rows rows) x)
  where
    go : (o : Option Item) → (if at_row p o then n else 0) ≡ share_at rows zero p n o
    go None = refl
    go (Some y) = refl
share-over rows (suc d) p n x =
    ap (λ k. (if over_is rows p x then n else 0) + k) (share-over rows d (over_is rows p) n x)
    ∙ go (over (in_rows rows) x)
  where
    go : (o : Option Item)
        → (if at_row p o then n else 0) + share_at rows d (over_is rows p) n o ≡ share_at rows (suc d) p n o
    go None = refl
    go (Some y) = refl

-- a root at such a place
abbrev pub root_at : (Place → Bool) → Item → Bool
root_at at x = is_root x && at x.place

-- a row that lies in no item has none above it
pub root-top : (rows : List Item) (x : Item) → is_root x ≡ true → over (in_rows rows) x ≡ None
root-top rows x e = go (parent_in x.place) refl
  where
    go : (o : Option ℕ) → parent_in x.place ≡ o → above (in_rows rows) o ≡ None
    go None t = refl
    go (Some m) t = let no : false ≡ true = rw t at e in cc

pub share-ends : (rows : List Item) (at : Place → Bool) (d n : ℕ) (x : Item)
    → share rows d (root_at at) n x ≡ (if ends (in_rows rows) at d x then n else 0)
unfolding share ends
share-ends rows at zero n x = refl
share-ends rows at (suc d) n x =
    ap (λ k. (if root_at at x then n else 0) + k) (share-over rows d (root_at at) n x)
    ∙ go (is_root x) refl (over (in_rows rows) x) refl (λ y. share-ends rows at d n y)
  where
    above_it : (o : Option Item)
        → ((y : Item) → share rows d (root_at at) n y ≡ (if ends (in_rows rows) at d y then n else 0))
        → share_at rows d (root_at at) n o ≡ (if at_row (ends (in_rows rows) at d) o then n else 0)
    above_it None ih = refl
    above_it (Some y) ih = ih y

    alone : (c : Bool) → (if c then n else 0) + 0 ≡ (if c then n else 0)
    alone c = omega arith

    go : (b : Bool) → is_root x ≡ b → (o : Option Item) → over (in_rows rows) x ≡ o
        → ((y : Item) → share rows d (root_at at) n y ≡ (if ends (in_rows rows) at d y then n else 0))
        → (if b && at x.place then n else 0) + share_at rows d (root_at at) n o
        ≡ (if (if b then at x.place else at_row (ends (in_rows rows) at d) o) then n else 0)
    go true e None t ih = alone (at x.place)
    go true e (Some y) t ih = let no : None ≡ Some y = sym (root-top rows x e) ∙ t in cc
    go false e o t ih = omega (arith, above_it o ih)

-- the sum over the roots at such places is that over the rows that stand under them
pub held-rows : (at : Place → Bool) (w : Node → ℕ) (rows : List Item) → Rising rows → (d : ℕ)
    → held at w (roots_from (trees_below d rows) (filter is_root rows))
    ≡ summed (λ x. if ends (in_rows rows) at d x then w (node_of x) else 0) rows
held-rows at w rows r d =
    held-roots at w (trees_below d rows) is_root rows
    ∙ spread w rows r d (root_at at)
    ∙ summed-same (λ x. share rows d (root_at at) (w (node_of x)) x)
    (λ x. if ends (in_rows rows) at d x then w (node_of x) else 0) rows (λ x. share-ends rows at d (w (node_of x)) x)
