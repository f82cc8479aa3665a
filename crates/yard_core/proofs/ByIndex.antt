-- What holds of each row, by its index, among a table's rows, and as a list says it.
use Rattle.std.proofs.Common.{inl, inr, ℕ, suc, zero, ◌<◌, List, [], ◌∷◌, length, get_or, refl, subst, arith}
use Rattle.std.specs.Prelude.{◌↔◌}
use Rattle.std.specs.Borrow.{Bor}
use Rattle.std.specs.FinMap as table
use Rattle.std.specs.List.{All}
use Rattle.sheet_core.specs.Rows.{EachRow}
use Rattle.sheet_core.specs.Sheet.{Table}
use Rattle.sheet_core.proofs.FilledTables.{each-iff}
use Rattle.sheet_core.proofs.Standing.{Stands}
use Rattle.forest.specs.declared.item.Item.{Item}
use Rattle.yard_core.specs.Stock.{AreHeld, AreItems, IsHeld, IsItem}
use Rattle.yard_core.proofs.Below.{seen}

module _ {X : Type 0} (P : X → Type 0) where
  pub all-seen : (rows : List (Bor X)) → ((k : ℕ) (r : Bor X) → k < length rows → P (get_or rows k r).now)
      → All P (seen rows)
  all-seen [] h k d lt = absurd (omega (arith, lt))
  all-seen (x ∷ xs) h zero d lt = h 0 x (omega arith)
  all-seen (x ∷ xs) h (suc k) d lt = all-seen xs (λ j r le. h (suc j) r (omega (arith, le))) k d (omega (arith, lt))

  pub all-at : (rows : List (Bor X)) → All P (seen rows) → (k : ℕ) (r : Bor X) → k < length rows
      → P (get_or rows k r).now
  all-at [] all k r lt = absurd (omega (arith, lt))
  all-at (x ∷ xs) all zero r lt = all 0 x.now (omega arith)
  all-at (x ∷ xs) all (suc k) r lt = all-at xs (λ j d le. all (suc j) d (omega (arith, le))) k r (omega (arith, lt))

  all-Stands : (xs : List X) → All P xs → (x : X) → Stands x xs → P x
  all-Stands [] all x s = absurd s
  all-Stands (y ∷ ys) all x s = elim s [
    | inl e ↦ subst P e (all 0 y (omega arith))
    | inr r ↦ all-Stands ys (λ k d lt. all (suc k) d (omega (arith, lt))) x r
  ]

  Stands-all : (xs : List X) → ((x : X) → Stands x xs → P x) → All P xs
  Stands-all [] h k d lt = absurd (omega (arith, lt))
  Stands-all (y ∷ ys) h zero d lt = h y (inl refl)
  Stands-all (y ∷ ys) h (suc k) d lt = Stands-all ys (λ x s. h x (inr s)) k d (omega (arith, lt))

  -- by index or by key
  pub all-each : (t : Table X) → All P (table.values t) ↔ EachRow P t
  all-each t = (
    λ all. (each-iff P t).0 (all-Stands (table.values t) all),
    λ each. Stands-all (table.values t) ((each-iff P t).1 each),
  )

pub all-items : (xs : List Item) → All IsItem xs → AreItems xs
all-items [] all = tt
all-items (x ∷ xs) all = (all 0 x (omega arith), all-items xs (λ k d lt. all (suc k) d (omega (arith, lt))))

pub items-all : (xs : List Item) → AreItems xs → All IsItem xs
items-all [] are k d lt = absurd (omega (arith, lt))
items-all (x ∷ xs) are zero d lt = are.0
items-all (x ∷ xs) are (suc k) d lt = items-all xs are.1 k d (omega (arith, lt))

module _ (t : Table Item) where
  pub all-held : (xs : List Item) → All (IsHeld t) xs → AreHeld t xs
  all-held [] all = tt
  all-held (x ∷ xs) all = (all 0 x (omega arith), all-held xs (λ k d lt. all (suc k) d (omega (arith, lt))))

  pub held-all : (xs : List Item) → AreHeld t xs → All (IsHeld t) xs
  held-all [] are k d lt = absurd (omega (arith, lt))
  held-all (x ∷ xs) are zero d lt = are.0
  held-all (x ∷ xs) are (suc k) d lt = held-all xs are.1 k d (omega (arith, lt))
