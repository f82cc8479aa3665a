-- Rows whose keys rise from each to the next.
use Rattle.std.proofs.Common.{◌≡◌, ℕ, zero, suc, ◌+◌, ◌<◌, List, [], ◌∷◌, length}
use Rattle.std.proofs.Common.{false, slice_index_or, sym, ap, ◌∙◌, arith, add-one, true≢false}
use Rattle.std.specs.List.{AllByRecursion}
use Rattle.std.specs.Ordering.{is_lt}
use Rattle.std.specs.declared.cmp.Ordering.TheVariants.{Less}
use Rattle.sheet_core.specs.Sheet.{key_cmp}
use Rattle.sheet_core.proofs.Keys.{keys_total}
use Rattle.table_store.specs.Written.{RowsRise}

module _ {X : Type 0} (key_of : X → List ℕ) where
  abbrev pub IsBelow : X → X → Type 0
  IsBelow a b = key_cmp (key_of a) (key_of b) ≡ Less

  -- of the first so many rows, each is below the next
  abbrev pub RiseUpTo : ℕ → List X → Type 0
  RiseUpTo n rows =
      (k : ℕ) (d : X) → k + 1 < n → k + 1 < length rows
      → IsBelow (slice_index_or rows k d) (slice_index_or rows (k + 1) d)

  below-all : (a b : X) (rows : List X) → IsBelow a b → AllByRecursion (IsBelow b) rows → AllByRecursion (IsBelow a) rows
  below-all a b [] h all = tt
  below-all a b (r ∷ rows) h all =
      (keys_total.trans (key_of a) (key_of b) (key_of r) h all.0, below-all a b rows h all.1)

  abbrev RiseAt : List X → Type 0
  RiseAt rows =
      (k : ℕ) (d : X) → k + 1 < length rows → IsBelow (slice_index_or rows k d) (slice_index_or rows (k + 1) d)

  pub rise-from : (rows : List X) → RiseAt rows → RowsRise key_of rows
  rise-from [] h = tt
  rise-from (r ∷ []) h = (tt, tt)
  rise-from (r ∷ q ∷ rows) h =
      let rest : RowsRise key_of (q ∷ rows) =
      rise-from (q ∷ rows) (λ k d p. rw add-one (rw add-one at (h (suc k) d (omega arith)))) in
      let first : IsBelow r q = h 0 r (omega arith) in
      ((first, below-all r q rows first rest.0), rest)

  pub rise-at : (rows : List X) → RowsRise key_of rows → RiseAt rows
  rise-at [] h k d p = absurd (omega arith)
  rise-at (r ∷ []) h k d p = absurd (omega arith)
  rise-at (r ∷ q ∷ rows) h zero d p = h.0.0
  rise-at (r ∷ q ∷ rows) h (suc k) d p = rw add-one (rw add-one at (rise-at (q ∷ rows) h.1 k d (omega arith)))

  -- where one isn't below the next, they don't rise
  pub rise-not : (rows : List X) (j at : ℕ) (x : X) (a b : List ℕ) → j + 1 ≡ at → at < length rows
      → a ≡ key_of (slice_index_or rows j x) → b ≡ key_of (slice_index_or rows at x) → is_lt (key_cmp a b) ≡ false
      → ¬ RowsRise key_of rows
  rise-not rows j at x a b next high first second apart h =
      let here : key_cmp a b ≡ Less =
      rw (first, second, sym next) (rise-at rows h j x (omega (arith, next, high))) in
      true≢false (sym (ap is_lt here) ∙ apart)
