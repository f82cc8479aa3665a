-- What is spent on a line of a build in all is what its one row says.
use Rattle.std.proofs.Common.{◌≡◌, inl, inr, ℕ, ◌+◌, Bool, true, false, List, [], ◌∷◌, Some, refl, sym, ap, ◌∙◌, arith}
use Rattle.std.proofs.Common.{eqb-true, eq-eqb}
use Rattle.std.specs.Prelude.{◌==◌, ◌&&◌, if◌then◌else◌, sum_by}
use Rattle.std.specs.FinMap as table
use Rattle.std.proofs.lemmas.List.Sums.{sum_by-cons}
use Rattle.sheet_core.specs.Rows.{StandRight}
use Rattle.sheet_core.specs.Sheet.{Table}
use Rattle.sheet_core.proofs.Conditions.{and_both, and_parts}
use Rattle.sheet_core.proofs.RowLemmas.{get-remove_cases}
use Rattle.sheet_core.proofs.Standing.{Stands, Stands-get}
use Rattle.sheet_core.proofs.Totals.{of_option, sum-remove}
use Rattle.build_core.specs.Sound.{IsSpentOnce}
use Rattle.build_core.specs.Spent.{amount_on, is_spent_on, spent_on}
use Rattle.build_core.specs.declared.spent.Spent.{Spent}

none-adds : (f : Spent → ℕ) (xs : List Spent) → ((x : Spent) → Stands x xs → f x ≡ 0) → sum_by f xs ≡ 0
none-adds f [] all = refl
none-adds f (x ∷ xs) all =
    omega (arith, sum_by-cons f x xs, all x (inl refl), none-adds f xs (λ y h. all y (inr h)))

module _ (t : Table Spent) (next : ℕ) (right : StandRight (λ x. x.number) next t) (once : IsSpentOnce t) (k : List ℕ)
    (x : Spent) (at : table.get t k ≡ Some x) where
  -- another row is of another line
  other : (y : Spent) → Stands y (table.values (table.remove t k)) → amount_on x.build x.line y ≡ 0
  other y h = go (is_spent_on x.build x.line y) refl
    where
      go : (b : Bool) → is_spent_on x.build x.line y ≡ b → (if b then y.quantity else 0) ≡ 0
      go false e = refl
      go true e =
          let found = Stands-get (table.remove t k) y h in
          let was = get-remove_cases t k found.0 y found.1 in
          let same = and_parts (y.build == x.build) (y.line == x.line) e in
          let number : y.number ≡ x.number =
          once found.0 y was.1 k x at (eqb-true y.build x.build same.0) (eqb-true y.line x.line same.1) in
          absurd (was.0 ((right found.0 y was.1).own ∙ ap (λ n. n ∷ []) number ∙ sym (right k x at).own))

  pub spent-in_all : spent_on x.build x.line t ≡ x.quantity
  spent-in_all =
      let f = amount_on x.build x.line in
      let rest = sum_by f (table.values (table.remove t k)) in
      let parts = ap (λ o. of_option f o + rest) (sym at) ∙ sum-remove f t k in
      let one =
      and_both (x.build == x.build) (x.line == x.line) (eq-eqb x.build x.build refl) (eq-eqb x.line x.line refl) in
      let mine : amount_on x.build x.line x ≡ x.quantity = ap (λ b. if b then x.quantity else 0) one in
      omega (arith, parts, mine, none-adds f (table.values (table.remove t k)) other)
