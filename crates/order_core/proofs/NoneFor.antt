-- A line for which nothing can be allocated has nothing allocated; what no order can have allocated is of none.
use Rattle.std.proofs.Common.{◌≡◌, inl, inr, ℕ, ◌+◌, ◌≤◌, Bool, true, false, List, [], ◌∷◌}
use Rattle.std.proofs.Common.{Some, refl, ap, ◌∙◌, subst, arith, eqb-true, eq-eqb}
use Rattle.std.specs.Prelude.{◌==◌}
use Rattle.std.specs.FinMap as table
use Rattle.sheet_core.specs.Sheet.{Table}
use Rattle.sheet_core.specs.Rows.{EachRow}
use Rattle.sheet_core.proofs.Standing.{Stands, each-value, get-Stands}
use Rattle.alloc_core.specs.Allocations.{allocated_for_sale_line, is_for_sale_line, sum_where}
use Rattle.alloc_core.specs.declared.allocation.Allocation.{Allocation}
use Rattle.alloc_core.specs.declared.purpose.Purpose.{Purpose}
use Rattle.alloc_core.specs.declared.purpose.Purpose.TheVariants.{Sale, Build}
use Rattle.alloc_core.proofs.Sums.{amount-in, amount-out, sum-cons, sum-stands}
use Rattle.order_core.specs.Orders.{OrderBooks}
use Rattle.order_core.specs.Sound.{IsSoundPurpose, IsSoundSale}

-- what an allocation is for, one of a sale
abbrev pub test_of : ℕ → Allocation → Bool
test_of line a = is_for_sale_line line a.purpose

module _ (b : OrderBooks) (line : ℕ) (none : (item order : ℕ) → IsSoundSale b item order line → ⊥) where
  not-for : (item : ℕ) (p : Purpose) → IsSoundPurpose b item p → is_for_sale_line line p ≡ false
  not-for item (Sale order l) h = go (l == line) refl
    where
      go : (d : Bool) → (l == line) ≡ d → d ≡ false
      go false e = refl
      go true e = absurd (none item order (subst (IsSoundSale b item order) (eqb-true l line e) h))
  not-for item (Build build l output) h = refl

  none-among : (xs : List Allocation) → ((a : Allocation) → Stands a xs → IsSoundPurpose b a.item a.purpose)
      → sum_where (test_of line) xs ≡ 0
  none-among [] all = refl
  none-among (a ∷ xs) all =
      omega (
        arith,
        sum-cons (test_of line) a xs,
        amount-out (test_of line) a (not-for a.item a.purpose (all a (inl refl))),
        none-among xs (λ c h. all c (inr h)),
      )

  pub none-for : EachRow (λ a. IsSoundPurpose b a.item a.purpose) b.allocations
      → allocated_for_sale_line line b.allocations ≡ 0
  none-for each =
      none-among (table.values b.allocations)
      (λ a h. each-value (λ (x : Allocation). IsSoundPurpose b x.item x.purpose) b.allocations each a h)

-- an allocation for the line is part of what is allocated for it
pub some-for : (t : Table Allocation) (k : List ℕ) (a : Allocation) (order line : ℕ) → table.get t k ≡ Some a
    → a.purpose ≡ Sale order line → a.quantity ≤ allocated_for_sale_line line t
some-for t k a order line e is =
    let test : test_of line a ≡ true = ap (is_for_sale_line line) is ∙ eq-eqb line line refl in
    omega (arith, amount-in (test_of line) a test, sum-stands (test_of line) a (table.values t) (get-Stands t k a e))
