-- Sums over allocations after one comes.
use Rattle.std.proofs.Common.{◌≡◌, ℕ, ◌+◌, Bool, true, false, [], ◌∷◌, None, refl, arith, eqb-true}
use Rattle.std.specs.Prelude.{◌==◌, if◌then◌else◌}
use Rattle.std.specs.FinMap as table
use Rattle.sheet_core.proofs.Totals.{sum-insert_new}
use Rattle.alloc_core.specs.Allocations.{allocated, allocated_where, amount_where, is_of_item}
use Rattle.alloc_core.specs.Allotting.{Allotments, allocate, allocate_some, new_allocation}
use Rattle.alloc_core.specs.declared.allocation.Allocation.{Allocation}
use Rattle.alloc_core.specs.declared.purpose.Purpose.{Purpose}

-- the next number is no row's
abbrev pub IsNew : Allotments → Type 0
IsNew b = table.get b.allocations (b.counter.next ∷ []) ≡ None

module _ (purpose : Purpose) (n quantity : ℕ) (b : Allotments) (new : IsNew b) where
  abbrev row : Allocation
  row = new_allocation b.counter.next purpose n quantity

  pub allocated-more : (k : ℕ) → allocated k (allocate purpose n quantity b).allocations
      ≡ (if n == k then quantity else 0) + allocated k b.allocations
  allocated-more k = sum-insert_new (amount_where (is_of_item k)) b.allocations (b.counter.next ∷ []) row new

  pub where-more : (test : Purpose → Bool) → allocated_where test (allocate purpose n quantity b).allocations
      ≡ (if test purpose then quantity else 0) + allocated_where test b.allocations
  where-more test = sum-insert_new (amount_where (λ a. test a.purpose)) b.allocations (b.counter.next ∷ []) row new

  -- an amount of 0 adds nothing
  pub allocated-some : (k : ℕ) → allocated k (allocate_some purpose n quantity b).allocations
      ≡ (if n == k then quantity else 0) + allocated k b.allocations
  allocated-some k = go (quantity == 0) refl
    where
      none : (c : Bool) (q : ℕ) → q ≡ 0 → (if c then q else 0) ≡ 0
      none true q e = e
      none false q e = refl

      go : (c : Bool) → (quantity == 0) ≡ c → allocated k (if c then b else allocate purpose n quantity b).allocations
          ≡ (if n == k then quantity else 0) + allocated k b.allocations
      go true e = omega (arith, none (n == k) quantity (eqb-true quantity 0 e))
      go false e = allocated-more k

  pub where-some : (test : Purpose → Bool) → allocated_where test (allocate_some purpose n quantity b).allocations
      ≡ (if test purpose then quantity else 0) + allocated_where test b.allocations
  where-some test = go (quantity == 0) refl
    where
      none : (c : Bool) (q : ℕ) → q ≡ 0 → (if c then q else 0) ≡ 0
      none true q e = e
      none false q e = refl

      go : (c : Bool) → (quantity == 0) ≡ c
          → allocated_where test (if c then b else allocate purpose n quantity b).allocations
          ≡ (if test purpose then quantity else 0) + allocated_where test b.allocations
      go true e = omega (arith, none (test purpose) quantity (eqb-true quantity 0 e))
      go false e = where-more test
