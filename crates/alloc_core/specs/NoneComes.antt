-- What is asked of a change of allocations, where those for something else are to stay sound.
use Rattle.std.specs.Prelude.{◌≡◌, ℕ, ◌≤◌, Bool, true, List, Some}
use Rattle.std.specs.FinMap as table
use Rattle.sheet_core.specs.Sheet.{Table}
use Rattle.alloc_core.specs.Allocations.{allocated_where}
use Rattle.alloc_core.specs.declared.allocation.Allocation.{Allocation}
use Rattle.alloc_core.specs.declared.purpose.Purpose.{Purpose}

-- no allocation comes whose purpose passes, and no more is allocated for any of those: each that is there was there
pub record NoneComes (test : Purpose → Bool) (old new : Table Allocation) : Type 0 where
  pub was : (k : List ℕ) (a : Allocation) → table.get new k ≡ Some a → test a.purpose ≡ true → table.get old k ≡ Some a
  pub less : (of : Purpose → Bool) → ((p : Purpose) → of p ≡ true → test p ≡ true)
      → allocated_where of new ≤ allocated_where of old
