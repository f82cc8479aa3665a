-- The steps of a statement that went through.
use Rattle.std.proofs.Common.{◌≡◌, ◌≢◌, ◌⊎◌, inl, inr, ℕ, List, true, Ok, Err, Result}
use Rattle.std.specs.List.{AllByRecursion}
use Rattle.sqlite_trees.specs.View.{is_int}
use Rattle.sqlite.specs.Order.{Row}
use Rattle.sqlite.specs.Tree.{Trees, rowid}
use Rattle.sqlite.specs.Table.{Table}
use Rattle.sqlite.specs.Schema.{Schema}
use Rattle.sqlite.specs.Edit.{IsNoIndex}

-- the table has these rows, and each other tree that is no index is as it was
pub record SetsRows (schema : Schema) (table : Table) (wanted : List Row) (old new : Trees) : Type 0 where
  pub rows : new table.tree ≡ wanted
  pub others : (t : ℕ) → t ≢ table.tree → IsNoIndex schema t → new t ≡ old t

-- each rowid is an integer
abbrev pub AreKeyed : List Row → Type 0
AreKeyed = AllByRecursion (λ r. is_int (rowid r) ≡ true)

-- a part that gave a value didn't stop on the way
pub went : {B E R : Type 0} {b : B} {Stops : E → Type 0} → ((stop : E) × Stops stop × (Ok b ≡ Err stop)) ⊎ R → R
went (inl stopped) = absurd (let e = stopped.2 in cc)
went (inr on) = on

pub same_value : {B E : Type 0} {a b : B} → ◌≡◌ {A = Result B E} (Ok a) (Ok b) → a ≡ b
same_value e = cc
