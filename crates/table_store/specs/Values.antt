-- The rows that the tables hold.
use Rattle.std.specs.Prelude.{◌≡◌, ◌≢◌, ◌<◌, ◌⊎◌, ℕ, Bool, true, false, IsTrue, List, [], ◌∷◌, drop, map, IsSorted, ⊤}
use Rattle.sqlite.specs.declared.types.Value.{Value}
use Rattle.sqlite.specs.declared.types.Value.TheVariants.{Null, Int, Text as Words}
use Rattle.std.specs.List.Sorted.{IsPermutation}
use Rattle.sqlite.specs.Order.{Row, column}
use Rattle.sqlite.specs.Collation.TheVariants.{Binary}
use Rattle.sqlite_value.specs.Keys.{ascending}
use Rattle.sqlite_sql.specs.Query.{key_cmp}
use Rattle.sqlite.specs.Kind.{Kind}
use Rattle.sqlite.specs.Kind.TheVariants.{Integer, Text}
use Rattle.sqlite.specs.Tree.{put_row, without_rowid}
use Rattle.sqlite.specs.Edit.{next_rowid}
use Rattle.sqlite.specs.State.{State, Shows}
use Rattle.sqlite_schema.specs.declared.schema.Column.{Column}
use Rattle.sqlite_trees.specs.View.{IsShaped}
use Rattle.sqlite_trees.specs.declared.store.Shape.TheVariants.{Table}
use Rattle.table_store.specs.declared.name.TableName.{TableName}
use Rattle.table_store.specs.declared.name.TableName.TheVariants.{Meta, Categories, Locations, Parts, Lines}
use Rattle.table_store.specs.declared.name.TableName.TheVariants.{Substitutes, Items, History, Orders}
use Rattle.table_store.specs.declared.name.TableName.TheVariants.{OrderLines, Builds, Allocations, Kept, Spent}
use Rattle.table_store.specs.Schema.{columns_of, desk_schema, old_schema, position, tree_number}

-- a column of this kind, NOT NULL or not, takes the value as it is
abbrev pub Takes : Kind → Bool → Value → Type 0
Takes Integer not_null (Int n) = ⊤
Takes Integer false Null = ⊤
Takes Text not_null (Words t) = ⊤
Takes Text false Null = ⊤
Takes _ _ _ = ⊥

abbrev pub TakeAll : List Column → Row → Type 0
TakeAll [] [] = ⊤
TakeAll (c ∷ columns) (v ∷ values) = Takes c.kind c.not_null v × TakeAll columns values
TakeAll _ _ = ⊥

-- a key, and a value for each other column
abbrev pub IsRow : TableName → Row → Type 0
IsRow Kept (Words word ∷ rest) = TakeAll (drop 1 (columns_of Kept)) rest
IsRow Kept _ = ⊥
IsRow table (Int id ∷ rest) = TakeAll (drop 1 (columns_of table)) rest
IsRow table _ = ⊥

-- The table's rows with this one, in place of the one that had its key. The database numbers the rows of `kept`, and
-- refuses a word that is there.
abbrev pub with_row : TableName → Row → List Row → List Row
with_row Kept values rows = put_row (Int (next_rowid rows) ∷ values) rows
with_row table (Int id ∷ rest) rows = put_row (Int id ∷ Null ∷ rest) (without_rowid id rows)
with_row table _ rows = rows

-- all tables are there, and their rows rise by their numbers
pub record HasTables (s : State) : Type 0 where
  pub schema : s.now.schema ≡ desk_schema
  pub shaped : (table : TableName) → IsShaped Table (s.now.trees (tree_number table))

-- so it is of the tables of version 1
pub record HasOldTables (s : State) : Type 0 where
  pub schema : s.now.schema ≡ old_schema
  pub shaped : (table : TableName) → position table < 13 → IsShaped Table (s.now.trees (tree_number table))

-- the table is one of this version's tables, or of version 1's, which are there; its rows rise by their numbers
pub record HasTable (table : TableName) (s : State) : Type 0 where
  pub listed : (s.now.schema ≡ desk_schema) ⊎ ((s.now.schema ≡ old_schema) × (position table < 13))
  pub shaped : IsShaped Table (s.now.trees (tree_number table))

abbrev pub IsInside : State → Type 0
IsInside s = HasTables s × IsTrue s.in_transaction

-- lines, their substitutes, allocations and what was spent go; all else that was written stays
abbrev pub AreDropped : TableName → Type 0
AreDropped Lines = ⊤
AreDropped Substitutes = ⊤
AreDropped Allocations = ⊤
AreDropped Spent = ⊤
AreDropped _ = ⊥

-- where the database has the columns of a row: first the key, which a table under a whole number has as the row's own
-- number
abbrev pub places : TableName → List ℕ
places Meta = 0 ∷ 2 ∷ 3 ∷ 4 ∷ 5 ∷ 6 ∷ []
places Categories = 0 ∷ 2 ∷ 3 ∷ []
places Locations = 0 ∷ 2 ∷ 3 ∷ []
places Parts = 0 ∷ 2 ∷ 3 ∷ 4 ∷ 5 ∷ 6 ∷ []
places Lines = 0 ∷ 2 ∷ 3 ∷ 4 ∷ 5 ∷ []
places Substitutes = 0 ∷ 2 ∷ 3 ∷ []
places Items = 0 ∷ 2 ∷ 3 ∷ 4 ∷ 5 ∷ 6 ∷ 7 ∷ 8 ∷ []
places History = 0 ∷ 2 ∷ 3 ∷ 4 ∷ 5 ∷ 6 ∷ 7 ∷ 8 ∷ []
places Orders = 0 ∷ 2 ∷ 3 ∷ 4 ∷ []
places OrderLines = 0 ∷ 2 ∷ 3 ∷ 4 ∷ 5 ∷ []
places Builds = 0 ∷ 2 ∷ 3 ∷ 4 ∷ 5 ∷ []
places Allocations = 0 ∷ 2 ∷ 3 ∷ 4 ∷ 5 ∷ 6 ∷ 7 ∷ []
places Spent = 0 ∷ 2 ∷ 3 ∷ 4 ∷ []
places Kept = 1 ∷ 2 ∷ 3 ∷ []

abbrev pub shown_row : TableName → Row → Row
shown_row table r = map (column r) (places table)

-- these are the rows of `kept`, paired with their words, and the words rise by their bytes
pub record IsByWord (rows shown : List Row) : Type 0 where
  pub pairs : List (Row × Row)
  pub same : IsPermutation (map (λ r. (column r 1 ∷ [], shown_row Kept r)) rows) pairs
  pub sorted : IsSorted (λ a b. key_cmp 0 (ascending Binary ∷ []) a.0 b.0) pairs
  pub shown_are : shown ≡ map (λ (p : Row × Row). p.1) pairs

-- these are the rows of a table, in the order of its key
abbrev pub IsLoaded : TableName → List Row → List Row → Type 0
IsLoaded Kept rows shown = IsByWord rows shown
IsLoaded table rows shown = shown ≡ map (shown_row table) rows

-- within the transaction the table has these rows, and all else is as before
pub record HasSet (table : TableName) (wanted : List Row) (old new : State) : Type 0 where
  pub rows : new.now.trees (tree_number table) ≡ wanted
  pub others : (other : TableName) → other ≢ table → new.now.trees (tree_number other) ≡ old.now.trees (tree_number other)
  pub tables : HasTables new
  pub shown : Shows old new new.now old.committed true
