-- What a walk over the rows of a table hands on.
use Rattle.std.specs.Prelude.{◌≡◌, ◌⊎◌, List, ◌++◌, map, Option, Some}
use Rattle.std.specs.List.{FoldsTo}
use Rattle.sqlite.specs.Order.{Row}
use Rattle.sheet_core.specs.declared.column.Column.{Column}
use Rattle.table_store.specs.Stored.{row_of, values_of, AreLoaded}
use Rattle.table_store.specs.Values.{IsLoaded}
use Rattle.table_store.specs.declared.name.TableName.{TableName}

module _ {R : Type 0} (row_from : List Column → Option R) (columns_of : R → List Column) (table : TableName)
    (tree : List Row) where
  -- these rows of the machine are the first of those of the tree, in the order of the key
  pub record AreFirst (rows : List R) : Type 0 where
    pub later : List Row
    pub loaded : IsLoaded table tree (map (values_of columns_of) rows ++ later)
    pub read : map (row_of row_from) (map (values_of columns_of) rows) ≡ map Some rows

  module _ {V : Type 0} (takes : V → R → V → Type 0) where
    -- all rows of the tree were taken, one after another
    abbrev pub TakesAll : V → V → Type 0
    TakesAll old new =
        (rows : List R) × FoldsTo takes old rows new × AreLoaded row_from columns_of table tree rows

    -- the first of them were taken; then perhaps one more was to be taken, and wasn't
    abbrev pub TakesFront : (V → V → Type 0) → V → V → Type 0
    TakesFront keeps old new =
        (new ≡ old) ⊎ ((rows : List R) × (last : V) × FoldsTo takes old rows last × AreFirst rows
        × ((new ≡ last) ⊎ keeps last new))
