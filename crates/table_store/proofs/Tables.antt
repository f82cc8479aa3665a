-- A tree whose rows are read again goes on to be the table of its rows through each change.
use Rattle.std.proofs.Common.{◌≡◌, ℕ, List, [], Result, Ok, Err, OnOk}
use Rattle.std.specs.Prelude.{Option}
use Rattle.std.specs.FinMap.{insert, remove, empty}
use Rattle.sqlite.specs.Order.{Row}
use Rattle.sheet_core.specs.Sheet.{Table}
use Rattle.sheet_core.specs.declared.column.Column.{Column}
use Rattle.sheet_core.proofs.RowLemmas.{each-insert, each-empty, get-remove_cases}
use Rattle.table_store.specs.declared.name.TableName.{TableName}
use Rattle.table_store.specs.Written.{Holds, IsRead, IsTableOf}
use Rattle.table_store.proofs.Fillings.{holds-empty}

-- a tree without rows is the table of none
pub table-empty : {X : Type 0} (row_from : List Column → Option X) (columns : X → List Column) (table : TableName)
    (tree : List Row) → tree ≡ [] → IsTableOf row_from columns table tree empty
table-empty row_from columns table tree none =
    record { holds = holds-empty columns table tree none; read = each-empty (IsRead row_from columns) }

module _ {X E : Type 0} (row_from : List Column → Option X) (columns : X → List Column) (table : TableName)
    (old new : List Row) (rows : Table X) (before : IsTableOf row_from columns table old rows) (k : List ℕ) where
  pub table-put : (r : Result (Unit {0}) E) (x : X) → IsRead row_from columns x
      → OnOk r (Holds columns table new (insert rows k x))
      → OnOk r (IsTableOf row_from columns table new (insert rows k x))
  table-put (Ok u) x reads holds =
      record { holds = holds; read = each-insert (IsRead row_from columns) rows k x reads before.read }
  table-put (Err e) x reads holds = tt

  pub table-removed : (r : Result (Unit {0}) E) → OnOk r (Holds columns table new (remove rows k))
      → OnOk r (IsTableOf row_from columns table new (remove rows k))
  table-removed (Ok u) holds =
      record { holds = holds; read = λ q x is. before.read q x (get-remove_cases rows k q x is).1 }
  table-removed (Err e) holds = tt
