use Rattle.std.proofs.Common.{ℕ, List, [], ◌∷◌, sym, subst}
use Rattle.sqlite.specs.Held.{state}
use Rattle.part_core.specs.declared.named_row.NamedRow.{NamedRow as Category}
use Rattle.part_core.specs.NamedRows.{named_columns, named_from}
use Rattle.sheet_core.specs.Filled.{StandUnderKeys}
use Rattle.sheet_core.proofs.FilledTables.{filled-own}
use Rattle.table_store.specs.Written.{tree_of, IsTableOf}
use Rattle.table_store.specs.declared.name.TableName.TheVariants.{Categories}
use Rattle.table_store.proofs.Tables.{table-empty}
use Rattle.table_store.proofs.Loading.{one_of_all}
use Rattle.table_tests.proofs.sheets.writes_log.Goals as goal

abbrev key : Category → List ℕ
key row = row.number ∷ []

pub log_written-requires-clause-own : goal.log_written-requires-clause-own
log_written-requires-clause-own g c =
    subst (StandUnderKeys key) (sym c.in_ok-log.ensures.before) (filled-own key [])

pub log_written-requires-clause-before : goal.log_written-requires-clause-before
log_written-requires-clause-before g c clean =
    let tree = tree_of Categories (state g.S.Store c.fresh.new.conn) in
    subst (IsTableOf named_from named_columns Categories tree) (sym c.in_ok-log.ensures.before)
    (table-empty named_from named_columns Categories tree ((c.in_ok-fresh.ensures.fresh clean).empty Categories))

pub load_sheet-requires : goal.load_sheet-requires
load_sheet-requires g c clean =
    one_of_all Categories (state g.S.Store c.log_written.new.conn) (c.in_ok-log_written.ensures.ready clean).0.0
