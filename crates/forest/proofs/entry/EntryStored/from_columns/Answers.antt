use Rattle.forest.proofs.RowColumns.{entry_told}
use Rattle.forest.proofs.entry.EntryStored.from_columns.Goals as goal

-- src/entry.rt:187:5
pub returns-clause-told : goal.returns-clause-told
returns-clause-told c =
    entry_told c.args.columns.now _ _ _ c.in_ok-has.ensures c.in_ok-number.ensures c.in_ok-day.ensures
    c.in_ok-note.ensures
