use Rattle.desk_store.proofs.MetaRows.{meta_told}
use Rattle.desk_store.proofs.meta.MetaRowStored.from_columns.Goals as goal

pub returns-clause-told : goal.returns-clause-told
returns-clause-told c =
    meta_told c.args.columns.now _ _ _ _ _ _ c.in_ok-has.ensures c.in_ok-one.ensures c.in_ok-version.ensures
    c.in_ok-next.ensures
    c.in_ok-entries.ensures c.in_ok-max_numbers.ensures c.in_ok-max_entries.ensures
