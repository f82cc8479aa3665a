use Rattle.alloc_core.proofs.RowColumns.{allocation_told}
use Rattle.alloc_core.proofs.allocation.AllocationStored.from_columns.Goals as goal

pub returns-clause-told : goal.returns-clause-told
returns-clause-told c =
    allocation_told c.args.columns.now _ _ _ _ c.in_ok-has.ensures c.in_ok-number.ensures c.in_ok-item.ensures
    c.in_ok-quantity.ensures c.in_ok-purpose.ensures
