use Rattle.build_core.proofs.BuildColumns.{build_told}
use Rattle.build_core.proofs.build.BuildStored.from_columns.Goals as goal

pub returns-clause-told : goal.returns-clause-told
returns-clause-told c =
    build_told c.args.columns.now _ _ _ _ _ c.in_ok-has.ensures c.in_ok-number.ensures c.in_ok-part.ensures
    c.in_ok-quantity.ensures c.in_ok-state.ensures c.in_ok-done.ensures
