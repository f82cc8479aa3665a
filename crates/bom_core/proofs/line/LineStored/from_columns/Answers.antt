use Rattle.bom_core.proofs.BillColumns.{line_told}
use Rattle.bom_core.proofs.line.LineStored.from_columns.Goals as goal

pub returns-clause-told : goal.returns-clause-told
returns-clause-told c =
    line_told c.args.columns.now _ _ _ _ _ c.in_ok-has.ensures c.in_ok-number.ensures c.in_ok-assembly.ensures
    c.in_ok-component.ensures c.in_ok-quantity.ensures c.in_ok-flags.ensures
