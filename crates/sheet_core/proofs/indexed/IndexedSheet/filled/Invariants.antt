use Rattle.sheet_core.proofs.FilledTables.{IsFilling}
use Rattle.sheet_core.proofs.indexed.IndexedSheet.filled.Given as goal

abbrev pub invariant-loop-row : goal.invariant-loop-row
invariant-loop-row g l = IsFilling g.R.Row.key_of l.sheet l.row-iterator.rest.items l.fn.rows.items
