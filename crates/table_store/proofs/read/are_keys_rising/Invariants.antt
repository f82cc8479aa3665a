use Rattle.std.proofs.Common.{◌≡◌, ◌-◌, slice_index_or}
use Rattle.table_store.proofs.Rising.{RiseUpTo}
use Rattle.table_store.proofs.read.are_keys_rising.Given as goal

-- so far each row is below the next, and this is the key of the last
abbrev pub invariant-loop-at : goal.invariant-loop-at
invariant-loop-at g l = record {
  rise : RiseUpTo g.R.Row.key_of l.at l.rows;
  last : (d : _) → g.R.Key.RowKey.digits l.last ≡ g.R.Row.key_of (slice_index_or l.rows (l.at - 1) d);
}
