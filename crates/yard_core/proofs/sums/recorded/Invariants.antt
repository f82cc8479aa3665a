use Rattle.std.proofs.Common.{◌≡◌, ◌*◌, ◌≤◌, take}
use Rattle.std.specs.Prelude.{sum_by}
use Rattle.forest.specs.Forest.{counted}
use Rattle.yard_core.proofs.sums.recorded.Given as goal

abbrev pub invariant-loop-entry : goal.invariant-loop-entry
invariant-loop-entry l = record {
  bound : l.total ≤ 18446744073709551616 * l.entry-index;
  sum : l.total ≡ sum_by (λ e. counted l.kind l.part e.note) (take l.entry-index l.entries);
}
