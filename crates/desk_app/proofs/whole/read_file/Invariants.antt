use Rattle.std.proofs.Common.{◌≤◌, ◌+◌, ◌-◌, min, length}
use Rattle.desk_app.specs.Cuts.{left}
use Rattle.desk_app.proofs.Cutting.{Gathers}
use Rattle.desk_app.proofs.whole.read_file.Given as goal

abbrev pub invariant-loop-bytes : goal.invariant-loop-bytes
invariant-loop-bytes g l = record {
  short : length l.bytes.items ≤ 16777217;
  gathers : Gathers (g.R.Read.remaining l.initial.reader) l.bytes.items (left (g.R.Read.remaining l.reader) l.read);
}

abbrev pub decreases-loop-bytes : goal.decreases-loop-bytes
decreases-loop-bytes g l = l.read.reads + min 1 (l.read.filled - l.read.at)
