use Rattle.std.proofs.Common.{◌≡◌, ◌≤◌, length, []}
use Rattle.desk_app.specs.Cuts.{left}
use Rattle.desk_app.proofs.Asking.{Taking}
use Rattle.desk_app.proofs.at.take_body.Given as goal

abbrev pub invariant-loop-count : goal.invariant-loop-count
invariant-loop-count g l = record {
  taking :
      Taking (left (g.R.Read.remaining l.initial.reader) l.initial.lines) (left (g.R.Read.remaining l.reader) l.lines) l.count
      l.body.items;
  first : l.count ≡ 0 → l.body.items ≡ [];
  short : length l.body.items ≤ 1048576;
}
