use Rattle.std.proofs.Common.{◌≡◌, ◌≤◌}
use Rattle.std.specs.Io.KnownBytes.{Keeps}
use Rattle.desk_http.proofs.receive.Input.read_more.Given as goal

abbrev pub invariant-loop-self : goal.invariant-loop-self
invariant-loop-self g l = record {
  kept : Keeps (g.R.Read.remaining l.initial.reader) (g.R.Read.remaining l.reader);
  reads : l.self.reads ≤ l.initial.self.reads;
  unused : l.self.reads ≡ l.initial.self.reads → l.reader ≡ l.initial.reader;
  same : l.self.bytes ≡ l.initial.self.bytes;
}

abbrev pub decreases-loop-self : goal.decreases-loop-self
decreases-loop-self g l = l.self.reads
