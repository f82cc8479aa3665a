use Rattle.std.proofs.Common.{◌≡◌, ◌≤◌}
use Rattle.std.specs.Io.KnownBytes.{Keeps}
use Rattle.desk_app.proofs.lines.Lines.fill.Given as goal

abbrev pub invariant-loop-self : goal.invariant-loop-self
invariant-loop-self g l = record {
  kept : Keeps (g.R.Read.remaining l.initial.reader) (g.R.Read.remaining l.reader);
  at : l.self.at ≡ l.initial.self.at;
  filled : l.self.filled ≡ l.initial.self.filled;
  reads : l.self.reads ≤ l.initial.self.reads;
  unused : l.self.reads ≡ l.initial.self.reads → l.reader ≡ l.initial.reader;
  empty : l.self.filled ≤ l.self.at;
}

abbrev pub decreases-loop-self : goal.decreases-loop-self
decreases-loop-self g l = l.self.reads
