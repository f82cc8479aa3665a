use Rattle.std.proofs.Common.{◌≡◌, ◌≤◌, length}
use Rattle.std.specs.Io.{StartsWith}
use Rattle.std.specs.Io.KnownBytes.{Keeps}
use Rattle.desk_http.specs.HeadEnds.{all_of}
use Rattle.desk_http.proofs.receive.Input.receive_body.Given as goal

abbrev pub invariant-loop-self : goal.invariant-loop-self
invariant-loop-self g l = record {
  kept :
      Keeps (all_of (g.R.Read.remaining l.initial.reader) l.initial.self.bytes.items)
      (all_of (g.R.Read.remaining l.reader) l.self.bytes.items);
  longer : length l.initial.self.bytes.items ≤ length l.self.bytes.items;
  more : StartsWith l.self.bytes.items l.initial.self.bytes.items;
  reads : l.self.reads ≤ l.initial.self.reads;
  unused : l.initial.self.reads ≡ 0 → l.reader ≡ l.initial.reader;
}

abbrev pub decreases-loop-self : goal.decreases-loop-self
decreases-loop-self g l = l.self.reads
