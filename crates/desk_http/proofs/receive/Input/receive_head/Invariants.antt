use Rattle.std.proofs.Common.{◌≡◌, ◌≤◌}
use Rattle.std.specs.Io.KnownBytes.{Keeps}
use Rattle.desk_http.specs.HeadEnds.{all_of, EndsWithHead}
use Rattle.desk_http.proofs.receive.Input.receive_head.Given as goal

abbrev pub invariant-loop-n : goal.invariant-loop-n
invariant-loop-n g l = record {
  kept :
      Keeps (all_of (g.R.Read.remaining l.initial.reader) l.initial.self.bytes.items)
      (all_of (g.R.Read.remaining l.reader) l.self.bytes.items);
  reads : l.self.reads ≤ l.initial.self.reads;
  last : EndsWithHead l.self.bytes.items;
  unused : l.initial.self.reads ≡ 0 → l.reader ≡ l.initial.reader;
}

abbrev pub decreases-loop-n : goal.decreases-loop-n
decreases-loop-n g l = l.self.reads
