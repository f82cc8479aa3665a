use Rattle.std.proofs.Common.{rules, ◌≤◌, ◌≡◌, length, sym, subst}
use Rattle.desk_app.specs.Cuts.{unread}
use Rattle.desk_app.proofs.Cutting.{gathers_more, gathers_full, gathers_end, length-enough}
use Rattle.desk_app.proofs.Files.{imported_as_whole}
use Rattle.desk_app.proofs.whole.read_file.Goals as goal

pub returns-then-len-eq16777217-clause-bytes : goal.returns-then-len-eq16777217-clause-bytes
returns-then-len-eq16777217-clause-bytes g c =
    let i = c.loop-bytes.invariant in
    let t = c.in_ok-take_read.ensures in
    let full : length c.take_read.new.bytes.items ≡ 16777217 = search rules in
    gathers_full (g.R.Read.remaining c.args.reader.now) _ c.take_read.new.bytes.items
    (gathers_more (g.R.Read.remaining c.args.reader.now) _ (g.R.Read.remaining c.fill.new.reader)
    c.loop-bytes.bytes.items c.take_read.new.bytes.items (unread c.fill.new.self) (unread c.take_read.new.self)
    i.gathers c.in_ok-fill.ensures.bytes t.bytes t.left)
    full

pub returns-then-len-eq16777217-clause-imported : goal.returns-then-len-eq16777217-clause-imported
returns-then-len-eq16777217-clause-imported g c =
    imported_as_whole (g.R.Read.remaining c.args.reader.now) c.take_read.new.bytes.items
    (returns-then-len-eq16777217-clause-bytes g c)

pub loop-bytes-preserved : goal.loop-bytes-preserved
loop-bytes-preserved g c =
    let i = c.loop-bytes.invariant in
    let t = c.in_ok-take_read.ensures in
    record {
      short = subst (λ v. length v ≤ 16777217) (sym t.bytes) (length-enough _);
      gathers =
          gathers_more (g.R.Read.remaining c.args.reader.now) _ (g.R.Read.remaining c.fill.new.reader)
          c.loop-bytes.bytes.items c.take_read.new.bytes.items (unread c.fill.new.self) (unread c.take_read.new.self)
          i.gathers c.in_ok-fill.ensures.bytes t.bytes t.left;
    }

pub returns-clause-bytes : goal.returns-clause-bytes
returns-clause-bytes g c =
    let i = c.loop-bytes.invariant in
    gathers_end (g.R.Read.remaining c.args.reader.now) _ _ c.loop-bytes.bytes.items i.gathers c.in_ok-fill.ensures.bytes
    (c.in_ok-fill.ensures.end c.if-branch.false) i.short

pub returns-clause-imported : goal.returns-clause-imported
returns-clause-imported g c =
    imported_as_whole (g.R.Read.remaining c.args.reader.now) c.loop-bytes.bytes.items (returns-clause-bytes g c)
