use Rattle.std.proofs.Common.{◌≡◌, ◌&&◌, ◌∙◌, refl, inl, inr}
use Rattle.std.specs.Prelude.{Ok, Err}
use Rattle.desk_app.specs.Asked.{RunsAt}
use Rattle.desk_app.specs.Cuts.{left, unread}
use Rattle.desk_app.specs.declared.heard.Trouble.TheVariants.{Memory, ReadFailed}
use Rattle.desk_app.proofs.Asking.{Going, ends_all, ends_asked, ends_input, ends_stopped, going_more, going_none}
use Rattle.desk_app.proofs.Asking.{never_begun, runs_as}
use Rattle.desk_app.proofs.at.ask_lines.Given.{Over}
use Rattle.desk_app.proofs.at.ask_lines.Goals as goal
use Rattle.desk_app.proofs.at.ask_lines.Goals.{Joined-all, then-all, else-all}

pub returns-in_err-lines : goal.returns-in_err-lines
returns-in_err-lines g c =
    let known = g.R.Read.remaining c.args.reader.now in
    let log = g.A.Asker.log c.args.asker.now in
    let w = g.W.Write.contents c.args.writer.now in
    runs_as (RunsAt c.args.stop known log log w w) c.from_residual.result Memory c.from_residual.ensures.1
    (never_begun c.args.stop known log w Memory (inr refl))

pub loop-init : goal.loop-init
loop-init g c =
    going_none c.args.stop (g.R.Read.remaining c.args.reader.now) (unread c.in_ok-lines.lines)
    (g.A.Asker.log c.args.asker.now) (g.W.Write.contents c.args.writer.now) c.in_ok-lines.ensures.empty

pub returns-in_err-count : goal.returns-in_err-count
returns-in_err-count g c =
    let known = g.R.Read.remaining c.args.reader.now in
    let log = g.A.Asker.log c.args.asker.now in
    let w = g.W.Write.contents c.args.writer.now in
    let log' = g.A.Asker.log c.loop.asker in
    let w' = g.W.Write.contents c.loop.writer in
    runs_as (RunsAt c.args.stop known log log' w w') c.from_residual-in_err-count.result c.in_err-count.field-0.0
    c.from_residual-in_err-count.ensures.1
    (ends_input c.args.stop known (left (g.R.Read.remaining c.loop.reader) c.loop.lines) log log' w w' c.loop.before
    c.loop.all c.in_err-count.field-0.0 c.loop.invariant c.in_err-count.ensures.input)

pub returns-then-count-eq0 : goal.returns-then-count-eq0
returns-then-count-eq0 g c =
    ends_all c.args.stop (g.R.Read.remaining c.args.reader.now) (left (g.R.Read.remaining c.loop.reader) c.loop.lines)
    (left (g.R.Read.remaining c.take_body.new.reader) c.take_body.new.lines) (g.A.Asker.log c.args.asker.now)
    (g.A.Asker.log c.loop.asker) (g.W.Write.contents c.args.writer.now) (g.W.Write.contents c.loop.writer) c.loop.before
    c.in_ok-count.count c.loop.all c.take_body.new.body.items c.loop.invariant c.in_ok-count.ensures.takes
    c.if-count-eq0.true

pub returns-in_err-next : goal.returns-in_err-next
returns-in_err-next g c =
    let known = g.R.Read.remaining c.args.reader.now in
    let log = g.A.Asker.log c.args.asker.now in
    let w = g.W.Write.contents c.args.writer.now in
    let log' = g.A.Asker.log c.loop.asker in
    let w' = g.W.Write.contents c.loop.writer in
    runs_as (RunsAt c.args.stop known log log' w w') c.from_residual-in_err-next.result c.in_err-next.field-0.0
    c.from_residual-in_err-next.ensures.1
    (ends_input c.args.stop known (left (g.R.Read.remaining c.loop.reader) c.loop.lines) log log' w w' c.loop.before
    c.loop.all c.in_err-next.field-0.0 c.loop.invariant c.in_err-next.ensures.input)

pub returns-in_err-fine : goal.returns-in_err-fine
returns-in_err-fine g c =
    let known = g.R.Read.remaining c.args.reader.now in
    let log = g.A.Asker.log c.args.asker.now in
    let w = g.W.Write.contents c.args.writer.now in
    let log' = g.A.Asker.log c.loop.asker in
    let w' = g.W.Write.contents c.loop.writer in
    let log'' = g.A.Asker.log c.ask_after.new.asker in
    let w'' = g.W.Write.contents c.ask_after.new.writer in
    let asked = rw c.deref.ensures.value at c.in_err-fine.ensures in
    runs_as (RunsAt c.args.stop known log log'' w w'') c.from_residual-in_err-fine.result c.in_err-fine.field-0.0
    c.from_residual-in_err-fine.ensures.1
    (ends_asked c.args.stop known (left (g.R.Read.remaining c.loop.reader) c.loop.lines)
    (left (g.R.Read.remaining c.take_body.new.reader) c.take_body.new.lines) log log' log'' w w' w'' c.loop.before
    c.in_ok-count.count c.loop.all c.take_body.new.body.items c.in_err-fine.field-0.0 c.loop.invariant
    c.in_ok-count.ensures.takes asked)

-- the run after the lines that were sent
went : (g : Over) (c : Joined-all g)
    → Going c.args.stop (g.R.Read.remaining c.args.reader.now)
    (left (g.R.Read.remaining c.take_body.new.reader) c.take_body.new.lines) (g.A.Asker.log c.args.asker.now)
    (g.A.Asker.log c.ask_after.new.asker) (g.W.Write.contents c.args.writer.now)
    (g.W.Write.contents c.ask_after.new.writer) c.in_ok-next.next c.if-all.all
went g c =
    let asked = rw c.deref.ensures.value at c.in_ok-fine.ensures in
    let both : c.if-all.all ≡ (c.loop.all && c.in_ok-fine.fine) =
    elim c.if-all.branch [
      | then-all w ↦ rw w.if-all.true w.all-is
      | else-all w ↦ rw w.if-all.false (w.all-is ∙ w.if-all.false)
    ] in
    going_more c.args.stop (g.R.Read.remaining c.args.reader.now) (left (g.R.Read.remaining c.loop.reader) c.loop.lines)
    (left (g.R.Read.remaining c.take_body.new.reader) c.take_body.new.lines) (g.A.Asker.log c.args.asker.now)
    (g.A.Asker.log c.loop.asker) (g.A.Asker.log c.ask_after.new.asker) (g.W.Write.contents c.args.writer.now)
    (g.W.Write.contents c.loop.writer) (g.W.Write.contents c.ask_after.new.writer) c.loop.before c.in_ok-count.count
    c.in_ok-next.next c.loop.all c.in_ok-fine.fine c.if-all.all c.take_body.new.body.items c.loop.invariant
    c.in_ok-count.ensures.takes asked c.in_ok-next.ensures.sum both

pub returns-then-not-all : goal.returns-then-not-all
returns-then-not-all g c =
    ends_stopped c.args.stop (g.R.Read.remaining c.args.reader.now)
    (left (g.R.Read.remaining c.take_body.new.reader) c.take_body.new.lines) (g.A.Asker.log c.args.asker.now)
    (g.A.Asker.log c.ask_after.new.asker) (g.W.Write.contents c.args.writer.now)
    (g.W.Write.contents c.ask_after.new.writer) c.in_ok-next.next c.if-all.all
    (went g (goal.at.returns-then-not-all g c).Joined-all) c.if-stop.true c.if-not-all.true

pub loop-preserved : goal.loop-preserved
loop-preserved g c = went g (goal.at.loop-preserved g c).Joined-all

pub returns : goal.returns
returns g c =
    ends_input c.args.stop (g.R.Read.remaining c.args.reader.now) (left (g.R.Read.remaining c.loop.reader) c.loop.lines)
    (g.A.Asker.log c.args.asker.now) (g.A.Asker.log c.loop.asker) (g.W.Write.contents c.args.writer.now)
    (g.W.Write.contents c.loop.writer) c.loop.before c.loop.all ReadFailed c.loop.invariant (inl refl)
