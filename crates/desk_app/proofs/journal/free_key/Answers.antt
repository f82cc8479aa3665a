use Rattle.std.proofs.Common.{◌∙◌, ◌+◌, ◌-◌, arith, ap, is_some, sym}
use Rattle.std.specs.FinMap as table
use Rattle.sheet_core.specs.Sheet.{now_of}
use Rattle.desk_app.proofs.Journalling.{next_free}
use Rattle.desk_app.proofs.journal.free_key.Goals as goal

pub loop-taken-preserved : goal.loop-taken-preserved
loop-taken-preserved c =
    let count = c.len-count.result in
    let taken = c.loop-taken.taken in
    c.loop-taken.invariant
    ∙ next_free (now_of c.args.answers.now) c.args.day (count + 1 + taken) (count + 1 + (taken + 1))
    (count - taken) (count - (taken + 1))
    (ap (λ k. is_some (table.get (now_of c.args.answers.now) k)) (sym c.in_ok-key.ensures)
    ∙ sym c.is_kept.ensures ∙ c.if-not-is_kept.false) (omega arith) (omega arith)
