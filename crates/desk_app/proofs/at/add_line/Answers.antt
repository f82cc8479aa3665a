use Rattle.std.proofs.Common.{◌∙◌, ◌++◌, ◌∷◌, [], ap}
use Rattle.desk_app.specs.Cuts.{left}
use Rattle.desk_app.proofs.Asking.{line_added}
use Rattle.desk_app.proofs.at.add_line.Goals as goal

pub returns-in_ok-push-in-Ok-true-clause-adds : goal.returns-in_ok-push-in-Ok-true-clause-adds
returns-in_ok-push-in-Ok-true-clause-adds g c =
    let body = c.args.body.now.items in
    let line = c.next_line.new.line.items in
    line_added (left (g.R.Read.remaining c.args.reader.now) c.args.lines.now)
    (left (g.R.Read.remaining c.next_line.new.reader) c.next_line.new.self) line body c.push.new.self.items
    (rw c.in-Ok-true.field-0-test at c.in-Ok-true.ensures.takes) c.in-Ok-true.ensures.short
    (c.in_ok-push-in-Ok-true.ensures.items
    ∙ ap (λ v. v ++ 10 ∷ [])
    (c.in_ok-extend_from_slice-in-Ok-true.ensures.items ∙ ap (λ v. body ++ v) c.deref.ensures.value))
