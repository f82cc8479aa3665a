use Rattle.desk_app.specs.Asked.{Prints}
use Rattle.desk_app.specs.Heard.{shown_of}
use Rattle.desk_app.proofs.Asking.{prints_none, prints_shown, runs_as}
use Rattle.desk_app.proofs.at.ask_after.Goals as goal

pub returns-in_err-shown : goal.returns-in_err-shown
returns-in_err-shown g c =
    let w = g.W.Write.contents c.args.writer.now in
    let x = shown_of c.args.question c.args.before c.ask-heard.result in (
      c.ask-heard.result,
      c.ask-heard.ensures,
      runs_as (Prints x w w) c.from_residual.result c.in_err-shown.field-0.0 c.from_residual.ensures.1
          (prints_none c.shown_of.result x w c.in_err-shown.field-0.0 c.shown_of.ensures c.in_err-shown.was),
    )

pub returns : goal.returns
returns g c = (
  c.ask-heard.result,
  c.ask-heard.ensures,
  prints_shown c.shown_of.result (shown_of c.args.question c.args.before c.ask-heard.result)
      (g.W.Write.contents c.args.writer.now) (g.W.Write.contents c.print_shown.new.writer) c.in_ok-shown.shown
      c.print_shown.result c.shown_of.ensures c.in_ok-shown.was c.print_shown.ensures,
)
