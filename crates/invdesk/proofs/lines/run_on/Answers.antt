use Rattle.std.proofs.Common.{◌∙◌, ap}
use Rattle.invdesk.specs.Works.{RunsOnDesk}
use Rattle.invdesk.proofs.Working.{along}
use Rattle.invdesk.proofs.lines.run_on.Goals as goal

pub run_lines-end-requires : goal.run_lines-end-requires
run_lines-end-requires g c = rw (c.new-explained.ensures.books, c.new-watched.ensures.desk) c.requires

pub returns-clause-desk : goal.returns-clause-desk
returns-clause-desk g c = rw (c.into_desk.ensures, c.into_books.ensures) c.run_lines-end.ensures.kept

pub returns-clause-runs : goal.returns-clause-runs
returns-clause-runs g c =
    along c.args.desk c.into_desk.result c.new-explained.result.books.desk c.run_lines-end.new.books.books.desk
    (λ old new. RunsOnDesk g.S.Store c.args.options old new c.run_lines-end.result)
    (ap (λ watched. watched.desk) c.new-explained.ensures.books ∙ c.new-watched.ensures.desk)
    (c.into_desk.ensures ∙ ap (λ watched. watched.desk) c.into_books.ensures)
    (record {
      done = c.run_lines-end.ensures.done;
      stopped = c.run_lines-end.ensures.stopped;
      were_open = c.run_lines-end.ensures.open;
      closed = c.run_lines-end.ensures.closed;
      left = c.run_lines-end.ensures.left;
    })
