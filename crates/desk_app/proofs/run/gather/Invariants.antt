use Rattle.std.specs.Prelude.{◌≡◌, None, true}
use Rattle.desk_app.specs.Cuts.{left}
use Rattle.desk_app.proofs.Running.{Running}
use Rattle.desk_app.proofs.run.gather.Given as goal

abbrev pub invariant-loop-number : goal.invariant-loop-number
invariant-loop-number g l = record {
  running :
      Running l.options (g.R.Read.remaining l.initial.reader) (left (g.R.Read.remaining l.reader) l.lines)
      (g.W.Write.contents l.initial.writer) (g.W.Write.contents l.writer) (g.B.Books.state_in l.initial.books)
      (g.B.Books.state_in l.books) l.number l.all l.text.items
      (λ trees. (g.B.Books.failure_of l.initial.books ≡ None) × g.B.Books.may_leave l.books trees);
  going : l.options.stop ≡ true → l.all ≡ true;
  grouping : g.B.Books.are_grouping l.books;
  stays_open : g.B.Books.failure_of l.initial.books ≡ None → g.B.Books.failure_of l.books ≡ None;
  was_open : g.B.Books.failure_of l.books ≡ None → g.B.Books.failure_of l.initial.books ≡ None;
}
