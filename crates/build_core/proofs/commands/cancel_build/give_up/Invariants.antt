use Rattle.std.proofs.Common.{◌≡◌, drop}
use Rattle.yard_core.specs.BooksView.{books_now}
use Rattle.yard_core.specs.YardView.{stock_before}
use Rattle.build_core.proofs.Clearing.{IsClearing}
use Rattle.build_core.proofs.commands.cancel_build.give_up.Given as goal

abbrev pub invariant-loop-output : goal.invariant-loop-output
invariant-loop-output l =
    record {
      left :
          IsClearing l.build l.day l.output-items (drop l.output-index l.output-items)
          (books_now l.initial.books) (books_now l.books);
      before : stock_before l.books.yard ≡ stock_before l.initial.books.yard;
      counter : l.books.counter ≡ l.initial.books.counter;
    }
