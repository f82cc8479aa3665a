use Rattle.std.proofs.Common.{ap, ◌∙◌, ◌||◌, ◌+◌}
use Rattle.std.specs.Prelude.{nat_lt}
use Rattle.word_core.specs.Counter.{lacks}
use Rattle.yard_core.specs.BooksView.{books_now}
use Rattle.yard_core.specs.StockBooks.{entries_in}
use Rattle.stock_core.specs.Arrives.{count_of}
use Rattle.stock_core.specs.Steps.{make_new}
use Rattle.stock_core.proofs.Uses.{full-used}
use Rattle.build_core.specs.NewOutputs.{begun_at}
use Rattle.build_core.proofs.Begun.{uses-begun}
use Rattle.build_core.proofs.commands.new_outputs.is_full.Goals as goal

pub returns : goal.returns
returns c build part day =
    let b = books_now c.args.books.now in
    let new = c.args.new.now in
    c.lacks_room.ensures
    ∙ ap (λ k. lacks k b.counter || nat_lt b.counter.limits.entries (entries_in b + 0)) c.count_of.ensures
    ∙ full-used (count_of new.serials) 0 b (make_new (begun_at build part) new day b)
    (uses-begun build part new day b c.requires.stock.history)
