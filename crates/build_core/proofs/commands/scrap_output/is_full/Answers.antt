use Rattle.std.proofs.Common.{ap, ◌∙◌, ◌||◌, ◌+◌}
use Rattle.std.specs.Prelude.{nat_lt}
use Rattle.word_core.specs.Counter.{lacks}
use Rattle.yard_core.specs.BooksView.{books_now}
use Rattle.yard_core.specs.StockBooks.{entries_in}
use Rattle.stock_core.proofs.Uses.{full-used}
use Rattle.build_core.specs.ScrapOutput.{scrapped}
use Rattle.build_core.proofs.EachUses.{scrapped_entries, uses-scrapped}
use Rattle.build_core.proofs.commands.scrap_output.is_full.Goals as goal

pub returns : goal.returns
returns c day =
    let b = books_now c.args.books.now in
    let n = c.args.output in
    c.lacks_room.ensures
    ∙ ap (λ k. lacks 0 b.counter || nat_lt b.counter.limits.entries (entries_in b + k)) c.in_ok-entries.ensures
    ∙ full-used 0 (scrapped_entries n b) b (scrapped n day b) (uses-scrapped n day b c.requires.sound.stock.history)
