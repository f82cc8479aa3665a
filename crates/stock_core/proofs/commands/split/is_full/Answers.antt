use Rattle.std.proofs.Common.{◌∙◌}
use Rattle.yard_core.specs.StockBooks.{stock_books_of}
use Rattle.std.proofs.Common.{None}
use Rattle.stock_core.specs.Split.{split}
use Rattle.stock_core.proofs.Uses.{full-used, uses-cut_off}
use Rattle.stock_core.proofs.commands.split.is_full.Goals as goal

pub returns : goal.returns
returns c item quantity day =
    let b = stock_books_of c.args.books.now.yard c.args.books.now.counter in
    c.lacks_room.ensures ∙ full-used 1 1 b (split item quantity day b)
    (uses-cut_off item quantity None day b c.requires.stock.history)
