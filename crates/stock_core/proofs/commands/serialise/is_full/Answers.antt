use Rattle.std.proofs.Common.{◌∙◌, length}
use Rattle.yard_core.specs.StockBooks.{stock_books_of}
use Rattle.stock_core.specs.Serialise.{serialise}
use Rattle.stock_core.proofs.Uses.{full-used, uses-cut_each}
use Rattle.stock_core.proofs.commands.serialise.is_full.Goals as goal

pub returns : goal.returns
returns c item day =
    let b = stock_books_of c.args.books.now.yard c.args.books.now.counter in
    c.lacks_room.ensures ∙ full-used (length c.args.serials.now) (length c.args.serials.now) b
    (serialise item c.args.serials.now day b)
    (uses-cut_each item c.args.serials.now day b c.requires.stock.history)
