use Rattle.std.proofs.Common.{◌∙◌, refl}
use Rattle.yard_core.specs.StockBooks.{stock_books_of}
use Rattle.std.proofs.Common.{ap, ◌||◌, ◌+◌}
use Rattle.std.specs.Prelude.{nat_lt}
use Rattle.word_core.specs.Counter.{lacks}
use Rattle.forest.specs.declared.entry.Kind.TheVariants as kind
use Rattle.forest.specs.declared.place.Place.TheVariants.{At}
use Rattle.yard_core.specs.StockBooks.{entries_in}
use Rattle.stock_core.specs.Arrives.{count_of}
use Rattle.stock_core.specs.Found.{found}
use Rattle.stock_core.proofs.Uses.{full-used, uses-make_new}
use Rattle.stock_core.proofs.commands.found.is_full.Goals as goal

pub returns : goal.returns
returns c part location day =
    let b = stock_books_of c.args.books.now.yard c.args.books.now.counter in
    let count = count_of c.args.new.now.serials in
    c.lacks_room.ensures
    ∙ ap (λ n. lacks n b.counter || nat_lt b.counter.limits.entries (entries_in b + n)) c.count_of-count.ensures
    ∙ full-used count count b (found part location c.args.new.now day b)
    (uses-make_new (record { kind = kind.Found; place = At location; part = part }) c.args.new.now day b
    refl c.requires.stock.history)
