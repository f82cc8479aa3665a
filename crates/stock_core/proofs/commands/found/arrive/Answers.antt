use Rattle.std.proofs.Common.{arith, refl}
use Rattle.word_core.specs.declared.refusal.Refusal.TheVariants.{Full}
use Rattle.word_core.proofs.CheckLemmas.{none-holds}
use Rattle.forest.specs.declared.entry.Kind.TheVariants as kind
use Rattle.forest.specs.declared.place.Place.TheVariants.{At}
use Rattle.yard_core.specs.StockBooks.{stock_books_of}
use Rattle.stock_core.specs.Arrives.{count_of}
use Rattle.stock_core.specs.Found.{found, found_checks}
use Rattle.stock_core.proofs.Rooms.{room-checked}
use Rattle.stock_core.proofs.Uses.{uses-make_new}
use Rattle.stock_core.proofs.commands.found.arrive.Goals as goal

pub make_new-requires-clause-room : goal.make_new-requires-clause-room
make_new-requires-clause-room c =
    let b = stock_books_of c.args.books.now.yard c.args.books.now.counter in
    let new = c.args.new.now in
    let passed =
    none-holds (found_checks c.args.part c.args.location new c.args.day c.requires.checked.0 b)
    c.requires.checked.1 in
    room-checked (count_of new.serials) b (found c.args.part c.args.location new c.args.day b) c.requires.sound
    (omega (arith, c.args.books.now.counter.limits.entries_within))
    (uses-make_new (record { kind = kind.Found; place = At c.args.location; part = c.args.part }) new c.args.day b refl
    c.requires.sound.stock.history)
    (passed Full)
