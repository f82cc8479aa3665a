use Rattle.std.proofs.Common.{◌≡◌, ℕ, ◌≤◌, false, List, length, Option, Some, None, arith}
use Rattle.std.proofs.lemmas.Bool.{ltb-false}
use Rattle.word_core.specs.Quantity.{is_bad_quantity}
use Rattle.word_core.specs.declared.refusal.Refusal.TheVariants.{BadNumber, Full}
use Rattle.word_core.proofs.CheckLemmas.{none-holds}
use Rattle.sheet_core.proofs.Conditions.{or_none}
use Rattle.stock_core.specs.Arrives.{count_of}
use Rattle.stock_core.specs.Serials.{are_many, given}
use Rattle.stock_core.proofs.Checked.{good-quantity}
use Rattle.stock_core.proofs.Rooms.{room-few}
use Rattle.build_core.specs.Builds.{build_at}
use Rattle.build_core.specs.BuildBooks.{build_books}
use Rattle.build_core.specs.NewOutputs.{new_outputs, new_outputs_checks}
use Rattle.build_core.proofs.Begun.{uses-begun}
use Rattle.build_core.proofs.commands.new_outputs.begin.Goals as goal

-- there are no more than a command may name
few-named : (o : Option (List (List ℕ))) → given are_many o ≡ false → count_of o ≤ 10000000000
few-named None e = omega arith
few-named (Some xs) e = omega (arith, ltb-false 1000 (length xs) e)

pub make_new-requires-clause-room : goal.make_new-requires-clause-room
make_new-requires-clause-room c =
    let b = build_books c.args.builds.now c.args.floor.now in
    let n = c.args.build in
    let new = c.args.new.now in
    let passed =
    none-holds (new_outputs_checks n new c.args.day c.requires.checked.0 c.requires.checked.1 b)
    c.requires.checked.2 in
    let named = or_none (is_bad_quantity new.quantity) (given are_many new.serials) (passed BadNumber) in
    let items = c.requires.sound.3.stock.items in
    room-few (count_of new.serials) 0 b.books (new_outputs n new c.args.day b).books items
    (omega (arith, c.args.floor.now.stock.counter.limits.entries_within)) (few-named new.serials named.1)
    (uses-begun n (build_at n b).part new c.args.day b.books items.stock.history) (passed Full)

pub make_new-requires-clause-quantity : goal.make_new-requires-clause-quantity
make_new-requires-clause-quantity c =
    let b = build_books c.args.builds.now c.args.floor.now in
    let new = c.args.new.now in
    let passed =
    none-holds
    (new_outputs_checks c.args.build new c.args.day c.requires.checked.0 c.requires.checked.1 b)
    c.requires.checked.2 in
    good-quantity new.quantity (or_none (is_bad_quantity new.quantity) (given are_many new.serials) (passed BadNumber)).0
