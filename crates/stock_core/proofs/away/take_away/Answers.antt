use Rattle.std.proofs.Common.{◌+◌, ◌||◌, sym, ap, ◌∙◌, arith}
use Rattle.std.specs.Prelude.{nat_lt}
use Rattle.std.specs.FinMap as table
use Rattle.word_core.specs.Counter.{Counting, Numbering, lacks}
use Rattle.yard_core.specs.StockBooks.{entries_in, is_full}
use Rattle.yard_core.specs.Stock.{Stock}
use Rattle.yard_core.specs.YardView.{stock_of}
use Rattle.yard_core.specs.BooksView.{books_now}
use Rattle.stock_core.specs.Drawing.{books_at}
use Rattle.stock_core.specs.Serving.{away}
use Rattle.stock_core.specs.Steps.{take}
use Rattle.stock_core.proofs.Able.{lift-loose}
use Rattle.stock_core.proofs.Served.{away_entries, full-cut, full-go, uses-away, within-go}
use Rattle.stock_core.proofs.Undrawn.{lacks-none}
use Rattle.stock_core.proofs.away.take_away.Goals as goal

pub returns-then-lacks_room-clause-full : goal.returns-then-lacks_room-clause-full
returns-then-lacks_room-clause-full c = λ _.
    let place = c.args.place in
    let day = c.args.day in
    full-cut (away place day) (away_entries place) (uses-away place day) c.args.item c.args.quantity day
    (books_now c.args.books.now) c.requires.sound.history
    (sym c.has_more.ensures ∙ c.if-has_more.true) (sym c.lacks_room.ensures ∙ c.if-lacks_room.true)

pub returns-then-lacks_room-2-clause-full : goal.returns-then-lacks_room-2-clause-full
returns-then-lacks_room-2-clause-full c = λ _.
    let place = c.args.place in
    let day = c.args.day in
    let b = books_at c.take_at.new.next c.take_at.new.books.yard c.take_at.new.books.counter in
    let old = c.args.books.now in
    ap (λ n. is_full (away place day (take c.args.item c.args.quantity day (books_at n old.yard old.counter))))
    (sym c.next-first.ensures)
    ∙ ap (λ t. is_full (away place day t)) c.in_ok-number.ensures.ok
    ∙ full-go (away place day) (away_entries place) (uses-away place day) (b, c.in_ok-number.number)
    c.in_ok-number.ensures.sound.history
    (ap (λ e. lacks 0 b.counter || nat_lt b.counter.limits.entries (entries_in b + e)) (sym c.in_ok-entries.ensures)
    ∙ ap (λ d. d || nat_lt b.counter.limits.entries (entries_in b + c.in_ok-entries.entries))
    (lacks-none c.next-first.result c.take_at.new.next c.take_at.new.books.counter
    (ap (λ (k : Counting). k.next) c.in_ok-number.ensures.undrawn ∙ sym c.next-first.ensures) c.in_ok-number.ensures.from)
    ∙ sym c.lacks_room-2.ensures
    ∙ c.if-lacks_room-2.true)

pub lift-requires-clause-can : goal.lift-requires-clause-can
lift-requires-clause-can c =
    lift-loose c.in_ok-number.number c.args.place (stock_of c.take_at.new.books.yard) c.in_ok-number.ensures.loose
    c.requires.leaves

pub returns-clause-within : goal.returns-clause-within
returns-clause-within c =
    let place = c.args.place in
    let day = c.args.day in
    let b = books_at c.take_at.new.next c.take_at.new.books.yard c.take_at.new.books.counter in
    let room =
    ap (λ e. lacks 0 b.counter || nat_lt b.counter.limits.entries (entries_in b + e)) (sym c.in_ok-entries.ensures)
    ∙ ap (λ d. d || nat_lt b.counter.limits.entries (entries_in b + c.in_ok-entries.entries))
    (lacks-none c.next-first.result c.take_at.new.next c.take_at.new.books.counter
    (ap (λ (k : Counting). k.next) c.in_ok-number.ensures.undrawn ∙ sym c.next-first.ensures) c.in_ok-number.ensures.from)
    ∙ sym c.lacks_room-2.ensures
    ∙ c.if-lacks_room-2.false in
    let few =
    within-go (away place day) (away_entries place) (uses-away place day) (b, c.in_ok-number.number)
    c.in_ok-number.ensures.sound.history room in
    omega (
      arith,
      few,
      ap (λ (s : Stock). table.len s.history) c.in_ok-lift.ensures.ok,
      ap (λ (n : Numbering). n.limits.entries) c.draw_up_to.ensures.now,
    )
