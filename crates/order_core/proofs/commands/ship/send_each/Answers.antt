use Rattle.std.proofs.Common.{◌+◌, ◌≤◌, refl, ◌∙◌, arith, drop}
use Rattle.yard_core.specs.BooksView.{books_now}
use Rattle.stock_core.proofs.Served.{left-cut, left-from, left-full, left-one, seen, within-limits}
use Rattle.order_core.specs.Ship.{sent_for}
use Rattle.order_core.proofs.SendEach.{Nothing, left-all}
use Rattle.order_core.proofs.commands.ship.send_each.Goals as goal

pub loop-row-init : goal.loop-row-init
loop-row-init c = (
  left-all c.args.order c.args.day (seen c.args.rows.now) (books_now c.args.books.now) c.requires.sound
      c.requires.covered,
  refl,
)

pub take_away-sent-requires-clause-can : goal.take_away-sent-requires-clause-can
take_away-sent-requires-clause-can c = λ more room.
    let rows = c.args.rows.now in
    let i = c.loop-row.row-index in
    let go = sent_for c.args.order c.args.day in
    let old = books_now c.args.books.now in
    let b = books_now c.loop-row.books in
    left-cut go c.args.day Nothing (seen rows) c.row-item.result.now (seen (drop (i + 1) rows)) old b
    (left-from go c.args.day Nothing rows i c.row-item.result old b c.loop-row-test.true c.row-item.is
    c.loop-row.invariant.0)
    more room c.loop-row.books.counter.limits.entries_within

pub returns-in-Err-clause-full : goal.returns-in-Err-clause-full
returns-in-Err-clause-full c = λ e.
    let rows = c.args.rows.now in
    let i = c.loop-row.row-index in
    let go = sent_for c.args.order c.args.day in
    let old = books_now c.args.books.now in
    let b = books_now c.loop-row.books in
    left-full go c.args.day Nothing (seen rows) c.row-item.result.now (seen (drop (i + 1) rows)) old b
    (left-from go c.args.day Nothing rows i c.row-item.result old b c.loop-row-test.true c.row-item.is
    c.loop-row.invariant.0)
    (c.take_away-sent.ensures.full (c.in-Err.is ∙ e))

pub loop-row-preserved : goal.loop-row-preserved
loop-row-preserved c =
    let rows = c.args.rows.now in
    let i = c.loop-row.row-index in
    let go = sent_for c.args.order c.args.day in
    let old = books_now c.args.books.now in
    let b = books_now c.loop-row.books in (
      left-one go c.args.day Nothing (seen rows) c.row-item.result.now (seen (drop (i + 1) rows)) old b
          (left-from go c.args.day Nothing rows i c.row-item.result old b c.loop-row-test.true c.row-item.is
          c.loop-row.invariant.0)
          (books_now c.take_away-sent.new.books) c.in_default.ensures.ok c.in_default.ensures.within,
      c.take_away-sent.ensures.before ∙ c.loop-row.invariant.1,
    )

pub returns-clause-within : goal.returns-clause-within
returns-clause-within c =
    let b = books_now c.loop-row.books in
    let numbers : b.counter.next ≤ b.counter.limits.numbers + 1 =
    omega (arith, c.largest.ensures.next, c.largest.ensures.value) in
    within-limits b numbers c.loop-row.invariant.0.within
