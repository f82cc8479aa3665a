use Rattle.std.proofs.Common.{◌+◌, None, refl, arith}
use Rattle.yard_core.specs.YardView.{stock_of}
use Rattle.stock_core.proofs.Able.{entries-after, piece-after}
use Rattle.stock_core.proofs.Undrawn.{cut-from, from}
use Rattle.stock_core.proofs.pieces.take_at.Goals as goal

pub returns-clause-loose : goal.returns-clause-loose
returns-clause-loose c =
    let next = c.args.next.now in
    let limits = c.args.books.now.counter.limits in
    let old = stock_of c.args.books.now.yard in
    let new = stock_of c.cut.new.self in
    piece-after c.args.item c.args.quantity next c.args.day (from next limits old) (from (next + 1) limits new)
    (cut-from c.args.item c.args.quantity None c.args.day next limits old new c.in_ok-cut.ensures.ok) refl
    c.requires.loose

pub returns-clause-entries : goal.returns-clause-entries
returns-clause-entries c =
    let next = c.args.next.now in
    let limits = c.args.books.now.counter.limits in
    let old = stock_of c.args.books.now.yard in
    let new = stock_of c.cut.new.self in
    omega (
      arith,
      entries-after c.args.item c.args.quantity None c.args.day (from next limits old) (from (next + 1) limits new)
          c.requires.sound.history
          (cut-from c.args.item c.args.quantity None c.args.day next limits old new c.in_ok-cut.ensures.ok),
    )
