use Rattle.std.proofs.Common.{◌≡◌, false, length, eqb, sym, arith}
use Rattle.std.proofs.lemmas.Bool.Decides.{nat_tests}
use Rattle.desk_wire.proofs.SerialLists.{range_counts}
use Rattle.desk_wire.proofs.serial_count.count_in.Goals as goal

pub returns-then-last-first-lt-MOST_SERIALS : goal.returns-then-last-first-lt-MOST_SERIALS
returns-then-last-first-lt-MOST_SERIALS c =
    let some : eqb (length c.args.element.now) 0 ≡ false = grind (arith, nat_tests) in
    range_counts c.args.element.now c.in-Some.first c.in-Some.last some (grind arith) (sym c.in-Some.ensures)
    (omega arith) (omega arith)
