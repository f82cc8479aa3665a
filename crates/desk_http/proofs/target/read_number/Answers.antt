use Rattle.std.proofs.Common.{arith}
use Rattle.desk_http.proofs.Numbers.{fits}
use Rattle.std.proofs.Common.{◌-◌, ◌<◌, slice_index_or}
use Rattle.desk_http.proofs.target.read_number.Goals as goal

pub overflow_mul-value : goal.overflow_mul-value
overflow_mul-value c =
    omega (arith, fits c.loop-b.b-index c.loop-b.value 0 (omega arith) c.loop-b.invariant.small (omega arith))

pub overflow_add-value : goal.overflow_add-value
overflow_add-value c =
    let digit : slice_index_or c.args.bytes.now c.loop-b.b-index 0 - 48 < 10 =
    let is = rw c.if-not-is_ascii_digit.false at c.is_ascii_digit.ensures.cases in omega (arith, is) in
    omega (arith, fits c.loop-b.b-index c.loop-b.value _ (omega arith) c.loop-b.invariant.small digit)
