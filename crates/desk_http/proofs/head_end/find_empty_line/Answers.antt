use Rattle.std.proofs.Common.{◌∙◌, sym}
use Rattle.desk_http.proofs.Arriving.{no_empty_line}
use Rattle.desk_http.proofs.Numbers.{from_index}
use Rattle.desk_http.proofs.head_end.find_empty_line.Goals as goal

pub loop-i-preserved : goal.loop-i-preserved
loop-i-preserved c =
    c.loop-i.invariant
    ∙ no_empty_line c.args.bytes.now _ c.loop-i.i c.loop-i-test.true (from_index c.args.bytes.now c.loop-i.i)
    (sym c.starts_with.ensures.value ∙ c.if-starts_with.false)
    (sym c.starts_with-in-loop-i.ensures.value ∙ c.if-starts_with-2.false)
