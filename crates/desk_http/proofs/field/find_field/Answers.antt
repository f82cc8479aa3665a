use Rattle.std.proofs.Common.{◌∙◌, ◌++◌, ap, sym, map, drop}
use Rattle.httparse.specs.Spans.{header_bytes}
use Rattle.desk_http.specs.Fields.{values, found_so_far}
use Rattle.desk_http.proofs.Fields.{values_out, values_in, none_yet}
use Rattle.desk_http.proofs.field.find_field.Goals as goal

pub loop-span-preserved-then-not-is_same_text : goal.loop-span-preserved-then-not-is_same_text
loop-span-preserved-then-not-is_same_text c =
    c.loop-span.invariant ∙ ap (λ v. found_so_far c.loop-span.found ++ v)
    (values_out c.args.name.now c.args.head.now c.args.spans.now c.loop-span.span-index _ c.of.result.now
    c.loop-span-test.true c.of.ensures (sym c.is_same_text.ensures ∙ c.if-not-is_same_text.true))

pub loop-span-preserved : goal.loop-span-preserved
loop-span-preserved c =
    c.loop-span.invariant ∙ ap
    (λ v. v ++ values c.args.name.now
    (map (header_bytes c.args.head.now) (drop c.loop-span.span-index c.args.spans.now)))
    (none_yet c.loop-span.found (sym c.is_some.ensures ∙ c.if-is_some.false))
    ∙ values_in c.args.name.now c.args.head.now c.args.spans.now c.loop-span.span-index _ c.of.result.now
    c.of-in-loop-span.result.now c.loop-span-test.true c.of.ensures c.of-in-loop-span.ensures
    (sym c.is_same_text.ensures ∙ c.if-not-is_same_text.false)
