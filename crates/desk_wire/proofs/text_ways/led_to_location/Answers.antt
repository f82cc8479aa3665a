use Rattle.std.proofs.Common.{◌≡◌, ◌∙◌, ◌-◌, ◌+◌, suc, Some, length, sym, ap, arith, rules}
use Rattle.std.specs.Prelude.{option_map}
use Rattle.std.specs.Str.{IsUtf8}
use Rattle.part_core.specs.declared.found.Found.TheVariants.{One}
use Rattle.desk_wire.specs.TextWays.{cut_at_stroke, led_by}
use Rattle.desk_wire.proofs.Strokes.{led_on}
use Rattle.desk_wire.proofs.text_ways.led_to_location.Goals as goal

pub cut_at_stroke-requires-text-text : goal.cut_at_stroke-requires-text-text
cut_at_stroke-requires-text-text g c κs = c.loop-step.invariant.1

pub loop-step-preserved : goal.loop-step-preserved
loop-step-preserved g c =
    let child = (g.N.Names.naming_of c.args.names.now).location in
    let parent = c.loop-step.parent in
    let text = c.loop-step.left.now in
    let steps = length c.args.text.now - (c.loop-step._step + 1) in
    let one : length c.args.text.now - c.loop-step._step ≡ suc steps = omega (arith, c.loop-step-test.true) in
    let found : child parent (cut_at_stroke text).0 ≡ One c.in-One.number =
    ap (λ n. child parent n) (sym (ap (λ p. p.0) c.cut_at_stroke.ensures))
    ∙ sym c.in_ok-location.ensures
    ∙ c.in-One.is in
    let more : (cut_at_stroke text).1 ≡ Some c.in-Some.rest.now =
    sym (ap (λ p. p.1) c.cut_at_stroke.ensures) ∙ ap (option_map (λ r. r.now)) c.in-Some.is in
    let on = led_on child steps parent text c.in-Some.rest.now c.in-One.number found more in
    let utf8 : IsUtf8 c.in-Some.rest.now = search rules in
    (c.loop-step.invariant.0 ∙ ap (λ k. led_by child k parent text) one ∙ on, utf8)
