use Rattle.std.proofs.Common.{◌≡◌, ◌-◌, None, length}
use Rattle.std.specs.Str.{IsUtf8}
use Rattle.desk_wire.specs.TextWays.{led_by}
use Rattle.desk_wire.proofs.text_ways.led_to_location.Given as goal

-- what is left of the text leads on from where it is
abbrev pub invariant-loop-step : goal.invariant-loop-step
invariant-loop-step g l =
    let child = (g.N.Names.naming_of l.names).location in
    (led_by child (length l.text) None l.text ≡ led_by child (length l.text - l._step) l.parent l.left) × IsUtf8 l.left
