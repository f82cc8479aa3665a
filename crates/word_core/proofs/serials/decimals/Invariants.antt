use Rattle.std.proofs.Common.{◌≡◌, ◌-◌, map, decimal}
use Rattle.std.specs.List.{range_with_len}
use Rattle.word_core.proofs.serials.decimals.Given as goal

abbrev pub invariant-loop-number : goal.invariant-loop-number
invariant-loop-number l = l.serials.items ≡ map decimal (range_with_len l.first (l.number-counter - l.first))
