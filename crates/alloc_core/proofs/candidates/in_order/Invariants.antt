use Rattle.std.proofs.Common.{◌≡◌, ℕ, take}
use Rattle.alloc_core.specs.Finding.{is_among}
use Rattle.alloc_core.proofs.candidates.in_order.Given as goal

abbrev pub invariant-loop-number : goal.invariant-loop-number
invariant-loop-number l = (n : ℕ) → is_among n l.sorted.keys ≡ is_among n (take l.number-index l.numbers)
