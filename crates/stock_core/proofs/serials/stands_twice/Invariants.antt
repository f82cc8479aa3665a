use Rattle.std.proofs.Common.{◌≡◌, drop}
use Rattle.std.specs.Str.{bytes_eq}
use Rattle.word_core.specs.Twice.{stands_twice}
use Rattle.stock_core.proofs.serials.stands_twice.Given as goal

abbrev pub invariant-loop-i : goal.invariant-loop-i
invariant-loop-i l = stands_twice bytes_eq (drop l.i l.serials) ≡ stands_twice bytes_eq l.serials
