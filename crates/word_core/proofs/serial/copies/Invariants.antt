use Rattle.std.proofs.Common.{◌≡◌, ◌++◌, drop}
use Rattle.word_core.proofs.serial.copies.Given as goal

abbrev pub invariant-loop-serial : goal.invariant-loop-serial
invariant-loop-serial l = l.copies.items ++ drop l.serial-index l.serials ≡ l.serials
