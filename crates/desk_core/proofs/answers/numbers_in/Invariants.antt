use Rattle.std.proofs.Common.{◌≡◌, ◌++◌, None, drop}
use Rattle.desk_core.specs.AnswerLine.{numbers_in}
use Rattle.desk_core.proofs.answers.numbers_in.Given as goal

abbrev pub invariant-loop-byte : goal.invariant-loop-byte
invariant-loop-byte l = l.numbers.items ++ numbers_in l.begun (drop l.byte-index l.text) ≡ numbers_in None l.text
