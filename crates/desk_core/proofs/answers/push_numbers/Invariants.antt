use Rattle.std.proofs.Common.{◌≡◌, ◌++◌, string_bytes, false, drop}
use Rattle.desk_core.specs.AnswerLine.{numbers_text}
use Rattle.desk_core.proofs.answers.push_numbers.Given as goal

abbrev pub invariant-loop-number : goal.invariant-loop-number
invariant-loop-number l =
    string_bytes l.text ++ numbers_text l.later (drop l.number-index l.numbers)
    ≡ string_bytes l.initial.text ++ numbers_text false l.numbers
