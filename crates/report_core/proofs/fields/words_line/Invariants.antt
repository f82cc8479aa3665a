use Rattle.std.proofs.Common.{◌≡◌, ◌++◌, drop, map}
use Rattle.report_core.specs.Lines.{fields_of}
use Rattle.report_core.proofs.fields.words_line.Given as goal

-- the fields so far and those of what is left are all fields
abbrev pub invariant-loop-word : goal.invariant-loop-word
invariant-loop-word l =
    fields_of l.line ++ map (λ w. w.now) (drop l.word-index l.words) ≡ map (λ w. w.now) l.words
