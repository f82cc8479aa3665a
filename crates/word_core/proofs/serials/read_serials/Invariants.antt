use Rattle.std.proofs.Common.{◌≡◌, drop, length, map, eqb}
use Rattle.std.specs.List.{slice_split}
use Rattle.word_core.specs.Serials.{serials_in, element_serials}
use Rattle.word_core.proofs.Readings.{continued}
use Rattle.word_core.proofs.serials.read_serials.Given as goal

-- the serials so far, and those of the elements that are left
abbrev pub invariant-loop-element : goal.invariant-loop-element
invariant-loop-element l =
    continued l.serials.items (map element_serials (drop (length l.yielded) (slice_split (λ b. eqb b 44) l.text)))
    ≡ serials_in l.text
