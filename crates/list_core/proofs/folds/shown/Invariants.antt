use Rattle.std.proofs.Common.{◌≡◌, ◌++◌, drop, string_bytes}
use Rattle.std.specs.Prelude.{flat_map}
use Rattle.list_core.specs.Folds.{shown_char}
use Rattle.list_core.proofs.folds.shown.Given as goal

-- what was written, and what is to be written of the letters that are left
abbrev pub invariant-loop-letter : goal.invariant-loop-letter
invariant-loop-letter l =
    string_bytes l.text ++ flat_map shown_char (drop l.letter-index l.letter-items) ≡ flat_map shown_char l.letter-items
