use Rattle.std.proofs.Common.{◌≡◌, ◌++◌, drop, string_bytes}
use Rattle.std.specs.Prelude.{flat_map}
use Rattle.std.specs.Char.{encode_utf8}
use Rattle.ucd_case.specs.CaseFolding.{simple_fold}
use Rattle.list_core.proofs.folds.case_fold.Given as goal

-- what was written, and what is to be written of the letters that are left
abbrev pub invariant-loop-letter : goal.invariant-loop-letter
invariant-loop-letter l =
    string_bytes l.folded ++ flat_map (λ c. encode_utf8 (simple_fold c)) (drop l.letter-index l.letter-items)
    ≡ flat_map (λ c. encode_utf8 (simple_fold c)) l.letter-items
