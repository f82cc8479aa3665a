use Rattle.std.proofs.Common.{◌≡◌, ◌++◌, drop, map}
use Rattle.std.specs.String.{string_bytes}
use Rattle.list_core.specs.PartList.{spaced}
use Rattle.list_core.proofs.SpacedWords.{spaced_on}
use Rattle.list_core.proofs.part_list.spaced.Given as goal

-- the text so far and that of what is left are all text
abbrev pub invariant-loop-word : goal.invariant-loop-word
invariant-loop-word l =
    string_bytes l.text ++ spaced_on l.later (map (λ w. w.now) (drop l.word-index l.words))
    ≡ spaced (map (λ w. w.now) l.words)
