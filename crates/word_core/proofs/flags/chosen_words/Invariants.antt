use Rattle.std.proofs.Common.{◌≡◌, ◌++◌, map, drop}
use Rattle.word_core.specs.Flags.{chosen_words}
use Rattle.word_core.proofs.flags.chosen_words.Given as goal

abbrev pub invariant-loop-flag : goal.invariant-loop-flag
invariant-loop-flag l =
    map (λ w. w.now) l.words.items ++ chosen_words l.flags (drop l.flag-index l.all)
    ≡ chosen_words l.flags l.all
