use Rattle.std.proofs.Common.{◌≡◌, drop}
use Rattle.word_core.specs.Named.{named}
use Rattle.word_core.proofs.worded.named.Given as goal

abbrev pub invariant-loop-value : goal.invariant-loop-value
invariant-loop-value g l =
    named g.W.Worded.word_of (drop l.value-index l.value-items) l.word
    ≡ named g.W.Worded.word_of g.W.Worded.all_of l.word
