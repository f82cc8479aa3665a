use Rattle.std.proofs.Common.{◌≡◌, ◌++◌, map, drop}
use Rattle.json.specs.Tree.{items_tokens}
use Rattle.serde_json.specs.View.{items_of}
use Rattle.serde_json.specs.Written.{items_outline}
use Rattle.serde_json.specs.Data.{string}
use Rattle.desk_core.proofs.texts.values.words.Given as goal

abbrev pub invariant-loop-word : goal.invariant-loop-word
invariant-loop-word l =
    (l.out.tokens ++ items_tokens (items_outline (items_of (map string (map (λ w. w.now) (drop l.word-index l.words)))))
    ≡ l.initial.out.tokens
    ++ items_tokens (items_outline (items_of (map string (map (λ w. w.now) l.words)))))
    × (l.out.before ≡ l.initial.out.before)
