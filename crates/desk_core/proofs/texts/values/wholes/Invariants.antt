use Rattle.std.proofs.Common.{◌≡◌, ◌++◌, map, drop}
use Rattle.json.specs.Tree.{items_tokens}
use Rattle.serde_json.specs.View.{items_of}
use Rattle.serde_json.specs.Written.{items_outline}
use Rattle.desk_core.specs.DataOf.{whole}
use Rattle.desk_core.proofs.texts.values.wholes.Given as goal

abbrev pub invariant-loop-number : goal.invariant-loop-number
invariant-loop-number l =
    (l.out.tokens ++ items_tokens (items_outline (items_of (map whole (drop l.number-index l.numbers))))
    ≡ l.initial.out.tokens ++ items_tokens (items_outline (items_of (map whole l.numbers))))
    × (l.out.before ≡ l.initial.out.before)
