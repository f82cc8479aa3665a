use Rattle.std.proofs.Common.{◌≡◌, ◌++◌, map, drop}
use Rattle.json.specs.Tree.{items_tokens}
use Rattle.serde_json.specs.View.{items_of}
use Rattle.serde_json.specs.Written.{items_outline}
use Rattle.serde_json.specs.Data.{string}
use Rattle.desk_core.proofs.texts.values.serials.Given as goal

abbrev pub invariant-loop-serial : goal.invariant-loop-serial
invariant-loop-serial l =
    (l.out.tokens ++ items_tokens (items_outline (items_of (map string (drop l.serial-index l.list))))
    ≡ l.initial.out.tokens ++ items_tokens (items_outline (items_of (map string l.list))))
    × (l.out.before ≡ l.initial.out.before)
