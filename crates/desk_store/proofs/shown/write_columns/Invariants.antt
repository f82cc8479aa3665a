use Rattle.std.proofs.Common.{◌≡◌, ◌++◌, map, drop}
use Rattle.json.specs.Tree.{items_tokens}
use Rattle.serde_json.specs.Data.{string}
use Rattle.serde_json.specs.View.{items_of}
use Rattle.serde_json.specs.Written.{items_outline}
use Rattle.desk_store.specs.Exports.{field_of}
use Rattle.desk_store.proofs.shown.write_columns.Given as goal

abbrev pub invariant-loop-column : goal.invariant-loop-column
invariant-loop-column l =
    (l.out.tokens
    ++ items_tokens (items_outline (items_of (map string (map field_of (drop l.column-index l.columns)))))
    ≡ l.initial.out.tokens ++ items_tokens (items_outline (items_of (map string (map field_of l.columns)))))
    × (l.out.before ≡ l.initial.out.before)
