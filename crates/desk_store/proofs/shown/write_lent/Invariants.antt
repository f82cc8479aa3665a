use Rattle.std.proofs.Common.{◌≡◌, ◌++◌, map, drop}
use Rattle.std.specs.Borrow.{Bor}
use Rattle.json.specs.Tree.{items_tokens}
use Rattle.serde_json.specs.View.{items_of}
use Rattle.serde_json.specs.Written.{items_outline}
use Rattle.desk_store.specs.Shown.{row_data}
use Rattle.desk_store.proofs.shown.write_lent.Given as goal

abbrev pub invariant-loop-row : goal.invariant-loop-row
invariant-loop-row g l =
    let columns = g.R.Stored.columns_of in
    (l.out.tokens
    ++ items_tokens (items_outline (items_of
    (map row_data (map columns (map (λ (row : Bor _). row.now) (drop l.row-index l.rows))))))
    ≡ l.initial.out.tokens
    ++ items_tokens (items_outline (items_of
    (map row_data (map columns (map (λ (row : Bor _). row.now) l.rows))))))
    × (l.out.before ≡ l.initial.out.before)
