use Rattle.std.proofs.Common.{◌≡◌, ◌++◌, drop}
use Rattle.json.specs.Tree.{members_tokens}
use Rattle.serde_json.specs.Written.{members_outline}
use Rattle.desk_core.specs.ShopView.{state_of}
use Rattle.desk_store.specs.Shown.{table_members}
use Rattle.desk_store.proofs.shown.write_books.Given as goal

-- the tables so far, and those that are left
abbrev pub invariant-loop-table : goal.invariant-loop-table
invariant-loop-table l =
    (l.out.tokens ++ members_tokens (members_outline (table_members (state_of l.shop) (drop l.table-index l.tables)))
    ≡ l.initial.out.tokens ++ members_tokens (members_outline (table_members (state_of l.shop) l.tables)))
    × (l.out.before ≡ l.initial.out.before)
