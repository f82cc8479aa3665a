use Rattle.std.proofs.Common.{ℕ, List, [], ◌∷◌, ◌+◌, sym, ap, subst, ◌∙◌, arith}
use Rattle.std.specs.Prelude.{All}
use Rattle.std.specs.FinMap as table
use Rattle.part_core.specs.declared.named_row.NamedRow.{NamedRow as Category}
use Rattle.part_core.specs.NamedRows.{named_columns}
use Rattle.sheet_core.specs.Columns.{IsSmall}
use Rattle.sheet_core.specs.Rows.{EachRow}
use Rattle.sheet_core.specs.Sheet.{Table, key_cmp, now_of}
use Rattle.sheet_core.proofs.RowLemmas.{each-insert, each-empty}
use Rattle.table_tests.proofs.sheets.log_of_one.Goals as goal

pub put-requires : goal.put-requires
put-requires c =
    let none = ap (λ (t : Table Category). table.len t) c.new-log.ensures.rows in
    ap (λ n. n ∷ []) (omega (arith, c.in_ok-row.ensures.number, none, table.len-empty key_cmp Category))

IsLow : Category → Type 0
IsLow row = All IsSmall (named_columns row)

pub returns-clause-small : goal.returns-clause-small
unfolding IsLow
returns-clause-small c =
    subst (EachRow IsLow) (sym c.in_ok-put.ensures.ok)
    (each-insert IsLow (now_of c.new-log.result) (c.in_ok-row.row.number ∷ []) c.in_ok-row.row
    c.in_ok-row.ensures.small (subst (EachRow IsLow) (sym c.new-log.ensures.rows) (each-empty IsLow)))
