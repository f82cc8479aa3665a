use Rattle.std.proofs.Common.{ℕ, List, [], ◌∷◌, sym, subst}
use Rattle.std.specs.Prelude.{All}
use Rattle.part_core.specs.declared.named_row.NamedRow.{NamedRow as Category}
use Rattle.part_core.specs.NamedRows.{named_columns}
use Rattle.sheet_core.specs.Columns.{IsSmall}
use Rattle.sheet_core.specs.Filled.{StandUnderKeys}
use Rattle.sheet_core.specs.Rows.{EachRow}
use Rattle.sheet_core.specs.Sheet.{now_of}
use Rattle.sheet_core.proofs.FilledTables.{filled-own}
use Rattle.sheet_core.proofs.RowLemmas.{each-insert, each-empty}
use Rattle.table_store.proofs.Holding.{own-put}
use Rattle.table_tests.proofs.sheets.categories.Goals as goal

key : Category → List ℕ
key row = row.number ∷ []

pub returns-clause-own : goal.returns-clause-own
unfolding key
returns-clause-own c =
    subst (StandUnderKeys key) (sym c.in_ok-put-2.ensures.ok)
    (own-put named_columns key (now_of c.put.new.self) c.in_ok-first.first
    (subst (StandUnderKeys key) (sym c.in_ok-put.ensures.ok)
    (own-put named_columns key (now_of c.new-sheet.result) c.in_ok-later.later
    (subst (StandUnderKeys key) (sym c.new-sheet.ensures.rows) (filled-own key [])))))

IsLow : Category → Type 0
IsLow row = All IsSmall (named_columns row)

pub returns-clause-small : goal.returns-clause-small
unfolding IsLow
returns-clause-small c =
    subst (EachRow IsLow) (sym c.in_ok-put-2.ensures.ok)
    (each-insert IsLow (now_of c.put.new.self) (c.in_ok-first.first.number ∷ []) c.in_ok-first.first
    c.in_ok-first.ensures.small
    (subst (EachRow IsLow) (sym c.in_ok-put.ensures.ok)
    (each-insert IsLow (now_of c.new-sheet.result) (c.in_ok-later.later.number ∷ []) c.in_ok-later.later
    c.in_ok-later.ensures.small (subst (EachRow IsLow) (sym c.new-sheet.ensures.rows) (each-empty IsLow)))))
