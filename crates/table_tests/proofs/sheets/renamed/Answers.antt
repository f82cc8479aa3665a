use Rattle.std.proofs.Common.{◌≡◌, ℕ, List, [], ◌∷◌, sym, ap, subst, ◌∙◌}
use Rattle.std.specs.Prelude.{All}
use Rattle.std.specs.FinMap.{insert}
use Rattle.part_core.specs.declared.named_row.NamedRow.{NamedRow as Category}
use Rattle.part_core.specs.NamedRows.{named_columns}
use Rattle.sheet_core.specs.Columns.{IsSmall}
use Rattle.sheet_core.specs.Filled.{StandUnderKeys}
use Rattle.sheet_core.specs.Rows.{EachRow, StayThere}
use Rattle.sheet_core.specs.Sheet.{Table, now_of}
use Rattle.sheet_core.proofs.RowLemmas.{each-insert, stay-insert}
use Rattle.table_store.proofs.Holding.{own-put}
use Rattle.table_tests.proofs.sheets.renamed.Goals as goal

key : Category → List ℕ
key row = row.number ∷ []

IsLow : Category → Type 0
IsLow row = All IsSmall (named_columns row)

-- the rows are those before, with one more row in its place
is-put : (now mid old : Table Category) (row : Category) → now ≡ insert mid (row.number ∷ []) row → mid ≡ old
    → now ≡ insert old (row.number ∷ []) row
is-put now mid old row put same = put ∙ ap (λ (t : Table Category). insert t (row.number ∷ []) row) same

pub returns-clause-own : goal.returns-clause-own
unfolding key
returns-clause-own c =
    let old = now_of c.args.sheet.now in
    subst (StandUnderKeys key)
    (sym (is-put (now_of c.put.new.self) (now_of c.keep.new.self) old c.in_ok-row.row c.in_ok-put.ensures.ok
    c.keep.ensures.rows))
    (own-put named_columns key old c.in_ok-row.row c.requires.own)

pub returns-clause-small : goal.returns-clause-small
unfolding IsLow
returns-clause-small c =
    let old = now_of c.args.sheet.now in
    subst (EachRow IsLow)
    (sym (is-put (now_of c.put.new.self) (now_of c.keep.new.self) old c.in_ok-row.row c.in_ok-put.ensures.ok
    c.keep.ensures.rows))
    (each-insert IsLow old (c.in_ok-row.row.number ∷ []) c.in_ok-row.row c.in_ok-row.ensures.small c.requires.small)

pub returns-clause-stays : goal.returns-clause-stays
returns-clause-stays c =
    let old = now_of c.args.sheet.now in
    subst (λ before. StayThere before (now_of c.put.new.self)) (sym (c.put.ensures.before ∙ c.keep.ensures.before))
    (subst (StayThere old)
    (sym (is-put (now_of c.put.new.self) (now_of c.keep.new.self) old c.in_ok-row.row c.in_ok-put.ensures.ok
    c.keep.ensures.rows))
    (stay-insert old (c.in_ok-row.row.number ∷ []) c.in_ok-row.row))
