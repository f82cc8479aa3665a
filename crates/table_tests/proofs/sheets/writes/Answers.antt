use Rattle.std.proofs.Common.{◌≡◌, ℕ, List, [], ◌∷◌, Option, Some, None, IsSome, sym, ap, subst}
use Rattle.std.specs.Prelude.{All}
use Rattle.std.specs.FinMap.{empty, get, get-empty}
use Rattle.sqlite.specs.Held.{state}
use Rattle.part_core.specs.declared.named_row.NamedRow.{NamedRow as Category}
use Rattle.part_core.specs.NamedRows.{named_columns, named_from}
use Rattle.sheet_core.specs.Columns.{IsSmall}
use Rattle.sheet_core.specs.Filled.{StandUnderKeys}
use Rattle.sheet_core.specs.Rows.{EachRow}
use Rattle.sheet_core.specs.Sheet.{Table, key_cmp}
use Rattle.sheet_core.proofs.FilledTables.{filled-own}
use Rattle.sheet_core.proofs.RowLemmas.{each-empty}
use Rattle.table_store.specs.Written.{tree_of, IsTableOf}
use Rattle.table_store.specs.declared.name.TableName.TheVariants.{Categories}
use Rattle.table_store.proofs.Tables.{table-empty}
use Rattle.table_store.proofs.Loading.{one_of_all}
use Rattle.table_tests.proofs.sheets.writes.Goals as goal

abbrev key : Category → List ℕ
key row = row.number ∷ []

abbrev IsLow : Category → Type 0
IsLow row = All IsSmall (named_columns row)

pub written-requires-clause-own : goal.written-requires-clause-own
written-requires-clause-own g c =
    (c.in_ok-sheet.ensures.own, subst (StandUnderKeys key) (sym c.in_ok-sheet.ensures.before) (filled-own key []))

pub written-requires-clause-small : goal.written-requires-clause-small
written-requires-clause-small g c =
    (c.in_ok-sheet.ensures.small, subst (EachRow IsLow) (sym c.in_ok-sheet.ensures.before) (each-empty IsLow))

nothing-there : (before : Table Category) (k : List ℕ) → before ≡ empty → IsSome (get before k) → ⊥
nothing-there before k e some =
    let none = subst IsSome (ap (λ (t : Table Category). get t k) e) some in
    absurd (missing (get empty k) (get-empty key_cmp k) none)
  where
    missing : (o : Option Category) → o ≡ None → IsSome o → ⊥
    missing None e some = cc
    missing (Some x) e some = cc

pub written-requires-clause-stays : goal.written-requires-clause-stays
written-requires-clause-stays g c k some =
    absurd (nothing-there c.in_ok-sheet.sheet.before k c.in_ok-sheet.ensures.before some)

pub written-requires-clause-before : goal.written-requires-clause-before
written-requires-clause-before g c clean =
    let tree = tree_of Categories (state g.S.Store c.fresh.new.conn) in
    subst (IsTableOf named_from named_columns Categories tree) (sym c.in_ok-sheet.ensures.before)
    (table-empty named_from named_columns Categories tree ((c.in_ok-fresh.ensures.fresh clean).empty Categories))

pub load_sheet-requires : goal.load_sheet-requires
load_sheet-requires g c clean =
    one_of_all Categories (state g.S.Store c.written-2.new.conn) (c.in_ok-written-2.ensures.ready clean).0.0
