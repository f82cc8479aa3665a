use Rattle.std.proofs.Common.{◌≡◌, ◌∙◌, ℕ, [], true, Ok, Some, sym, ap, subst, arith, rules}
use Rattle.std.specs.Prelude.{option_map}
use Rattle.std.proofs.lemmas.Grind.{common_steps}
use Rattle.csv.specs.Reading.{strip_bom}
use Rattle.desk_wire.specs.Imports.{Columns, Tells, has_other_separator, rows_by, wrong_by}
use Rattle.desk_wire.specs.Layouts.{columns_in}
use Rattle.desk_wire.specs.Records.{left}
use Rattle.desk_wire.proofs.ClosedRecords.{header-open, other-separator}
use Rattle.desk_wire.proofs.import.rows_by.Goals as goal

pub returns-then-eq : goal.returns-then-eq
returns-then-eq g c =
    let names = option_map (λ n. g.N.Names.naming_of n.now) c.args.names in
    let text = strip_bom c.args.bytes.now in
    let layout : ℕ × Columns = (c.args.separator, columns_in c.args.columns) in
    let one : c.open_record-unclosed.result ≡ Some 1 = grind (arith, common_steps) in
    let t =
    header-open names c.args.kind c.args.document.now c.args.day text layout c.requires.header.0
    (left c.args.reader.now) (sym c.open_record-unclosed.ensures ∙ one) c.requires.header.1 in
    subst (Tells (rows_by names c.args.kind c.args.document.now c.args.day text (Some layout))
    (wrong_by names c.args.kind c.args.document.now c.args.day text (Some layout))) (sym c.bad_record.ensures)
    (t.0, sym t.1)

pub returns-then-branch : goal.returns-then-branch
returns-then-branch g c =
    let names = option_map (λ n. g.N.Names.naming_of n.now) c.args.names in
    let text = strip_bom c.args.bytes.now in
    let layout : ℕ × Columns = (c.args.separator, columns_in c.args.columns) in
    let empty : c.in_ok-rows.rows.items ≡ [] = grind (arith, common_steps) in
    let other : has_other_separator text c.args.separator c.args.columns.width ≡ true = search rules in
    let t =
    other-separator names c.args.kind c.args.document.now c.args.day text layout c.requires.header.0
    (left c.args.reader.now) c.open_record-unclosed.result c.open_record-unclosed.ensures c.requires.header.1
    (c.in_ok-rows.ensures ∙ ap Ok empty) other in
    subst (Tells (rows_by names c.args.kind c.args.document.now c.args.day text (Some layout))
    (wrong_by names c.args.kind c.args.document.now c.args.day text (Some layout)))
    (sym c.bad_record-then-branch.ensures) (t.0, sym t.1)
