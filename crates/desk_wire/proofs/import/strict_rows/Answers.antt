use Rattle.std.proofs.Common.{◌∙◌, sym, subst}
use Rattle.std.specs.Prelude.{option_map}
use Rattle.csv.specs.Reading.{default_config, records, strip_bom}
use Rattle.desk_wire.specs.Imports.{Tells, rows_in, wrong_under}
use Rattle.desk_wire.proofs.Layouts.{strict-untold}
use Rattle.desk_wire.proofs.import.strict_rows.Goals as goal

pub returns-in-Err-Wrong : goal.returns-in-Err-Wrong
returns-in-Err-Wrong g c =
    let names = option_map (λ n. g.N.Names.naming_of n.now) c.args.names in
    let all = records default_config (strip_bom c.args.bytes.now) in
    let (bad, rest, e, h, is) = rw c.in-Err-Wrong.field-0-is at c.in-Err-Wrong.ensures in
    let t =
    strict-untold names c.args.kind c.args.document.now c.args.day all bad rest
    (sym c.records_of-reader.ensures.left ∙ e) h in
    subst
    (Tells (rows_in names c.args.kind c.args.document.now c.args.day all)
    (wrong_under names c.args.kind c.args.document.now c.args.day all)) (sym c.no_header-in-Err-Wrong.ensures)
    (t.0, sym t.1)
