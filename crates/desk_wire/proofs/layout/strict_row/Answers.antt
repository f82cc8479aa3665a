use Rattle.std.proofs.Common.{◌≡◌, ◌==◌, false, length, sym, ap, subst, arith}
use Rattle.std.specs.Prelude.{Some, option_map}
use Rattle.std.proofs.lemmas.Bool.Decides.{nat_tests}
use Rattle.std.proofs.lemmas.List.{length-map}
use Rattle.csv.specs.Records.{fields_of}
use Rattle.desk_wire.specs.Imports.{Tells, names_of, strictly, wrong_strictly}
use Rattle.desk_wire.specs.Steps.{at}
use Rattle.desk_wire.proofs.Layouts.{strict-long}
use Rattle.desk_wire.proofs.layout.strict_row.Goals as goal

pub returns-then-len-header : goal.returns-then-len-header
returns-then-len-header g c =
    let names = option_map (λ n. g.N.Names.naming_of n.now) c.args.names in
    let fields = fields_of c.args.fields.now in
    let long = ap length c.header.ensures in
    let h : (length fields == length (names_of c.args.kind)) ≡ false = grind (arith, nat_tests, length-map) in
    let t = strict-long names c.args.kind c.args.document.now c.args.day fields h in
    subst (Tells (at c.args.number (strictly names c.args.kind c.args.document.now c.args.day fields))
    (wrong_strictly names c.args.kind (Some fields))) (sym c.bad_record.ensures) (ap (at c.args.number) t.0, sym t.1)
