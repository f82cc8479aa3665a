use Rattle.std.proofs.Common.{subst}
use Rattle.std.specs.Prelude.{option_map}
use Rattle.csv.specs.Records.{fields_of}
use Rattle.desk_wire.specs.Imports.{wrong_in_row}
use Rattle.desk_wire.specs.Layouts.{IsReadAs, columns_in}
use Rattle.desk_wire.proofs.Layouts.{asked-wrong}
use Rattle.desk_wire.proofs.layout.unless_changed.Goals as goal

pub returns-in-Err : goal.returns-in-Err
returns-in-Err g c reading h =
    let names = option_map (λ n. g.N.Names.naming_of n.now) c.args.names in
    asked-wrong c.args.number (columns_in c.args.columns.now) (fields_of c.args.fields.now) reading
    (wrong_in_row names c.args.kind (fields_of c.args.arranged.now)) c.in-Err.error
    (subst (IsReadAs reading (wrong_in_row names c.args.kind (fields_of c.args.arranged.now)) c.args.number)
    c.in-Err.is h)
