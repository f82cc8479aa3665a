use Rattle.std.proofs.Common.{◌≡◌, ◌<◌, ◌∙◌, true, false, length, sym, ap, arith, rules}
use Rattle.std.specs.Str.{bytes_eq}
use Rattle.std.proofs.lemmas.Grind.{common_steps}
use Rattle.csv.specs.Records.{fields_of}
use Rattle.desk_wire.specs.Imports.{field, first_place}
use Rattle.desk_wire.proofs.ColumnFacts.{place-here, place-on}
use Rattle.desk_wire.proofs.columns.first_column.Goals as goal

pub returns-then-eq : goal.returns-then-eq
returns-then-eq c =
    let i = c.loop-index.index in
    let name = c.args.name.now in
    let fields = fields_of c.args.header.now in
    let inside : i < length fields = search rules in
    let same : bytes_eq name (field i fields) ≡ true = grind (arith, common_steps) in
    sym (ap first_place (c.loop-index.invariant ∙ place-here name fields i inside same))

pub loop-index-preserved : goal.loop-index-preserved
loop-index-preserved c =
    let i = c.loop-index.index in
    let name = c.args.name.now in
    let fields = fields_of c.args.header.now in
    let inside : i < length fields = search rules in
    let differ : bytes_eq name (field i fields) ≡ false = grind (arith, common_steps) in
    c.loop-index.invariant ∙ place-on name fields i inside differ
