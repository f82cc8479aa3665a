use Rattle.std.proofs.Common.{◌≡◌, ◌<◌, ◌+◌, ◌++◌, ◌∙◌, true, false, length, drop, sym, ap, arith, rules}
use Rattle.std.specs.Prelude.{is_some}
use Rattle.std.specs.Str.{bytes_eq}
use Rattle.std.proofs.lemmas.Grind.{common_steps}
use Rattle.csv.specs.Records.{fields_of}
use Rattle.desk_wire.specs.Imports.{field, places_from}
use Rattle.desk_wire.specs.Sheets.{one_of}
use Rattle.desk_wire.specs.Layouts.{place_list}
use Rattle.desk_wire.proofs.ColumnFacts.{first-place, place-here, place-on}
use Rattle.desk_wire.proofs.SheetFacts.{not-one}
use Rattle.desk_wire.proofs.sheet_columns.column_headed.Goals as goal
use Rattle.desk_wire.proofs.sheet_columns.column_headed.Goals.{then-eq+else-is_some, else-eq}

pub returns-then-is_some : goal.returns-then-is_some
returns-then-is_some c =
    let i = c.loop-index.index in
    let name = c.args.name.now in
    let fields = fields_of c.args.header.now in
    let column = c.loop-index.column in
    let more = places_from (i + 1) name (drop (i + 1) fields) in
    let inside : i < length fields = search rules in
    let same : bytes_eq name (field i fields) ≡ true = grind (arith, common_steps) in
    let twice : is_some column ≡ true = search rules in
    sym
    (ap one_of
    (c.loop-index.invariant ∙ ap (λ rest. place_list column ++ rest) (place-here name fields i inside same))
    ∙ not-one column i more twice)

pub loop-index-preserved : goal.loop-index-preserved
loop-index-preserved c =
    let i = c.loop-index.index in
    let name = c.args.name.now in
    let fields = fields_of c.args.header.now in
    let column = c.loop-index.column in
    let more = places_from (i + 1) name (drop (i + 1) fields) in
    let inside : i < length fields = search rules in
    elim c.if-eq.branch [
      | then-eq+else-is_some w ↦
          let same : bytes_eq name (field i fields) ≡ true = grind (arith, common_steps) in
          let first : is_some column ≡ false = search rules in
          c.loop-index.invariant
          ∙ ap (λ rest. place_list column ++ rest) (place-here name fields i inside same)
          ∙ first-place column i more first
          ∙ ap (λ o. place_list o ++ more) (sym w.column-is)
      | else-eq w ↦
          let differ : bytes_eq name (field i fields) ≡ false = grind (arith, common_steps) in
          c.loop-index.invariant
          ∙ ap (λ rest. place_list column ++ rest) (place-on name fields i inside differ)
          ∙ ap (λ o. place_list o ++ more) (sym w.column-is)
    ]
