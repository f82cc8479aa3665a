use Rattle.std.proofs.Common.{◌≡◌, [], drop}
use Rattle.std.specs.Prelude.{option_map}
use Rattle.serde_json.specs.View.{items_view}
use Rattle.desk_wire.specs.Fields.{with_rows}
use Rattle.desk_wire.proofs.fields.with_rows.Given as goal

abbrev pub invariant-loop-value : goal.invariant-loop-value
invariant-loop-value g l =
    let names = option_map (λ n. g.N.Names.naming_of n.now) l.names in
    with_rows names l.table l.name [] (items_view l.values)
    ≡ with_rows names l.table l.name l.numbers.items (items_view (drop l.value-index l.values))
