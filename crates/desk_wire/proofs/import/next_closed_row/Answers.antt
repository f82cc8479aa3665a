use Rattle.std.proofs.Common.{◌≡◌, Some, arith}
use Rattle.std.specs.Prelude.{option_map}
use Rattle.std.proofs.lemmas.Grind.{common_steps}
use Rattle.desk_wire.specs.Layouts.{reads_by, wrong_in}
use Rattle.desk_wire.specs.Records.{left}
use Rattle.desk_wire.proofs.ClosedRecords.{closed-read, end-read, last-read, read-none}
use Rattle.desk_wire.proofs.import.next_closed_row.Goals as goal

pub returns-then-eq-clause-row : goal.returns-then-eq-clause-row
returns-then-eq-clause-row g c =
    let here : c.args.unclosed ≡ Some c.args.number = grind (arith, common_steps) in
    rw here (read-none c.args.number (left c.args.reader.now) (rw here at c.requires.last))

pub returns-clause-row : goal.returns-clause-row
returns-clause-row g c =
    let names = option_map (λ n. g.N.Names.naming_of n.now) c.args.names in
    let other : c.args.unclosed ≡ Some c.args.number → ⊥ = λ e. grind (arith, common_steps) in
    closed-read (reads_by names c.args.kind c.args.document.now c.args.day c.args.layout.now)
    (wrong_in names c.args.kind c.args.layout.now) c.args.number c.args.unclosed (left c.args.reader.now)
    (left c.next_row.new.reader) c.next_row.result c.next_row.ensures.row c.requires.last other

pub returns-clause-last : goal.returns-clause-last
returns-clause-last g c =
    let names = option_map (λ n. g.N.Names.naming_of n.now) c.args.names in
    let other : c.args.unclosed ≡ Some c.args.number → ⊥ = λ e. grind (arith, common_steps) in
    last-read (reads_by names c.args.kind c.args.document.now c.args.day c.args.layout.now)
    (wrong_in names c.args.kind c.args.layout.now) c.args.number c.args.unclosed (left c.args.reader.now)
    (left c.next_row.new.reader) c.next_row.result c.next_row.ensures.row c.requires.last other

pub returns-clause-end : goal.returns-clause-end
returns-clause-end g c =
    let names = option_map (λ n. g.N.Names.naming_of n.now) c.args.names in
    end-read (reads_by names c.args.kind c.args.document.now c.args.day c.args.layout.now)
    (wrong_in names c.args.kind c.args.layout.now) c.args.number c.args.unclosed (left c.args.reader.now)
    (left c.next_row.new.reader) c.next_row.result c.next_row.ensures.row c.requires.last
