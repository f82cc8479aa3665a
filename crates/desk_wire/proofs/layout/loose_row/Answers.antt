use Rattle.std.proofs.Common.{◌≡◌, ℕ, ◌==◌, ◌∙◌, true, false, [], length, sym, ap, subst, arith}
use Rattle.std.specs.Prelude.{Some, nat_le, option_map}
use Rattle.std.proofs.lemmas.Bool.Decides.{nat_tests}
use Rattle.std.proofs.lemmas.Grind.{common_steps}
use Rattle.csv.specs.Records.{fields_of}
use Rattle.desk_wire.specs.Imports.{Tells, arranged, field, loosely, quantity_at, strictly, unless_changed, wrong_in_row}
use Rattle.desk_wire.specs.Imports.{wrong_loosely}
use Rattle.desk_wire.specs.Layouts.{IsReadAs, columns_in}
use Rattle.desk_wire.specs.Records.{are_texts}
use Rattle.desk_wire.specs.Steps.{at}
use Rattle.desk_wire.proofs.ColumnFacts.{arranged-texts}
use Rattle.desk_wire.proofs.Layouts.{loose-in, loose-long, loose-out, not-empty}
use Rattle.desk_wire.proofs.layout.loose_row.Goals as goal

pub returns-then-len-width : goal.returns-then-len-width
returns-then-len-width g c =
    let names = option_map (λ n. g.N.Names.naming_of n.now) c.args.names in
    let fields = fields_of c.args.fields.now in
    let columns = columns_in c.args.columns.now in
    let long : nat_le (length fields) columns.width ≡ false = grind (arith, nat_tests) in
    let t = loose-long names c.args.kind c.args.document.now c.args.day columns fields c.requires long in
    subst (Tells (at c.args.number (loosely names c.args.kind c.args.document.now c.args.day columns fields))
    (wrong_loosely names c.args.kind columns (Some fields))) (sym c.bad_record.ensures)
    (ap (at c.args.number) t.0, sym t.1)

pub returns-then-is_empty : goal.returns-then-is_empty
returns-then-is_empty g c =
    let names = option_map (λ n. g.N.Names.naming_of n.now) c.args.names in
    let fields = fields_of c.args.fields.now in
    let columns = columns_in c.args.columns.now in
    let empty : c.field.result.now ≡ [] = grind (arith, common_steps) in
    let is : c.field.result.now ≡ field (quantity_at c.args.kind) (arranged columns fields) =
    c.field.ensures
    ∙ ap (λ (i : ℕ). field i (fields_of c.in_ok-arranged.arranged)) c.quantity_at.ensures
    ∙ ap (field (quantity_at c.args.kind)) c.in_ok-arranged.ensures in
    let fits : nat_le (length fields) columns.width ≡ true = grind (arith, nat_tests) in
    loose-out names c.args.kind c.args.document.now c.args.day columns fields c.requires fits (sym is ∙ empty)

pub told_row-read-requires : goal.told_row-read-requires
told_row-read-requires g c =
    let columns = columns_in c.args.columns.now in
    ap are_texts c.in_ok-arranged.ensures ∙ arranged-texts columns (fields_of c.args.fields.now) c.requires

pub returns : goal.returns
returns g c =
    let names = option_map (λ n. g.N.Names.naming_of n.now) c.args.names in
    let fields = fields_of c.args.fields.now in
    let columns = columns_in c.args.columns.now in
    let some : (length c.field.result.now == 0) ≡ false = grind (arith, nat_tests) in
    let is : c.field.result.now ≡ field (quantity_at c.args.kind) (arranged columns fields) =
    c.field.ensures
    ∙ ap (λ (i : ℕ). field i (fields_of c.in_ok-arranged.arranged)) c.quantity_at.ensures
    ∙ ap (field (quantity_at c.args.kind)) c.in_ok-arranged.ensures in
    let fits : nat_le (length fields) columns.width ≡ true = grind (arith, nat_tests) in
    let (b, bs, there) = not-empty c.field.result.now some in
    let t =
    loose-in names c.args.kind c.args.document.now c.args.day columns fields b bs c.requires (sym is ∙ there) fits in
    let row = arranged columns fields in
    let read =
    c.unless_changed.ensures (strictly names c.args.kind c.args.document.now c.args.day
    (fields_of c.in_ok-arranged.arranged)) c.told_row-read.ensures in
    let moved =
    subst (λ r. IsReadAs (unless_changed columns fields (strictly names c.args.kind c.args.document.now c.args.day r))
    (wrong_in_row names c.args.kind r) c.args.number c.unless_changed.result) c.in_ok-arranged.ensures read in
    subst (λ r. IsReadAs r (wrong_loosely names c.args.kind columns (Some fields)) c.args.number
    c.unless_changed.result) (sym t.0)
    (subst (λ w. IsReadAs (unless_changed columns fields (strictly names c.args.kind c.args.document.now c.args.day
    row)) w c.args.number c.unless_changed.result) (sym t.1) moved)
