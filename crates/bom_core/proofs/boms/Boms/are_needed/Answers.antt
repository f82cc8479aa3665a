use Rattle.std.proofs.Common.{rules, not, ◌≡◌, true}
use Rattle.part_core.specs.CatalogueView.{parts_of}
use Rattle.part_core.proofs.RowTests.{each-tested}
use Rattle.bom_core.specs.BomsView.{bills_of}
use Rattle.bom_core.specs.RowTests.{is_needed}
use Rattle.bom_core.proofs.RowTests.{each-needed}
use Rattle.bom_core.proofs.boms.Boms.are_needed.Goals as goal

pub returns : goal.returns
returns c =
    let parts = parts_of c.args.catalogue.now in
    let bills = bills_of c.args.self.now in
    let tested =
    each-tested (is_needed parts bills) (λ x. is_needed parts bills x ≡ true) bills.substitutes (λ x. (λ h. h, λ h. h))
    c.any.result
    (rw c.rows.ensures.value at (c.any.ensures (λ x. not (is_needed parts bills x)) (search rules))) in
    let needed = each-needed parts bills c.args.self.now.numbered in
    (λ t. needed.0 (tested.0 t), λ all. tested.1 (needed.1 all))
