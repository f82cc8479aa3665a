use Rattle.std.proofs.Common.{rules, not}
use Rattle.part_core.specs.CatalogueView.{parts_of}
use Rattle.part_core.proofs.RowTests.{each-tested}
use Rattle.bom_core.specs.BomsView.{bills_of}
use Rattle.bom_core.specs.Changes.{has_row}
use Rattle.bom_core.proofs.RowTests.{has_row-is}
use Rattle.bom_core.proofs.boms.Boms.have_assemblies.Goals as goal

pub returns : goal.returns
returns c =
    let rows = (parts_of c.args.catalogue.now).parts in
    each-tested (λ x. has_row rows x.assembly) _ (bills_of c.args.self.now).lines (λ x. has_row-is rows x.assembly)
    c.any.result
    (rw c.rows.ensures.value at (c.any.ensures (λ x. not (has_row rows x.assembly)) (search rules)))
