use Rattle.std.proofs.Common.{rules, not}
use Rattle.part_core.specs.CatalogueView.{parts_of}
use Rattle.part_core.specs.NamedRows.{has_parent}
use Rattle.part_core.proofs.RowTests.{each-tested, has_parent-is}
use Rattle.part_core.proofs.catalogue.Catalogue.have_parents.Goals as goal

pub returns : goal.returns
returns c =
    let rows = (parts_of c.args.self.now).categories in
    each-tested (has_parent rows) _ rows (has_parent-is rows) c.any.result
    (rw c.rows.ensures.value at (c.any.ensures (λ x. not (has_parent rows x)) (search rules)))
