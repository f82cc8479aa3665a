use Rattle.std.proofs.Common.{rules, not}
use Rattle.part_core.specs.CatalogueView.{parts_of}
use Rattle.part_core.specs.RowTests.{has_category}
use Rattle.part_core.proofs.RowTests.{each-tested, has_category-is}
use Rattle.part_core.proofs.catalogue.Catalogue.have_categories.Goals as goal

pub returns : goal.returns
returns c =
    let s = parts_of c.args.self.now in
    each-tested (λ x. has_category s x.category) _ s.parts (has_category-is s) c.any.result
    (rw c.rows.ensures.value at (c.any.ensures (λ x. not (has_category s x.category)) (search rules)))
