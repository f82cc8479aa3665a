use Rattle.std.proofs.Common.{rules, not}
use Rattle.part_core.specs.CatalogueView.{parts_of}
use Rattle.part_core.specs.RowTests.{has_template}
use Rattle.part_core.proofs.RowTests.{each-tested, has_template-is}
use Rattle.part_core.proofs.catalogue.Catalogue.have_templates.Goals as goal

pub returns : goal.returns
returns c =
    let s = parts_of c.args.self.now in
    each-tested (λ x. has_template s x.template) _ s.parts (has_template-is s) c.any.result
    (rw c.rows.ensures.value at (c.any.ensures (λ x. not (has_template s x.template)) (search rules)))
