use Rattle.std.proofs.Common.{rules, not}
use Rattle.part_core.proofs.RowTests.{each-tested}
use Rattle.bom_core.specs.BomsView.{bills_of}
use Rattle.bom_core.specs.RowTests.{has_quantity}
use Rattle.bom_core.proofs.RowTests.{has_quantity-is}
use Rattle.bom_core.proofs.boms.Boms.have_quantities.Goals as goal

pub returns : goal.returns
returns c =
    each-tested has_quantity _ (bills_of c.args.self.now).lines has_quantity-is c.any.result
    (rw c.rows.ensures.value at (c.any.ensures (λ x. not (has_quantity x)) (search rules)))
