use Rattle.std.proofs.Common.{ap}
use Rattle.part_core.specs.CatalogueView.{parts_of}
use Rattle.part_core.specs.declared.part.Part.{Part}
use Rattle.sheet_core.proofs.SlotLemmas.{IfOk-map}
use Rattle.bom_core.specs.BomsView.{bills_of}
use Rattle.desk_core.specs.ShopView.{state_of}
use Rattle.report_core.proofs.Uses.{used_rows_lent}
use Rattle.report_core.proofs.where_used.parts_using.Goals as goal

pub returns : goal.returns
returns c =
    let s = state_of c.args.shop.now in
    let n = c.args.number in
    let told = λ (x : Part). c.uses_tells_walks.ensures s c.requires n x in
    IfOk-map c.where_used.result c.where_used.ensures
    (λ rows w.
    used_rows_lent s.parts _ s.bills _ n _ (ap parts_of c.catalogue.ensures) (ap bills_of c.boms.ensures) told w)
