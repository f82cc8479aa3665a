use Rattle.std.proofs.Common.{◌≡◌, ◌∙◌, None, Bor, ap, map}
use Rattle.sheet_core.proofs.SlotLemmas.{IfOk-map}
use Rattle.order_core.specs.declared.line.OrderLine.{OrderLine}
use Rattle.desk_core.specs.ShopView.{state_of}
use Rattle.list_core.specs.Coming.{coming_by, coming_in}
use Rattle.list_core.specs.ReceiptSheet.{awaited}
use Rattle.list_core.proofs.ComingTold.{coming_told}
use Rattle.list_core.proofs.coming.coming_amounts.Goals as goal

pub returns : goal.returns
returns c =
    let lines = map (λ (l : Bor OrderLine). l.now) c.as_slice.result.now in
    let are : lines ≡ awaited None (state_of c.args.shop.now) =
    ap (map (λ (l : Bor OrderLine). l.now)) c.as_slice.ensures.value ∙ c.in_ok-lines.ensures in
    IfOk-map c.gathered.result c.gathered.ensures (λ coming told part. ap (coming_in part) told
    ∙ coming_told part lines ∙ ap (coming_by part) are)
