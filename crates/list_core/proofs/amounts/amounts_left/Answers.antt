use Rattle.std.proofs.Common.{◌∙◌, ap, arith}
use Rattle.desk_core.specs.ShopView.{state_of}
use Rattle.list_core.specs.Amounts.{allocated_of, free_of, present_of}
use Rattle.list_core.specs.declared.amounts.Amounts.{Amounts}
use Rattle.list_core.proofs.Left.{count_more, count_same, sum_more, sum_same}
use Rattle.list_core.proofs.amounts.amounts_left.Goals as goal
use Rattle.list_core.proofs.amounts.amounts_left.Goals.{then-not-is_gone+in_ok-amounts, else-not-is_gone}

pub loop-item-preserved : goal.loop-item-preserved
loop-item-preserved c =
    let s = state_of c.args.shop.now in
    let items = c.args.items.now in
    let i = c.loop-item.item-index in
    let x = c.item-item.result in
    let so = c.loop-item.invariant in
    elim c.if-not-is_gone.branch [
      | then-not-is_gone+in_ok-amounts w ↦
          let here = w.if-not-is_gone.ensures in
          let more = w.in_ok-amounts.ensures in
          record {
            present = sum_more items i x c.loop-item-test.true c.item-item.is (present_of s) here _ _ _
                (ap (λ (a : Amounts). a.present) w.amounts-is ∙ more.present) so.present;
            free = sum_more items i x c.loop-item-test.true c.item-item.is (free_of s) here _ _ _
                (ap (λ (a : Amounts). a.free) w.amounts-is ∙ more.free) so.free;
            allocated = sum_more items i x c.loop-item-test.true c.item-item.is (allocated_of s) here _ _ _
                (ap (λ (a : Amounts). a.allocated) w.amounts-is ∙ more.allocated) so.allocated;
            items = count_more items i x c.loop-item-test.true c.item-item.is here _ _ _
                (ap (λ (a : Amounts). a.items) w.amounts-is ∙ more.items) so.items;
            within = omega (arith, so.within, more.items, ap (λ (a : Amounts). a.items) w.amounts-is);
          }
      | else-not-is_gone w ↦
          let gone = w.if-not-is_gone.ensures in
          record {
            present = sum_same items i x c.loop-item-test.true c.item-item.is (present_of s) gone _ _ _
                (ap (λ (a : Amounts). a.present) w.amounts-is) so.present;
            free = sum_same items i x c.loop-item-test.true c.item-item.is (free_of s) gone _ _ _
                (ap (λ (a : Amounts). a.free) w.amounts-is) so.free;
            allocated = sum_same items i x c.loop-item-test.true c.item-item.is (allocated_of s) gone _ _ _
                (ap (λ (a : Amounts). a.allocated) w.amounts-is) so.allocated;
            items = count_same items i x c.loop-item-test.true c.item-item.is gone _ _ _
                (ap (λ (a : Amounts). a.items) w.amounts-is) so.items;
            within = omega (arith, so.within, ap (λ (a : Amounts). a.items) w.amounts-is);
          }
    ]
