use Rattle.std.proofs.Common.{◌≡◌, true, false, refl, sym, ◌∙◌, arith, subst}
use Rattle.std.specs.Borrow.{Bor}
use Rattle.forest.specs.declared.item.Item.{Item}
use Rattle.yard_core.specs.Stock.{IsItem}
use Rattle.yard_core.proofs.ByIndex.{all-at, all-items, all-seen, items-all}
use Rattle.yard_core.proofs.opening.quantities.are_items.Goals as goal

pub returns-then-not-is_item : goal.returns-then-not-is_item
returns-then-not-is_item c = (
  λ no. (let e : false ≡ true = no in cc),
  λ are.
      let here =
      all-at IsItem c.args.rows.now (items-all _ are) c.loop-item.item-index c.item-item.result (omega arith) in
      let good : IsItem c.item-item.result.now = subst (λ (r : Bor Item). IsItem r.now) (sym c.item-item.is) here in
      let no : false ≡ true = sym c.if-not-is_item.true ∙ c.is_item.ensures.1 good in
      cc,
)

pub returns : goal.returns
returns c =
    (λ _. all-items _ (all-seen IsItem c.args.rows.now (λ k r lt. c.loop-item.invariant k r (omega arith))), λ _. refl)
