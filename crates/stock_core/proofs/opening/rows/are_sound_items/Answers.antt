use Rattle.std.proofs.Common.{◌≡◌, true, false, refl, sym, ◌∙◌, arith, subst}
use Rattle.std.specs.Borrow.{Bor}
use Rattle.part_core.specs.CatalogueView.{parts_of}
use Rattle.stock_core.specs.Sound.{IsSoundItem}
use Rattle.yard_core.specs.YardView.{stock_of}
use Rattle.forest.specs.declared.item.Item.{Item}
use Rattle.yard_core.proofs.ByIndex.{all-at, all-seen}
use Rattle.stock_core.proofs.opening.rows.are_sound_items.Goals as goal

pub returns-then-not-is_sound_item : goal.returns-then-not-is_sound_item
returns-then-not-is_sound_item g c =
    let P =
    IsSoundItem (g.W.KnowsOwners.owners_of c.args.owners.now) (parts_of c.args.catalogue.now)
    (stock_of c.args.yard.now) in (
      λ no. (let e : false ≡ true = no in cc),
      λ all.
          let here = all-at P c.args.items.now all c.loop-item.item-index c.item-item.result (omega arith) in
          let good : P c.item-item.result.now = subst (λ (r : Bor Item). P r.now) (sym c.item-item.is) here in
          let no : false ≡ true = sym c.if-not-is_sound_item.true ∙ c.is_sound_item.ensures.1 good in
          cc,
    )

pub returns : goal.returns
returns g c =
    let P =
    IsSoundItem (g.W.KnowsOwners.owners_of c.args.owners.now) (parts_of c.args.catalogue.now)
    (stock_of c.args.yard.now) in
    (λ _. all-seen P c.args.items.now (λ k r lt. c.loop-item.invariant k r (omega arith)), λ _. refl)
