use Rattle.std.proofs.Common.{◌≡◌, true, false, refl, sym, ◌∙◌, arith, subst}
use Rattle.std.specs.Borrow.{Bor}
use Rattle.part_core.specs.CatalogueView.{parts_of}
use Rattle.bom_core.specs.BomsView.{bills_of}
use Rattle.forest.specs.declared.item.Item.{Item}
use Rattle.yard_core.proofs.ByIndex.{all-at, all-seen}
use Rattle.build_core.specs.BuildsView.{builds_now}
use Rattle.build_core.specs.RowTests.{is_right_placed}
use Rattle.build_core.proofs.builds.Builds.are_right_placed.Goals as goal

pub returns-then-not-right : goal.returns-then-not-right
returns-then-not-right c =
    let parts = parts_of c.args.catalogue.now in
    let bills = bills_of c.args.boms.now in
    let builds = builds_now c.args.self.now in
    let P = λ (x : Item). is_right_placed parts bills builds x ≡ true in (
      λ no. (let e : false ≡ true = no in cc),
      λ all.
          let here = all-at P c.args.items.now all c.loop-item.item-index c.item-item.result (omega arith) in
          let good : P c.item-item.result.now = subst (λ (r : Bor Item). P r.now) (sym c.item-item.is) here in
          let no : false ≡ true = sym c.if-not-right.true ∙ c.in_ok-right.ensures ∙ good in
          cc,
    )

pub returns : goal.returns
returns c =
    let parts = parts_of c.args.catalogue.now in
    let bills = bills_of c.args.boms.now in
    let builds = builds_now c.args.self.now in
    let P = λ (x : Item). is_right_placed parts bills builds x ≡ true in
    (λ _. all-seen P c.args.items.now (λ k r lt. c.loop-item.invariant k r (omega arith)), λ _. refl)
