use Rattle.std.proofs.Common.{◌≡◌, true, false, refl, sym, ap, map, ◌∙◌, arith, rules, List, subst}
use Rattle.std.specs.Borrow.{Bor}
use Rattle.part_core.specs.CatalogueView.{parts_of}
use Rattle.part_core.specs.declared.part.Part.{Part}
use Rattle.sheet_core.proofs.Standing.{Stands, filter_all}
use Rattle.bom_core.specs.Bills.{part_rows}
use Rattle.bom_core.specs.BomsView.{bills_of}
use Rattle.bom_core.specs.Walks.{HasWalk}
use Rattle.bom_core.proofs.Acyclic.{acyclic-from}
use Rattle.bom_core.proofs.RowTests.{each-seen, more-seen}
use Rattle.bom_core.proofs.boms.Boms.is_acyclic_by_search.Goals as goal

pub returns-then-contains_itself : goal.returns-then-contains_itself
returns-then-contains_itself c = (
  λ no. (let e : false ≡ true = no in cc),
  λ acyclic.
      absurd (acyclic c.part-item.result.now.number (c.in_ok-contains_itself.ensures.0 c.if-contains_itself.true)),
)

pub returns : goal.returns
returns c =
    let parts = parts_of c.args.catalogue.now in
    let bills = bills_of c.args.self.now in
    let items = c.deref-part-items.result.now in
    let rows : map (λ (x : Bor Part). x.now) items ≡ part_rows parts =
    ap (map (λ (x : Bor Part). x.now)) c.deref-part-items.ensures.value
    ∙ (rw c.parts.ensures.value at (c.in_ok-parts.ensures (λ _. true) (search rules) ∙ filter_all _)) in
    let none =
    each-seen (λ (x : Part). ¬ HasWalk parts bills x.number x.number) items
    (λ k r lt. c.loop-part.invariant k r (omega arith)) in (
      λ _. acyclic-from parts bills c.parts.ensures.own c.requires
          (λ x s. none x (subst (λ (xs : List Part). Stands x xs) (sym rows) s)),
      λ _. refl,
    )

pub loop-part-preserved : goal.loop-part-preserved
loop-part-preserved c =
    let parts = parts_of c.args.catalogue.now in
    let bills = bills_of c.args.self.now in
    more-seen (λ (x : Part). ¬ HasWalk parts bills x.number x.number) c.deref-part-items.result.now
    c.loop-part.part-index c.part-item.result (omega arith) c.part-item.is c.loop-part.invariant
    (λ w. let no : false ≡ true = sym c.if-contains_itself.false ∙ c.in_ok-contains_itself.ensures.1 w in cc)
