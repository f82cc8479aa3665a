use Rattle.std.proofs.Common.{◌≡◌, true, false, refl, sym, ◌∙◌, arith, subst}
use Rattle.part_core.specs.CatalogueView.{parts_of}
use Rattle.stock_core.specs.Sound.{IsSoundEntry}
use Rattle.yard_core.specs.YardView.{stock_of}
use Rattle.stock_core.proofs.opening.rows.are_sound_entries.Goals as goal

pub returns-then-not-is_sound_entry : goal.returns-then-not-is_sound_entry
returns-then-not-is_sound_entry g c =
    let P =
    IsSoundEntry (g.W.KnowsOwners.owners_of c.args.owners.now) (parts_of c.args.catalogue.now)
    (stock_of c.args.yard.now) in (
      λ no. (let e : false ≡ true = no in cc),
      λ all.
          let here = all c.loop-entry.entry-index c.entry-item.result (omega arith) in
          let good : P c.entry-item.result = subst P (sym c.entry-item.is) here in
          let no : false ≡ true = sym c.if-not-is_sound_entry.true ∙ c.is_sound_entry.ensures.1 good in
          cc,
    )

pub returns : goal.returns
returns g c = (λ _ k e lt. c.loop-entry.invariant k e (omega arith), λ _. refl)
