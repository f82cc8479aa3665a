use Rattle.std.proofs.Common.{◌≡◌, true, false, refl, sym, ◌∙◌, arith, subst}
use Rattle.std.specs.Borrow.{Bor}
use Rattle.yard_core.specs.SoundLocations.{IsSoundLocation}
use Rattle.yard_core.specs.YardView.{stock_of}
use Rattle.part_core.specs.declared.named_row.NamedRow.{NamedRow as Location}
use Rattle.yard_core.proofs.ByIndex.{all-at, all-seen}
use Rattle.yard_core.proofs.yard.Yard.is_each_location_sound.Goals as goal

pub returns-then-not-is_location_sound : goal.returns-then-not-is_location_sound
returns-then-not-is_location_sound c =
    let P = IsSoundLocation c.args.next (stock_of c.args.self.now) in (
      λ no. (let e : false ≡ true = no in cc),
      λ all.
          let here = all-at P c.args.rows.now all c.loop-location.location-index c.location-item.result (omega arith) in
          let good : P c.location-item.result.now =
          subst (λ (r : Bor Location). P r.now) (sym c.location-item.is) here in
          let no : false ≡ true = sym c.if-not-is_location_sound.true ∙ c.is_location_sound.ensures.1 good in
          cc,
    )

pub returns : goal.returns
returns c =
    let P = IsSoundLocation c.args.next (stock_of c.args.self.now) in
    (λ _. all-seen P c.args.rows.now (λ k r lt. c.loop-location.invariant k r (omega arith)), λ _. refl)
