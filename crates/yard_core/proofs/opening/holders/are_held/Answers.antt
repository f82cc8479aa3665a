use Rattle.std.proofs.Common.{◌≡◌, true, false, refl, sym, ◌∙◌, arith, subst}
use Rattle.std.specs.Borrow.{Bor}
use Rattle.sheet_core.specs.Sheet.{now_of}
use Rattle.forest.specs.declared.item.Item.{Item}
use Rattle.yard_core.specs.Stock.{IsHeld}
use Rattle.yard_core.proofs.ByIndex.{all-at, all-held, all-seen, held-all}
use Rattle.yard_core.proofs.opening.holders.are_held.Goals as goal

pub returns-then-not-is_held : goal.returns-then-not-is_held
returns-then-not-is_held c =
    let t = now_of c.args.items.now in (
      λ no. (let e : false ≡ true = no in cc),
      λ are.
          let here =
          all-at (IsHeld t) c.args.rows.now (held-all t _ are) c.loop-item.item-index c.item-item.result
          (omega arith) in
          let good : IsHeld t c.item-item.result.now =
          subst (λ (r : Bor Item). IsHeld t r.now) (sym c.item-item.is) here in
          let no : false ≡ true = sym c.if-not-is_held.true ∙ c.is_held.ensures.1 good in
          cc,
    )

pub returns : goal.returns
returns c =
    let t = now_of c.args.items.now in (
      λ _. all-held t _ (all-seen (IsHeld t) c.args.rows.now (λ k r lt. c.loop-item.invariant k r (omega arith))),
      λ _. refl,
    )
