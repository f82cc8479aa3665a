use Rattle.std.proofs.Common.{◌≡◌, ◌↔◌, ◌∙◌, true, ap, map, subst, IsTrue, IfOk, Ok, Err}
use Rattle.std.specs.Borrow.{Bor}
use Rattle.std.specs.FinMap as table
use Rattle.std.specs.List.{All}
use Rattle.part_core.specs.CatalogueView.{parts_of}
use Rattle.sheet_core.specs.Rows.{EachRow}
use Rattle.sheet_core.specs.Sheet.{now_of}
use Rattle.bom_core.specs.BomsView.{bills_of}
use Rattle.forest.specs.declared.item.Item.{Item}
use Rattle.yard_core.specs.YardView.{stock_of}
use Rattle.yard_core.proofs.ByIndex.{all-each}
use Rattle.build_core.specs.BuildsView.{builds_now}
use Rattle.build_core.specs.RowTests.{is_right_placed}
use Rattle.build_core.proofs.builds.Builds.are_sound_outputs.Goals as goal

pub returns : goal.returns
returns c =
    let t = (stock_of c.args.yard.now).items in
    let parts = parts_of c.args.catalogue.now in
    let bills = bills_of c.args.boms.now in
    let builds = builds_now c.args.self.now in
    let P = λ (x : Item). is_right_placed parts bills builds x ≡ true in
    let seen = map (λ (x : Bor Item). x.now) in
    let rows : seen c.as_slice.result.now ≡ table.values t =
    ap seen c.as_slice.ensures.value ∙ c.in_ok-items.ensures ∙ ap (λ u. table.values (now_of u)) c.items.ensures in
    elim c.are_right_placed.result as (λ r. IfOk r (λ right. IsTrue right ↔ All P (seen c.as_slice.result.now))
    → IfOk r (λ sound. IsTrue sound ↔ EachRow P t)) [
      | Ok right ↦ λ h.
          let all : IsTrue right ↔ All P (table.values t) = subst (λ xs. IsTrue right ↔ All P xs) rows h in
          (λ yes. (all-each P t).0 (all.0 yes), λ each. all.1 ((all-each P t).1 each))
      | Err e ↦ λ h. tt
    ] c.are_right_placed.ensures
