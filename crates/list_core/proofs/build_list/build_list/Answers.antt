use Rattle.std.proofs.Common.{◌≡◌, ◌∙◌, ◌∷◌, ◌||◌, ap, not, Bor, List, filter, flat_map, map}
use Rattle.std.specs.FinMap as table
use Rattle.sheet_core.specs.Sheet.{Rows, now_of}
use Rattle.build_core.specs.Builds.{is_open}
use Rattle.build_core.specs.declared.build.Build.{Build}
use Rattle.build_core.specs.declared.builds.Builds.{Builds}
use Rattle.desk_core.specs.ShopView.{state_of}
use Rattle.list_core.specs.BuildList.{build_header, build_rows}
use Rattle.list_core.proofs.build_list.build_list.Goals as goal

pub returns : goal.returns
returns c =
    let s = state_of c.args.shop.now in
    let kept = λ (b : Build). not c.args.only_open || is_open b.state in
    let lent : table.values (now_of c.rows.result.now) ≡ table.values s.builds =
    ap (λ (t : Rows Build). table.values (now_of t)) c.rows.ensures.value
    ∙ ap (λ (b : Builds). table.values (now_of b.rows)) c.builds.ensures in
    let builds : map (λ (b : Bor Build). b.now) c.as_slice-2.result.now ≡ filter kept (table.values s.builds) =
    ap (map (λ (b : Bor Build). b.now)) c.as_slice-2.ensures.value ∙ c.in_ok-builds.ensures ∙ ap (filter kept) lent in
    c.new.ensures ∙ c.in_ok-rows.ensures ∙ ap (λ (bs : List Build). build_header ∷ flat_map (build_rows s) bs) builds
