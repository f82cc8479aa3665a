use Rattle.std.proofs.Common.{◌≡◌, map, ap, ◌∙◌, arith}
use Rattle.std.specs.Borrow.{Bor}
use Rattle.std.specs.FinMap as table
use Rattle.sheet_core.specs.Sheet.{now_of}
use Rattle.yard_core.specs.YardView.{stock_of}
use Rattle.part_core.specs.declared.named_row.NamedRow.{NamedRow as Location}
use Rattle.yard_core.proofs.Opened.{locations_from}
use Rattle.yard_core.proofs.yard.Yard.are_locations_sound.Goals as goal

pub returns : goal.returns
returns c =
    let s = stock_of c.args.self.now in
    let rows : map (λ (x : Bor Location). x.now) c.as_slice.result.now ≡ table.values s.locations =
    ap (map (λ (x : Bor Location). x.now)) c.as_slice.ensures.value
    ∙ c.in_ok-rows.ensures
    ∙ ap (λ t. table.values (now_of t)) c.rows.ensures.value in
    locations_from c.args.next s (omega arith) c.rows.ensures.own _ _ rows c.is_each_location_sound.ensures
