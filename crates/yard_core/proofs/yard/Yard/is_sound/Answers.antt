use Rattle.std.proofs.Common.{◌≡◌, map, sym, ap, ◌∙◌, subst}
use Rattle.std.specs.FinMap as table
use Rattle.std.specs.Borrow.{Bor}
use Rattle.sheet_core.specs.Sheet.{now_of}
use Rattle.forest.specs.declared.item.Item.{Item}
use Rattle.yard_core.specs.Climbs.{IsByNumber}
use Rattle.yard_core.specs.YardView.{stock_of}
use Rattle.yard_core.proofs.Numbering.{is_history}
use Rattle.yard_core.proofs.Opened.{own_by_number, sound_from}
use Rattle.yard_core.proofs.yard.Yard.is_sound.Goals as goal

pub are_sound_rows-requires : goal.are_sound_rows-requires
are_sound_rows-requires c =
    let s = stock_of c.args.self.now in
    let rows : map (λ (x : Bor Item). x.now) c.as_slice.result.now ≡ table.values s.items =
    ap (map (λ (x : Bor Item). x.now)) c.as_slice.ensures.value
    ∙ c.in_ok-rows.ensures
    ∙ ap (λ t. table.values (now_of t)) c.rows-items.ensures.value in
    subst IsByNumber (sym rows) (own_by_number s.items c.rows-items.ensures.own)

pub returns : goal.returns
returns c =
    let s = stock_of c.args.self.now in
    let rows : map (λ (x : Bor Item). x.now) c.as_slice.result.now ≡ table.values s.items =
    ap (map (λ (x : Bor Item). x.now)) c.as_slice.ensures.value
    ∙ c.in_ok-rows.ensures
    ∙ ap (λ t. table.values (now_of t)) c.rows-items.ensures.value in
    let history = is_history s.history _ c.as_slice-entries.ensures.table c.as_slice-entries.ensures.numbered in
    sound_from s c.rows-items.ensures.own history _ _ _ _ (ap now_of c.rows-items.ensures.value) rows
    c.as_slice-entries.ensures.rows c.in_ok-sound.ensures
