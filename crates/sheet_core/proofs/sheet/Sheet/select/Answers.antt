use Rattle.std.proofs.Common.{map, ap, ◌∙◌}
use Rattle.std.specs.Prelude.{filter}
use Rattle.std.specs.FinMap as table
use Rattle.sheet_core.specs.Sheet.{now_of}
use Rattle.sheet_core.specs.Slots.{now_row, rows_by, slots_of}
use Rattle.sheet_core.proofs.SlotLemmas.{IfOk-map, IsDistinct-rows}
use Rattle.sheet_core.proofs.Scans.{selected-all}
use Rattle.sheet_core.proofs.sheet.Sheet.select.Goals as goal

pub returns : goal.returns
returns g c =
    IfOk-map c.rows_of.result c.rows_of.ensures (λ rows e p is.
    let digits = g.R.Key.RowKey.digits in
    let es = slots_of digits c.self.inside.slots.entries in
    e ∙ ap (map (λ f. f.row.now)) c.as_slice.ensures.value
    ∙ selected-all digits p _ _ (rows_by now_row es) (IsDistinct-rows now_row es c.self.invariant.slots.distinct)
    (c.in_ok-found.ensures p is) c.sort_found.ensures.permutation c.sort_found.ensures.sorted
    ∙ ap (λ s. filter p (table.values (now_of s))) c.self.view_is)
