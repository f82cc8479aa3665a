use Rattle.std.proofs.Common.{sym, ap, ◌∙◌}
use Rattle.std.specs.List.{list_any}
use Rattle.std.specs.FinMap as table
use Rattle.sheet_core.specs.Sheet.{now_of}
use Rattle.sheet_core.specs.Slots.{now_row, rows_by, slots_of}
use Rattle.sheet_core.proofs.SlotLemmas.{IsDistinct-rows}
use Rattle.sheet_core.proofs.Totals.{any-of_rows}
use Rattle.sheet_core.proofs.sheet.Sheet.any.Goals as goal

pub returns : goal.returns
returns g c p is =
    let es = slots_of g.R.Key.RowKey.digits c.self.inside.slots.entries in
    c.any_row.ensures p is
    ∙ sym (any-of_rows p (rows_by now_row es) (IsDistinct-rows now_row es c.self.invariant.slots.distinct))
    ∙ ap (λ s. list_any p (table.values (now_of s))) c.self.view_is
