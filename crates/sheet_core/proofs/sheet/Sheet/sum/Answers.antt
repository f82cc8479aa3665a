use Rattle.std.proofs.Common.{sym, ap, ◌∙◌}
use Rattle.std.specs.Prelude.{sum_by}
use Rattle.std.specs.FinMap as table
use Rattle.sheet_core.specs.Sheet.{now_of}
use Rattle.sheet_core.specs.Slots.{now_row, rows_by, slots_of}
use Rattle.sheet_core.proofs.SlotLemmas.{IsDistinct-rows}
use Rattle.sheet_core.proofs.Totals.{sum-of_rows}
use Rattle.sheet_core.proofs.sheet.Sheet.sum.Goals as goal

pub returns : goal.returns
returns g c f is =
    let es = slots_of g.R.Key.RowKey.digits c.self.inside.slots.entries in
    c.sum_rows.ensures f is
    ∙ sym (sum-of_rows f (rows_by now_row es) (IsDistinct-rows now_row es c.self.invariant.slots.distinct))
    ∙ ap (λ s. sum_by f (table.values (now_of s))) c.self.view_is
