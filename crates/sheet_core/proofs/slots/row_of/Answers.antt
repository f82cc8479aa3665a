use Rattle.std.proofs.Common.{sym, ap, ◌∙◌}
use Rattle.sheet_core.specs.Slots.{now_row}
use Rattle.sheet_core.proofs.SlotLemmas.{seen}
use Rattle.sheet_core.proofs.Lookups.{row-lookup}
use Rattle.sheet_core.proofs.slots.row_of.Goals as goal

pub returns-in_err-held : goal.returns-in_err-held
returns-in_err-held g c =
    rw c.from_residual.ensures
    (sym (row-lookup g.R.Key.RowKey.digits _ g.met.R.Key.RowKey.exact now_row c.args.slots.now.entries c.args.key.now
    c.requires ∙ ap (seen now_row) (sym c.in_err-held.ensures.value)))

pub returns : goal.returns
returns g c =
    c.row.ensures
    ∙ sym (row-lookup g.R.Key.RowKey.digits _ g.met.R.Key.RowKey.exact now_row c.args.slots.now.entries c.args.key.now
    c.requires ∙ ap (seen now_row) (sym c.in_ok-held.ensures.value))
