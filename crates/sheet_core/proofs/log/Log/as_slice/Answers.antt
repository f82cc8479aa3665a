use Rattle.std.proofs.Common.{sym, ap, ◌∙◌}
use Rattle.std.specs.FinMap as table
use Rattle.sheet_core.specs.Sheet.{now_of}
use Rattle.sheet_core.proofs.Logs.{values-filled}
use Rattle.sheet_core.proofs.log.Log.as_slice.Goals as goal

pub returns-clause-rows : goal.returns-clause-rows
returns-clause-rows g c =
    c.as_slice.ensures.value
    ∙ sym (values-filled g.R.Row.key_of c.self.inside.rows.items c.self.invariant.numbered)
    ∙ ap (λ s. table.values (now_of s)) c.self.view_is
