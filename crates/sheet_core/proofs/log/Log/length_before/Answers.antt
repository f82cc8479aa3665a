use Rattle.std.proofs.Common.{take, sym, ap, ◌∙◌}
use Rattle.std.proofs.lemmas.List.{length-take-le}
use Rattle.std.specs.FinMap as table
use Rattle.sheet_core.proofs.Logs.{AreNumbered-take, len-filled}
use Rattle.sheet_core.proofs.log.Log.length_before.Goals as goal

pub returns : goal.returns
returns g c =
    let rows = c.self.inside.rows.items in
    let n = c.self.inside.length_before in
    sym (length-take-le n rows c.self.invariant.front)
    ∙ sym (len-filled g.R.Row.key_of (take n rows) (AreNumbered-take g.R.Row.key_of 1 n rows c.self.invariant.numbered))
    ∙ ap (λ s. table.len s.before) c.self.view_is
