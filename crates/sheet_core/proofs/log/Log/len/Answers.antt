use Rattle.std.proofs.Common.{sym, ap, ◌∙◌}
use Rattle.std.specs.FinMap as table
use Rattle.sheet_core.specs.Sheet.{now_of}
use Rattle.sheet_core.proofs.Logs.{len-filled}
use Rattle.sheet_core.proofs.log.Log.len.Goals as goal

pub returns : goal.returns
returns g c = record {
  count =
      c.len.ensures
      ∙ c.self.inside.rows.ok.0
      ∙ sym (len-filled g.R.Row.key_of c.self.inside.rows.items c.self.invariant.numbered)
      ∙ ap (λ s. table.len (now_of s)) c.self.view_is;
}
