use Rattle.std.proofs.lemmas.List.{take_rest}
use Rattle.sheet_core.proofs.Logs.{filled-behind, fresh-behind, values-behind}
use Rattle.sheet_core.proofs.log.Log.pending.Goals as goal

pub returns-clause-behind : goal.returns-clause-behind
returns-clause-behind g c =
    let rows = c.self.inside.rows.items in
    let n = c.self.inside.length_before in
    rw (c.as_slice.ensures.value, take_rest rows n, ← c.self.view_is)
    (values-behind g.R.Row.key_of rows n c.self.invariant.numbered)

pub returns-clause-put : goal.returns-clause-put
returns-clause-put g c =
    let rows = c.self.inside.rows.items in
    let n = c.self.inside.length_before in
    rw (c.as_slice.ensures.value, take_rest rows n, ← c.self.view_is) (filled-behind g.R.Row.key_of rows n)

pub returns-clause-fresh : goal.returns-clause-fresh
returns-clause-fresh g c =
    let rows = c.self.inside.rows.items in
    let n = c.self.inside.length_before in
    rw (c.as_slice.ensures.value, take_rest rows n, ← c.self.view_is)
    (fresh-behind g.R.Row.key_of rows n c.self.invariant.numbered)
