use Rattle.std.proofs.Common.{◌+◌, ◌∷◌, [], ◌++◌, sym, ap, ◌∙◌, arith}
use Rattle.std.specs.FinMap as table
use Rattle.std.proofs.lemmas.List.{length-append}
use Rattle.sheet_core.specs.Filled.{filled}
use Rattle.sheet_core.specs.Sheet.{now_of}
use Rattle.sheet_core.proofs.Logs.{AreNumbered-next, filled-push, len-filled}
use Rattle.sheet_core.proofs.log.Log.put.Goals as goal

pub invariant_of-self-2 : goal.invariant_of-self-2
invariant_of-self-2 g c =
    let rows = c.self.inside.rows.items in
    let row = c.args.row in
    rw c.in_ok-push.ensures.items
    (record {
      numbered =
          AreNumbered-next g.R.Row.key_of rows row (now_of c.args.self.now) c.self.invariant.numbered
          (ap now_of c.self.view_is) c.requires;
      front = omega (arith, c.self.invariant.front, length-append rows (row ∷ []));
    })

pub returns-clause-ok : goal.returns-clause-ok
returns-clause-ok g c =
    ap (filled g.R.Row.key_of) c.in_ok-push.ensures.items
    ∙ filled-push g.R.Row.key_of c.self.inside.rows.items c.args.row
    ∙ ap (λ s. table.insert (now_of s) (g.R.Row.key_of c.args.row) c.args.row) c.self.view_is

pub returns-clause-len : goal.returns-clause-len
returns-clause-len g c =
    let rows = c.self.inside.rows.items in
    let row = c.args.row in
    let is = ap now_of c.self.view_is in
    let run = AreNumbered-next g.R.Row.key_of rows row (now_of c.args.self.now) c.self.invariant.numbered is c.requires in
    ap (λ xs. table.len (filled g.R.Row.key_of xs)) c.in_ok-push.ensures.items
    ∙ len-filled g.R.Row.key_of (rows ++ row ∷ []) run
    ∙ length-append rows (row ∷ [])
    ∙ ap (λ n. n + 1) (sym (len-filled g.R.Row.key_of rows c.self.invariant.numbered) ∙ ap (λ t. table.len t) is)
