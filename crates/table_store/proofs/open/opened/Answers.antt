use Rattle.std.proofs.Common.{sym, ap, subst, ◌∙◌, arith}
use Rattle.sqlite.specs.Effect.{Database}
use Rattle.sqlite_trees.specs.View.{IsClean}
use Rattle.table_store.proofs.Opening.{open_if_sound}
use Rattle.table_store.proofs.open.opened.Goals as goal

pub returns-in-Ok-clause-left : goal.returns-in-Ok-clause-left
returns-in-Ok-clause-left g c clean db leaves =
    let database = c.args.database in
    let unspoilt : IsClean (g.S.Store.view database) = omega (arith, clean, c.in-Ok.ensures.clean) in
    let sound = sym (c.if-is_broken.ensures unspoilt) in
    let opens = (c.in-Ok.ensures.opens clean).0 in
    let last = g.met.S.Store.settled c.in-Ok.conn.store db opens.is_open leaves in
    let here =
    sym (ap (λ (d : Database). d.trees) opens.clean)
    ∙ c.in-Ok.ensures.trees clean
    ∙ (c.requires unspoilt sound).clean in
    let is_open =
    open_if_sound (g.S.Store.view database).is_open (g.S.Store.view database).is_broken
    (g.met.S.Store.broken_if_shut database) sound in
    subst (g.S.Store.recovers database) (sym (last ∙ here)) (g.met.S.Store.stays database is_open)
