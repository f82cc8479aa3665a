-- What a connection keeps true of its database is known where it is an argument, and `search` finds it there.
use Rattle.std.proofs.Common.{rules, inl, inr, ◌≡◌}
use Rattle.sqlite.specs.Held.{state}
use Rattle.table_store.specs.Schema.{desk_schema, old_schema}
use Rattle.table_store.proofs.Opening.{Connects, in_order, desk_shaped, old_shaped}
use Rattle.table_store.proofs.open.compared.Goals as goal

pub returns-in-None-clause-tables : goal.returns-in-None-clause-tables
returns-in-None-clause-tables g c clean =
    let conn = c.args.conn in
    let desk : conn.schema ≡ desk_schema = search rules in
    let connected : Connects g.S.Store conn = search rules in
    inl (desk_shaped (state g.S.Store conn) desk
    (in_order g.S.Store conn g.met.S.Store.ordered g.met.S.Alter.listed connected (c.requires.rest clean).is_open))

pub returns-in-Some-clause-tables : goal.returns-in-Some-clause-tables
returns-in-Some-clause-tables g c clean =
    let conn = c.args.conn in
    let old : conn.schema ≡ old_schema = search rules in
    let connected : Connects g.S.Store conn = search rules in
    inr (old_shaped (state g.S.Store conn) old
    (in_order g.S.Store conn g.met.S.Store.ordered g.met.S.Alter.listed connected (c.requires.rest clean).is_open))
