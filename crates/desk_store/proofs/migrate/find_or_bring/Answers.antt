use Rattle.std.proofs.Common.{◌≢◌, true≢false, arith, sym, subst}
use Rattle.sqlite.specs.Held.{state}
use Rattle.sqlite.specs.State.{HasCleanDisk}
use Rattle.sqlite_catalog.specs.Listing.{IsSound}
use Rattle.desk_store.proofs.Migrations.{books-found, books-missed}
use Rattle.desk_store.proofs.Olds.{tables-now}
use Rattle.table_store.specs.Schema.{old_schema}
use Rattle.desk_store.proofs.migrate.find_or_bring.Goals as goal

pub returns-clause-found : goal.returns-clause-found
returns-clause-found g c clean =
    books-found (state g.S.Store c.args.conn.now) (state g.S.Store c.load.new.conn) clean c.load.result
    c.load.ensures.read

pub returns-clause-why : goal.returns-clause-why
returns-clause-why g c clean =
    let old = state g.S.Store c.args.conn.now in
    let clean0 : HasCleanDisk old = omega (arith, clean, c.load.ensures.read.crash.clean) in
    let other : old.now.schema ≢ old_schema =
    λ is. true≢false (sym (c.if-has_old_tables.ensures.1 is)) in
    let own = (tables-now old (c.requires.tables clean0) other).schema in
    books-missed old (state g.S.Store c.load.new.conn) clean
    (subst (λ s. IsSound s old.now.trees) own (c.requires.listed clean0)) c.load.result c.load.ensures.read
