use Rattle.std.proofs.Common.{◌≡◌, ◌≢◌, true≢false, arith, sym, subst}
use Rattle.sqlite.specs.Held.{state}
use Rattle.sqlite.specs.State.{HasCleanDisk}
use Rattle.sqlite_catalog.specs.Listing.{IsSound}
use Rattle.desk_store.specs.Loading.{AreBooksOf}
use Rattle.desk_store.specs.Opening.{IsOfOtherVersion, WhyBut, WhyNot}
use Rattle.desk_store.proofs.Olds.{tables-now, why-now}
use Rattle.desk_store.proofs.Readings.{reads-as}
use Rattle.table_store.specs.Schema.{desk_schema, old_schema}
use Rattle.desk_store.proofs.open.find.Goals as goal

pub returns-clause-read : goal.returns-clause-read
returns-clause-read g c =
    let old = state g.S.Store c.args.conn.now in
    let new = state g.S.Store c.load.new.conn in
    reads-as AreBooksOf (WhyBut IsOfOtherVersion) WhyNot old new c.load.result
    (λ clean.
    let clean0 : HasCleanDisk old = omega (arith, clean, c.load.ensures.read.crash.clean) in
    let other : old.now.schema ≢ old_schema =
    λ is. true≢false (sym (c.if-has_old_tables.ensures.1 is)) in
    let own = (tables-now old (c.requires.tables clean0) other).schema in
    why-now old.now.trees (subst (λ s. IsSound s old.now.trees) own (c.requires.listed clean0)))
    c.load.ensures.read
