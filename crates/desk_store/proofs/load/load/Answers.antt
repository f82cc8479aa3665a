use Rattle.std.proofs.Common.{None}
use Rattle.sqlite.specs.Held.{state}
use Rattle.desk_store.proofs.Loads.{books-of, unsound-tables}
use Rattle.desk_store.proofs.Readings.{has-read, reads-ok, reads-why}
use Rattle.desk_store.specs.Loading.{AreBooksOf, AreTables}
use Rattle.desk_store.specs.Opening.{IsOfOtherVersion, WhyBut}
use Rattle.desk_store.specs.declared.fault.OpenFault.TheVariants.{Damaged}
use Rattle.desk_store.proofs.load.load.Goals as goal

pub returns-in-Ok-clause-read : goal.returns-in-Ok-clause-read
returns-in-Ok-clause-read g c =
    let old = state g.S.Store c.args.conn.now in
    let new = state g.S.Store c.load_tables.new.conn in
    let tables = c.in_ok-tables.tables in
    reads-ok AreBooksOf (WhyBut IsOfOtherVersion) old new c.in-Ok.shop
    (has-read AreTables (WhyBut IsOfOtherVersion) old new tables c.in_ok-tables.ensures) (λ clean.
    books-of old.now.trees tables c.in-Ok.shop (c.in_ok-tables.ensures.gives clean) c.in-Ok.ensures.state
    c.in-Ok.ensures.sound)

pub returns-in-Err-Unsound-clause-read : goal.returns-in-Err-Unsound-clause-read
returns-in-Err-Unsound-clause-read g c =
    let old = state g.S.Store c.args.conn.now in
    let new = state g.S.Store c.load_tables.new.conn in
    let tables = c.in_ok-tables.tables in
    reads-why AreBooksOf (WhyBut IsOfOtherVersion) old new (Damaged None)
    (has-read AreTables (WhyBut IsOfOtherVersion) old new tables c.in_ok-tables.ensures) (λ clean.
    let are = c.in_ok-tables.ensures.gives clean in (
      unsound-tables old.now.trees tables are (c.in-Err-Unsound.ensures.unsound c.in-Err-Unsound.field-0-is),
      tt,
      are.meta.this,
    ))
