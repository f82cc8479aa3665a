use Rattle.std.proofs.Common.{subst, sym}
use Rattle.sqlite.specs.Held.{state}
use Rattle.desk_store.specs.Loading.{AreOldRows}
use Rattle.desk_store.proofs.Migrations.{row-read}
use Rattle.desk_store.proofs.migrate.load_old_row.Goals as goal

pub returns-clause-row : goal.returns-clause-row
returns-clause-row g c =
    let old = state g.S.Store c.args.conn.now in
    let read = c.in_ok-rows.ensures in
    row-read old (state g.S.Store c.load_old_rows.new.conn) c.as_slice.result.now
    (record { same = read.same; crash = read.crash })
    (λ clean. subst (AreOldRows old.now.trees) (sym c.as_slice.ensures.value) (read.gives clean))
    c.only_row.result c.only_row.ensures.alone c.only_row.ensures.one c.only_row.ensures.why
