use Rattle.std.proofs.Common.{None, true≢false, sym}
use Rattle.sqlite.specs.Held.{state}
use Rattle.desk_store.proofs.Metas.{no_limits}
use Rattle.desk_store.proofs.Readings.{has-read, reads-why}
use Rattle.desk_store.specs.Loading.{IsMetaRow}
use Rattle.desk_store.specs.Opening.{IsOfOtherVersion, WhyBut}
use Rattle.desk_store.specs.declared.fault.OpenFault.TheVariants.{Damaged}
use Rattle.desk_store.proofs.load.load_counter.Goals as goal

pub returns-in-None-clause-row : goal.returns-in-None-clause-row
returns-in-None-clause-row g c =
    let a = state g.S.Store c.args.conn.now in
    let b = state g.S.Store c.load_meta.new.conn in
    reads-why (λ trees found. IsMetaRow trees found.0) (WhyBut IsOfOtherVersion) a b (Damaged None)
    (has-read IsMetaRow (WhyBut IsOfOtherVersion) a b c.in_ok-row.row c.in_ok-row.ensures) (λ clean.
    let row = c.in_ok-row.ensures.gives clean in (
      no_limits a.now.trees c.in_ok-row.row row (λ fits. true≢false (sym (c.in-None.ensures.fits.1 fits))),
      tt,
      row.this,
    ))
