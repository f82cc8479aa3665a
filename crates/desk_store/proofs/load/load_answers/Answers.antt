use Rattle.std.proofs.Common.{sym, subst}
use Rattle.sqlite.specs.Held.{state}
use Rattle.desk_store.specs.Opening.{WhyUnread}
use Rattle.desk_store.proofs.Breaking.{why-broken}
use Rattle.desk_store.proofs.Readings.{may_undo}
use Rattle.desk_store.proofs.Suiting.{kept-suits}
use Rattle.table_store.specs.declared.name.TableName.TheVariants.{Kept}
use Rattle.desk_store.proofs.load.load_answers.Goals as goal

pub load_kept-requires-clause-suits : goal.load_kept-requires-clause-suits
load_kept-requires-clause-suits g c = kept-suits

pub returns-in-Err : goal.returns-in-Err
returns-in-Err g c =
    let old = state g.S.Store c.args.conn.now in
    let trees = old.now.trees in
    record {
      gives = λ clean. tt;
      why =
          λ clean. subst (WhyUnread trees) (sym c.from.ensures)
          (why-broken trees Kept c.in-Err.fault c.in-Err.ensures.fault (c.in-Err.ensures.none clean)
          c.in-Err.ensures.named);
      same = λ clean. tt;
      failed =
          λ clean. may_undo old (state g.S.Store c.load_kept.new.conn) c.in-Err.fault (c.in-Err.ensures.failed clean);
      crash = c.load_kept.ensures.crash;
    }
