use Rattle.std.proofs.Common.{arith}
use Rattle.sqlite.specs.Held.{state}
use Rattle.sqlite.specs.State.{HasCleanDisk}
use Rattle.desk_core.specs.ShopView.{state_before, state_of}
use Rattle.desk_store.proofs.Kept.{answers_stay, before_there, now_there, own_words, small_answers}
use Rattle.desk_store.proofs.Midway.{both_ok, one_written}
use Rattle.desk_store.proofs.Suiting.{kept-suits}
use Rattle.table_store.specs.Written.{tree_of}
use Rattle.table_store.specs.declared.name.TableName.TheVariants.{Kept}
use Rattle.desk_store.proofs.save.write_answers.Goals as goal

pub write_kept-requires-clause-suits : goal.write_kept-requires-clause-suits
write_kept-requires-clause-suits g c = kept-suits

pub write_kept-requires-clause-ready : goal.write_kept-requires-clause-ready
write_kept-requires-clause-ready g c clean = (c.requires.under_way clean).ready

pub write_kept-requires-clause-own : goal.write_kept-requires-clause-own
write_kept-requires-clause-own g c =
    own_words c.answers.result.now c.args.shop.now.answers c.answers.ensures c.requires.follows.after.answers

pub write_kept-requires-clause-small : goal.write_kept-requires-clause-small
write_kept-requires-clause-small g c = small_answers _

pub write_kept-requires-clause-added : goal.write_kept-requires-clause-added
write_kept-requires-clause-added g c =
    answers_stay c.answers.result.now c.args.shop.now.answers c.answers.ensures c.requires.follows.stays.answers

pub write_kept-requires-clause-before : goal.write_kept-requires-clause-before
write_kept-requires-clause-before g c clean =
    before_there c.answers.result.now c.args.shop.now.answers c.answers.ensures
    (tree_of Kept (state g.S.Store c.args.conn.now)) ((c.requires.under_way clean).midway.left Kept (omega arith))

pub returns : goal.returns
returns g c =
    let old = state_before c.args.shop.now in
    let new = state_of c.args.shop.now in
    let d = state g.S.Store c.args.conn.now in
    let e = state g.S.Store c.write_kept.new.conn in
    record {
      under_way = λ clean.
          let clean0 : HasCleanDisk d = omega (arith, clean, c.write_kept.ensures.crash.clean) in
          both_ok c.write_kept.result
          (λ set written. one_written old new Kept d e (c.requires.under_way clean0) set
          (now_there c.answers.result.now c.args.shop.now.answers c.answers.ensures (tree_of Kept e) written))
          (c.write_kept.ensures.set clean) (c.write_kept.ensures.written clean);
      commit = c.write_kept.ensures.commit;
      fault = c.write_kept.ensures.fault;
      crash = c.write_kept.ensures.crash;
    }
