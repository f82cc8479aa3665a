use Rattle.std.proofs.Common.{arith}
use Rattle.std.proofs.lemmas.Grind.{common_steps}
use Rattle.table_store.proofs.Columns.{kept_more, all_kept}
use Rattle.table_store.proofs.write.values_of.Goals as goal

pub loop-column-preserved : goal.loop-column-preserved
loop-column-preserved c = record {
  values = grind (arith, common_steps);
  read =
      kept_more c.args.columns.now c.loop-column.column-index c.column-item.result c.loop-column-test.true
      c.column-item.is c.value_of.ensures.read c.loop-column.invariant.read;
}

pub returns-clause-read : goal.returns-clause-read
returns-clause-read c =
    all_kept c.args.columns.now c.loop-column.column-index c.loop-column-test.false c.loop-column.invariant.read
