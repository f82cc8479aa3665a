use Rattle.std.proofs.Common.{◌≡◌, Option, Some, None, get_or, true≢false, sym, ap, ◌∙◌, arith}
use Rattle.table_store.specs.declared.name.TableName.{TableName}
use Rattle.table_store.proofs.Shapes.{at_place}
use Rattle.table_store.proofs.shape.first_odd.Goals as goal

pub returns-then-not-is_table : goal.returns-then-not-is_table
returns-then-not-is_table c = (
  λ none. let clash : ◌≡◌ {A = Option TableName} (Some c.at-name.result) None = none in cc,
  λ same.
      absurd (true≢false (sym (c.if-not-is_table.ensures.1
      (c.index-tables-place.is
      ∙ ap (λ ts. get_or ts c.loop-place.place c.index-tables-place.result) same
      ∙ at_place c.at-name.result c.args.count c.loop-place.place c.index-tables-place.result c.at-name.ensures
      (omega (arith, c.loop-place-test.true)) c.requires.known)))),
)
