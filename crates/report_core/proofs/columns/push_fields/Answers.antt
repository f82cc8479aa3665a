use Rattle.std.proofs.Common.{arith}
use Rattle.std.proofs.lemmas.Grind.{common_steps}
use Rattle.std.specs.String.{string_bytes}
use Rattle.report_core.proofs.Padding.{last_bare, next_filled}
use Rattle.report_core.proofs.columns.push_fields.Goals as goal
use Rattle.report_core.proofs.columns.push_fields.Goals.{then-column-fields+in_ok-push_gap, else-column-fields}

pub loop-column-preserved : goal.loop-column-preserved
loop-column-preserved c =
    let next =
    next_filled string_bytes c.args.widths.now c.args.fields.now c.loop-column.column c.index-fields-column.result
    c.index-fields-column.is in
    let last =
    last_bare string_bytes c.args.widths.now c.args.fields.now c.loop-column.column c.index-fields-column.result
    c.index-fields-column.is c.loop-column-test.true in
    elim c.if-column-fields.branch [
      | then-column-fields+in_ok-push_gap w ↦ grind (arith, common_steps, next w.if-column-fields.true)
      | else-column-fields w ↦ grind (arith, common_steps, last w.if-column-fields.false)
    ]
