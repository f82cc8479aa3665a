use Rattle.std.proofs.Common.{Err, ap, map, rules, ◌∙◌}
use Rattle.std.specs.Borrow.{Bor}
use Rattle.sheet_core.specs.Sheet.{now_of}
use Rattle.desk_store.specs.Exports.{Sends, rows_of}
use Rattle.desk_store.specs.RowForms.{lines_in, text_in}
use Rattle.desk_store.specs.declared.export.ExportFault.TheVariants.{Memory}
use Rattle.desk_store.proofs.Exporting.{same-text}
use Rattle.desk_store.proofs.Sent.{nothing-sent}
use Rattle.desk_store.proofs.export.write_sheet.Goals as goal

pub returns-in_err-rows : goal.returns-in_err-rows
returns-in_err-rows g c =
    let a = g.W.Write.contents c.args.writer.now in
    let lines = text_in c.args.form (rows_of g.R.Stored.columns_of (now_of c.args.sheet.now)) in
    let it : Sends a a lines (Err Memory) = nothing-sent a lines in
    search rules

pub returns : goal.returns
returns g c =
    let told = ap (map (λ (row : Bor _). row.now)) c.as_slice.ensures.value ∙ c.in_ok-rows.ensures in
    same-text (g.W.Write.contents c.args.writer.now) (g.W.Write.contents c.write_rows.new.writer) _ _
    c.write_rows.result (ap (lines_in c.args.form g.R.Stored.columns_of) told) c.write_rows.ensures
