use Rattle.std.proofs.Common.{Err, ap, rules, ◌∙◌}
use Rattle.desk_store.specs.Exports.{Sends}
use Rattle.desk_store.specs.RowForms.{line_in}
use Rattle.desk_store.specs.MetaColumns.{meta_columns}
use Rattle.desk_store.specs.declared.export.ExportFault.TheVariants.{Memory}
use Rattle.desk_store.proofs.Exporting.{same-text}
use Rattle.desk_store.proofs.Sent.{nothing-sent}
use Rattle.desk_store.proofs.export.write_meta.Goals as goal

pub returns-in_err-columns : goal.returns-in_err-columns
returns-in_err-columns g c =
    let a = g.W.Write.contents c.args.writer.now in
    let line = line_in c.args.form (meta_columns c.args.row.now) in
    let it : Sends a a line (Err Memory) = nothing-sent a line in
    search rules

pub returns : goal.returns
returns g c =
    same-text (g.W.Write.contents c.args.writer.now) (g.W.Write.contents c.write_columns.new.writer) _ _
    c.write_columns.result (ap (line_in c.args.form) (c.as_slice.ensures.value ∙ c.in_ok-columns.ensures.columns))
    c.write_columns.ensures
