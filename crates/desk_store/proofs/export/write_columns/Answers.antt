use Rattle.std.proofs.Common.{Ok, Err, rules, subst, ◌∙◌}
use Rattle.std.specs.Io.KnownBytes.{Appends}
use Rattle.desk_store.specs.Exports.{AppendsFront, Sends}
use Rattle.desk_store.specs.RowForms.{line_in}
use Rattle.desk_store.specs.declared.export.ExportFault.TheVariants.{Memory, WriteFailed}
use Rattle.desk_store.proofs.Sent.{nothing-sent}
use Rattle.desk_store.proofs.export.write_columns.Goals as goal

pub returns-in_err-line : goal.returns-in_err-line
returns-in_err-line g c =
    let a = g.W.Write.contents c.args.writer.now in
    let it : Sends a a (line_in c.args.form c.args.columns.now) (Err Memory) = nothing-sent a (line_in c.args.form c.args.columns.now) in
    search rules

pub returns-in_err-write_whole : goal.returns-in_err-write_whole
returns-in_err-write_whole g c =
    let a = g.W.Write.contents c.args.writer.now in
    let b = g.W.Write.contents c.write_whole.new.writer in
    let it : Sends a b (line_in c.args.form c.args.columns.now) (Err WriteFailed) =
    subst (AppendsFront a b) (c.as_slice.ensures.value ∙ c.in_ok-line.ensures) c.in_err-write_whole.ensures.front in
    search rules

pub returns : goal.returns
returns g c =
    subst (Appends (g.W.Write.contents c.args.writer.now) (g.W.Write.contents c.write_whole.new.writer))
    (c.as_slice.ensures.value ∙ c.in_ok-line.ensures) c.in_ok-write_whole.ensures.whole
