use Rattle.std.proofs.Common.{Ok, Err, rules, subst, ◌∙◌}
use Rattle.std.specs.Io.KnownBytes.{Appends}
use Rattle.report_core.specs.Lines.{line_text}
use Rattle.yard_core.specs.EntryLines.{entry_line}
use Rattle.desk_store.specs.Exports.{AppendsFront, Sends}
use Rattle.desk_store.specs.declared.export.ExportFault.TheVariants.{Memory, WriteFailed}
use Rattle.desk_store.proofs.Sent.{nothing-sent}
use Rattle.desk_store.proofs.history.write_entry.Goals as goal

pub returns-in_err-line : goal.returns-in_err-line
returns-in_err-line g c =
    let a = g.W.Write.contents c.args.writer.now in
    let line = line_text (entry_line c.args.entry.now) in
    let it : Sends a a line (Err Memory) = nothing-sent a line in
    search rules

pub returns-in_err-write_whole : goal.returns-in_err-write_whole
returns-in_err-write_whole g c =
    let a = g.W.Write.contents c.args.writer.now in
    let b = g.W.Write.contents c.write_whole.new.writer in
    let it : Sends a b (line_text (entry_line c.args.entry.now)) (Err WriteFailed) =
    subst (AppendsFront a b) (c.as_bytes.ensures.value ∙ c.in_ok-line.ensures) c.in_err-write_whole.ensures.front in
    search rules

pub returns : goal.returns
returns g c =
    subst (Appends (g.W.Write.contents c.args.writer.now) (g.W.Write.contents c.write_whole.new.writer))
    (c.as_bytes.ensures.value ∙ c.in_ok-line.ensures) c.in_ok-write_whole.ensures.whole
