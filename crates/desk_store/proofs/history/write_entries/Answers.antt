use Rattle.std.proofs.Common.{Err, List, ℕ, map, refl, rules}
use Rattle.std.specs.Borrow.{Bor}
use Rattle.forest.specs.declared.entry.Entry.{Entry}
use Rattle.report_core.specs.Lines.{line_text, report_text}
use Rattle.yard_core.specs.EntryLines.{entry_line}
use Rattle.desk_store.specs.Exports.{Sends}
use Rattle.desk_store.specs.declared.export.ExportFault.TheVariants.{WriteFailed}
use Rattle.desk_store.proofs.Exporting.{all-sent, front-of, next-sent, none-sent, sends-front, sends-kept}
use Rattle.desk_store.proofs.history.write_entries.Goals as goal

abbrev lines : List Entry → List ℕ
lines entries = report_text (map entry_line entries)

abbrev now : Bor Entry → Entry
now entry = entry.now

abbrev line : Entry → List ℕ
line entry = line_text (entry_line entry)

pub loop-entry-init : goal.loop-entry-init
loop-entry-init g c = none-sent now lines (g.W.Write.contents c.args.writer.now) c.args.entries.now

pub returns-in_err-write_entry : goal.returns-in_err-write_entry
returns-in_err-write_entry g c =
    let a = g.W.Write.contents c.args.writer.now in
    let b = g.W.Write.contents c.loop-entry.writer in
    let d = g.W.Write.contents c.write_entry.new.writer in
    let fault = c.in_err-write_entry.field-0.0 in
    let it : Sends a d (lines (map now c.args.entries.now)) (Err fault) =
    sends-front a b d (line c.entry-item.result.now) _ fault c.in_err-write_entry.ensures
    (front-of now lines line refl (λ r rs. refl) a b d c.loop-entry.entry-index c.args.entries.now c.entry-item.result
    c.loop-entry-test.true c.entry-item.is c.loop-entry.invariant) in
    search rules

pub loop-entry-preserved : goal.loop-entry-preserved
loop-entry-preserved g c =
    next-sent now lines line refl (λ r rs. refl) (g.W.Write.contents c.args.writer.now)
    (g.W.Write.contents c.loop-entry.writer) (g.W.Write.contents c.write_entry.new.writer) c.loop-entry.entry-index
    c.args.entries.now c.entry-item.result c.loop-entry-test.true c.entry-item.is c.loop-entry.invariant
    c.in_ok-write_entry.ensures

pub returns-in_err-flush : goal.returns-in_err-flush
returns-in_err-flush g c =
    let a = g.W.Write.contents c.args.writer.now in
    let b = g.W.Write.contents c.loop-entry.writer in
    let d = g.W.Write.contents c.flush.new.writer in
    let text = lines (map now c.args.entries.now) in
    let all =
    all-sent now lines line refl (λ r rs. refl) a b c.loop-entry.entry-index c.args.entries.now c.loop-entry-test.false
    c.loop-entry.invariant in
    let it : Sends a d text (Err WriteFailed) = (sends-kept a b d text all c.flush.ensures).1 in
    search rules

pub returns : goal.returns
returns g c =
    let a = g.W.Write.contents c.args.writer.now in
    let b = g.W.Write.contents c.loop-entry.writer in
    let d = g.W.Write.contents c.flush.new.writer in
    let all =
    all-sent now lines line refl (λ r rs. refl) a b c.loop-entry.entry-index c.args.entries.now c.loop-entry-test.false
    c.loop-entry.invariant in
    (sends-kept a b d (lines (map now c.args.entries.now)) all c.flush.ensures).0
