use Rattle.std.proofs.Common.{string_bytes}
use Rattle.desk_app.specs.ImportRuns.{file_rows, shown_import, ImportStopped}
use Rattle.desk_core.specs.declared.end.Stop.TheVariants.{WriteFailed}
use Rattle.desk_app.proofs.Rows.{import_written}
use Rattle.desk_app.proofs.Running.{if_err_as}
use Rattle.desk_app.proofs.import.import_all.Goals as goal

pub returns-in_err-send-clause-stopped : goal.returns-in_err-send-clause-stopped
returns-in_err-send-clause-stopped g c =
    let sent = rw c.as_bytes.ensures.value at c.in_err-send.ensures.front in
    let reading = file_rows (shown_import c.args.asked.now) (g.B.Books.state_in c.args.books.now) c.args.bytes.now in
    if_err_as
    (λ stop. ImportStopped stop reading (g.W.Write.contents c.args.writer.now) (g.W.Write.contents c.send.new.writer)
    (g.B.Books.state_in c.args.books.now) (g.B.Books.state_in c.tell_import.new.books))
    c.from_residual-in_err-send.result WriteFailed c.from_residual-in_err-send.ensures.1
    (import_written reading (g.W.Write.contents c.args.writer.now)
    (g.W.Write.contents c.send.new.writer)
    (g.B.Books.state_in c.args.books.now) (g.B.Books.state_in c.tell_import.new.books)
    (string_bytes c.in_ok-told.told.text) c.in_ok-told.told.fine sent.0 c.in_ok-told.ensures.ok sent.2)
