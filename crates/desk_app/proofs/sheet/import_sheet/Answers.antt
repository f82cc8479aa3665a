use Rattle.std.proofs.Common.{◌∙◌, ap, inr, refl, subst, sym, string_bytes}
use Rattle.desk_app.proofs.Running.{Keeps-refl}
use Rattle.desk_wire.specs.Sheets.{sheet_text}
use Rattle.desk_wire.specs.SheetViews.{shown_sheet}
use Rattle.desk_wire.specs.Writing.{fault_text}
use Rattle.desk_app.specs.SheetRuns.{RunsSheet}
use Rattle.desk_app.proofs.SheetRuns.{fault_told, unmade}
use Rattle.desk_app.proofs.sheet.import_sheet.Goals as goal

pub returns-in-Err-Wrong-clause-runs : goal.returns-in-Err-Wrong-clause-runs
returns-in-Err-Wrong-clause-runs g c =
    let told = rw c.in-Err-Wrong.field-0-is at c.in-Err-Wrong.ensures in
    subst
    (λ reading. RunsSheet c.args.stop reading (g.W.Write.contents c.args.writer.now)
    (g.W.Write.contents c.tell_fault.new.writer) (g.B.Books.failure_of c.args.books.now)
    (g.B.Books.failure_of c.args.books.now) (g.B.Books.may_leave c.args.books.now)
    (g.B.Books.state_in c.args.books.now) (g.B.Books.state_in c.args.books.now) c.tell_fault.result)
    (sym told) (
      refl,
      refl,
      fault_told (fault_text c.in-Err-Wrong.fault) (g.W.Write.contents c.args.writer.now)
          (g.W.Write.contents c.tell_fault.new.writer) c.tell_fault.result c.tell_fault.ensures,
    )
