use Rattle.std.proofs.Common.{subst, sym}
use Rattle.desk_core.specs.ShopView.{state_of}
use Rattle.desk_cli.specs.Subjects.{TellsNoRow, row_of_report}
use Rattle.invdesk.specs.Prints.{PrintsOfRow}
use Rattle.invdesk.proofs.Printing.{prints_closed, prints_found, prints_no_memory, prints_report, prints_unfound}
use Rattle.invdesk.proofs.print.print_of_row.Goals as goal

pub returns-in-Ok : goal.returns-in-Ok
returns-in-Ok g c =
    prints_found c.args.name _ c.in-Ok.number (state_of c.args.desk.now.shop) _ _ c.print_report.result c.in-Ok.ensures
    (prints_report _ _ _ _ _ c.print_report.result c.print_report.ensures.whole c.print_report.ensures.front
    c.print_report.ensures.none c.print_report.ensures.nothing c.print_report.ensures.never)

pub returns-in-Err-Wrong : goal.returns-in-Err-Wrong
returns-in-Err-Wrong g c =
    let s = state_of c.args.desk.now.shop in
    let row = row_of_report c.args.name c.args.of s in
    subst (PrintsOfRow c.args.name row s _ _) (sym c.tell_no_row.ensures)
    (prints_unfound c.args.name row c.in-Err-Wrong.what s _
    (subst (TellsNoRow c.args.desk.now.failed row) c.in-Err-Wrong.field-0-is c.in-Err-Wrong.ensures))

pub returns-in-Err-Memory : goal.returns-in-Err-Memory
returns-in-Err-Memory g c =
    prints_no_memory c.args.name (row_of_report c.args.name c.args.of (state_of c.args.desk.now.shop))
    (state_of c.args.desk.now.shop) _

pub returns-in-Err-Closed : goal.returns-in-Err-Closed
returns-in-Err-Closed g c =
    prints_closed c.args.name (row_of_report c.args.name c.args.of (state_of c.args.desk.now.shop))
    (state_of c.args.desk.now.shop) _
