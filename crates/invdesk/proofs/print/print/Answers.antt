use Rattle.invdesk.proofs.Printing.{prints_lines}
use Rattle.invdesk.proofs.print.print.Goals as goal

pub returns-in-Report : goal.returns-in-Report
returns-in-Report g c = rw c.in-Report.is c.print_of_row.ensures

pub returns-in-Export : goal.returns-in-Export
returns-in-Export g c =
    rw c.in-Export.is
    (prints_lines _ _ _ c.print_export.result c.print_export.ensures.whole c.print_export.ensures.front
    c.print_export.ensures.nothing c.print_export.ensures.never)

pub returns-in-Dump : goal.returns-in-Dump
returns-in-Dump g c =
    rw c.in-Dump.is
    (prints_lines _ _ _ c.print_dump.result c.print_dump.ensures.whole c.print_dump.ensures.front
    c.print_dump.ensures.nothing c.print_dump.ensures.never)

pub returns-in-Show : goal.returns-in-Show
returns-in-Show g c = rw c.in-Show.is c.print_list_out.ensures

pub returns-in-Low : goal.returns-in-Low
returns-in-Low g c = rw c.in-Low.is c.print_low.ensures
