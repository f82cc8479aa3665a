use Rattle.std.proofs.Common.{inl, inr}
use Rattle.invdesk.proofs.import.print_lines.Goals as goal

pub returns-in-Ok : goal.returns-in-Ok
returns-in-Ok c = inr (c.in-Ok.bytes.items, rw c.deref.ensures.value at c.print_sheet.ensures)

pub returns-in-Err : goal.returns-in-Err
returns-in-Err c = inl c.in-Err.ensures
