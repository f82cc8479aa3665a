use Rattle.std.proofs.Common.{inl, inr}
use Rattle.invdesk.proofs.Printing.{Keeps-refl}
use Rattle.invdesk.proofs.low.print_low.Goals as goal

pub returns-in-Err : goal.returns-in-Err
returns-in-Err g c = inl (c.in-Err.ensures, Keeps-refl _)

pub returns : goal.returns
returns g c =
    inr (c.deref.result.now, c.is_terminal.result, c.told_columns.result, c.print_levels.ensures)
