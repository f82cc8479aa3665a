use Rattle.std.proofs.Common.{◌≡◌, ◌++◌, ◌∷◌, drop, map}
use Rattle.report_core.specs.Lines.{lines_of}
use Rattle.list_core.specs.NamedReports.{ledger_header}
use Rattle.list_core.proofs.report_form.ledger_of.Given as goal

-- the lines so far and those of what is left are all lines
abbrev pub invariant-loop-line : goal.invariant-loop-line
invariant-loop-line l =
    lines_of l.told.items ++ map (λ line. l.name ∷ line) (lines_of (drop l.line-index l.lines))
    ≡ ledger_header ∷ map (λ line. l.name ∷ line) (lines_of l.lines)
