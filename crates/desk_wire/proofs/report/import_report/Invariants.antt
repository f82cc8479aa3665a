use Rattle.std.proofs.Common.{◌≡◌, ◌++◌, drop, length}
use Rattle.std.specs.String.{string_bytes}
use Rattle.desk_wire.specs.ImportReports.{import_text}
use Rattle.desk_wire.proofs.report.import_report.Given as goal

abbrev pub invariant-loop-number : goal.invariant-loop-number
invariant-loop-number l =
    import_text l.numbers l.outcomes
    ≡ string_bytes l.text ++ import_text (drop (length l.yielded) l.numbers) (drop (length l.yielded) l.outcomes)
