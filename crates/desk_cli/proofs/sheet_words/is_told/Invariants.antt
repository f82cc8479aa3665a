use Rattle.std.proofs.Common.{◌≡◌, drop}
use Rattle.std.specs.Prelude.{is_some}
use Rattle.desk_wire.specs.Sheets.{said_of}
use Rattle.desk_wire.specs.SheetViews.{shown_sayings}
use Rattle.desk_cli.proofs.sheet_words.is_told.Given as goal

abbrev pub invariant-loop-member : goal.invariant-loop-member
invariant-loop-member l =
    is_some (said_of (shown_sayings l.said) l.name)
    ≡ is_some (said_of (shown_sayings (drop l.member-index l.said)) l.name)
