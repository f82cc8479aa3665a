use Rattle.std.proofs.Common.{◌≡◌, ◌∷◌, [], string_bytes}
use Rattle.desk_wire.specs.Records.{IsReading, left}
use Rattle.desk_wire.specs.Sheets.{line_of, text_from}
use Rattle.desk_wire.specs.SheetViews.{shown_columns}
use Rattle.desk_wire.proofs.sheet.lines.Given as goal

abbrev pub invariant-loop-number : goal.invariant-loop-number
invariant-loop-number l =
    let line = line_of l.verb l.document l.told (shown_columns l.columns) l.unclosed in
    record {
      reading : IsReading l.reader;
      so_far :
          text_from line 2 (10 ∷ []) (left l.initial.reader)
          ≡ text_from line l.number (string_bytes l.text) (left l.reader);
    }
