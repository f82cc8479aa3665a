-- What comes of sending a file again.
use Rattle.std.specs.Prelude.{◌≡◌, ℕ, Bool, true, List, ◌++◌, Ok}
use Rattle.word_core.specs.Day.{CivilDay}
use Rattle.desk_core.specs.Machine.{State, run}
use Rattle.desk_core.specs.declared.command.Request.{Request}
use Rattle.desk_wire.specs.Imports.{import}
use Rattle.desk_wire.specs.declared.kind.ImportKind.{ImportKind}
use Rattle.desk_wire.specs.declared.row.ImportRow.{ImportRow}
use Rattle.desk_app.specs.ImportRuns.{are_answers, import_told, requests_of, rows_out, rows_outcomes}
use Rattle.desk_app.specs.Runs.{naming}

-- Where each row of a file was answered, the file sent again is told the same report, with nothing refused, and changes
-- nothing: on whatever day, and whatever was run in between, as long as it says the same rows by then. Where no row may be
-- named it always does; with names it does where each name is still that of the same row.
abbrev pub FilesSentAgainChangeNothing : Type 0
FilesSentAgainChangeNothing =
    (loose names : Bool) (s : State) (kind : ImportKind) (document : List ℕ) (day later : CivilDay) (bytes : List ℕ)
    (rows : List ImportRow) (between : List Request)
    → import loose (naming names s) kind document day bytes ≡ Ok rows
    → are_answers (rows_outcomes s rows) ≡ true
    → (let then_ = (run s (requests_of rows ++ between)).0 in
    import loose (naming names then_) kind document day bytes ≡ Ok rows
    → import_told then_ (import loose (naming names then_) kind document later bytes) ≡ (then_, rows_out s rows, true))
