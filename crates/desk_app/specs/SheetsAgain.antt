-- Files of a command, as texts of lines: what they are line by line, run alone, and sent again.
use Rattle.std.specs.Prelude.{◌≡◌, ◌+◌, ℕ, List, [], ◌∷◌, true, Some, Ok}
use Rattle.desk_core.specs.Machine.{State}
use Rattle.desk_wire.specs.Reading as reading
use Rattle.desk_wire.specs.SheetForms.{sheet_form}
use Rattle.desk_wire.specs.SheetLaws.{LinesOfSheet}
use Rattle.desk_wire.specs.Sheets.{Sheet, sheet_text}
use Rattle.desk_app.specs.Checked.{are_readable, faults_out, is_readable, is_short, text_faults}
use Rattle.desk_app.specs.Runs.{all_fine, line_after, lines_of, naming, run_after, run_out}
use Rattle.desk_app.specs.SheetRuns.{sheet_options}

-- ---- line by line

-- the lines that a run takes of the text: an empty one for the header, and then those of the records, one of each
abbrev pub TextsAreLines : Type 0
TextsAreLines =
    (sheet : Sheet) (bytes text : List ℕ) → sheet_text sheet bytes ≡ Ok text
    → (parts : LinesOfSheet sheet bytes text) × (lines_of text ≡ [] ∷ parts.lines)

-- ---- run alone

-- Where a text isn't too long to be looked at, a run that looks at its lines first, with names, runs them where an
-- import does, and tells the faults that an import tells. Those two are all in which what `run_checked` promises of a
-- text differs from what is promised of a file that is this text.
abbrev pub TextsRunAlike : Type 0
TextsRunAlike =
    (text : List ℕ) → is_short text ≡ true
    → (is_readable true text ≡ are_readable true (lines_of text)) × (text_faults true text ≡ faults_out true 1 (lines_of text))

-- ---- sent again

-- each line, of which the first has the number, is read in the later state as in the one in which it was run: what it
-- calls a row is still what that row is called
abbrev pub AreReadAlike : State → State → ℕ → List (List ℕ) → Type 0
AreReadAlike later s n [] = Unit {0}
AreReadAlike later s n (l ∷ ls) =
    (reading.line (naming true later) l ≡ reading.line (naming true s) l)
    × AreReadAlike later (line_after sheet_options s n l) (n + 1) ls

-- where all records of a file were accepted, and nothing was run since, the file sent again changes nothing and is
-- answered as it was
abbrev pub SheetsSentAgainChangeNothing : Type 0
SheetsSentAgainChangeNothing =
    (command : List ℕ) (sheet : Sheet) (bytes text : List ℕ) (s : State) → sheet_form command ≡ Some sheet.form
    → sheet_text sheet bytes ≡ Ok text
    → (let lines = lines_of text in
    let then_ = run_after sheet_options s 1 lines in
    AreReadAlike then_ s 1 lines
    → all_fine sheet_options s 1 lines ≡ true
    → (run_after sheet_options then_ 1 lines ≡ then_) × (run_out sheet_options then_ 1 lines ≡ run_out sheet_options s 1 lines))
