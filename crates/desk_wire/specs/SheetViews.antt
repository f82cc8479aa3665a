-- The columns of a sheet, as the code keeps them, and what it reads of one at a time.
use Rattle.std.specs.Prelude.{ℕ, ◌≡◌, ◌∷◌, List, [], map, Option, Some, None, Result, Ok, Err, String, string_bytes}
use Rattle.std.specs.Borrow.{Bor}
use Rattle.std.specs.declared.alloc.Global.{Global}
use Rattle.word_core.specs.Forms.{shown}
use Rattle.desk_wire.specs.declared.fault.ReadError.{ReadError}
use Rattle.desk_wire.specs.declared.fault.ReadError.TheVariants.{Memory, Wrong}
use Rattle.desk_wire.specs.declared.fault.What.{What}
use Rattle.desk_wire.specs.declared.sheet.Sheet as sheets
use Rattle.desk_wire.specs.declared.sheet_columns.FieldPlace as code
use Rattle.desk_wire.specs.declared.sheet_columns.Place as places
use Rattle.desk_wire.specs.declared.sheet_columns.Place.TheVariants as place
use Rattle.desk_wire.specs.declared.sheet_columns.Said as sayings
use Rattle.desk_wire.specs.declared.sheet_columns.Said.TheVariants as saying
use Rattle.desk_wire.specs.declared.sheet_columns.HeaderPlaces.{HeaderPlaces}
use Rattle.desk_wire.specs.Records.{Fields}
use Rattle.desk_wire.specs.Sheets.{FieldPlace, Place, Said, Sayings, Sheet, SheetColumns, always, as_said, headed, in_column}
use Rattle.desk_wire.specs.Sheets.{nowhere}
use Rattle.desk_wire.specs.Steps.{at}

abbrev pub shown_said : sayings.Said → Said
shown_said (saying.Headed name) = headed name.now
shown_said (saying.Always text) = always text.now

abbrev pub shown_sayings : List (Bor (List ℕ) × sayings.Said) → Sayings
shown_sayings said = map (λ s. (s.0.now, shown_said s.1)) said

abbrev pub shown_sheet : sheets.Sheet → Sheet
shown_sheet sheet =
    record {
      form = shown sheet.form.now;
      said = shown_sayings sheet.said.items;
      document = sheet.document;
      day = sheet.day;
    }

abbrev pub shown_place : places.Place → Place
shown_place (place.Column i) = in_column i
shown_place (place.Text text) = as_said text.now
shown_place place.Nowhere = nowhere

abbrev pub shown_field : code.FieldPlace → FieldPlace
shown_field f = record { name = f.name.now; kind = f.kind; place = shown_place f.place }

abbrev pub shown_fields : List code.FieldPlace → List FieldPlace
shown_fields fields = map shown_field fields

abbrev pub shown_columns : HeaderPlaces → SheetColumns
shown_columns columns = record {
  fields = shown_fields columns.fields.items;
  number = shown_place columns.number;
  key = shown_place columns.key;
  day = shown_place columns.day;
  width = columns.width;
}

-- a separator and the columns that the header has by it
abbrev pub shown_layout : ℕ × HeaderPlaces → ℕ × SheetColumns
shown_layout layout = (layout.0, shown_columns layout.1)

-- the next record, at that place, was read: as a line, or as one that is wrong, or there was none
abbrev pub ReadsLine : (ℕ → Fields → Result (List ℕ) What) → ℕ → List Fields → List Fields
    → Result (Option (String Global)) ReadError → Type 0
ReadsLine line n old new (Ok None) = old ≡ []
ReadsLine line n old new (Ok (Some text)) = (fields : Fields) × (old ≡ fields ∷ new) × (line n fields ≡ Ok (string_bytes text))
ReadsLine line n old new (Err Memory) = Unit {0}
ReadsLine line n old new (Err (Wrong fault)) =
    (fields : Fields) × (rest : List Fields) × (old ≡ fields ∷ rest) × (at n (line n fields) ≡ Err fault)
