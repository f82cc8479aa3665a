-- An entry of the history as a row of a file: n, day, kind, item, part, quantity, place, ref.
use Rattle.std.specs.Prelude.{List, [], ◌∷◌, Option, Some}
use Rattle.word_core.specs.Day.{day_text}
use Rattle.sheet_core.specs.declared.column.Column.{Column}
use Rattle.sheet_core.specs.declared.column.Column.TheVariants.{Whole, Text}
use Rattle.sheet_core.specs.Columns.{◌>>=◌, has, number_at}
use Rattle.forest.specs.WordColumns.{day_at}
use Rattle.forest.specs.Forest.{kind_code}
use Rattle.forest.specs.PlaceColumns.{kind_at, place_at, place_code, place_ref}
use Rattle.forest.specs.declared.entry.Entry.{Entry}
use Rattle.forest.specs.declared.entry.Note.{Note}

abbrev pub note_at : List Column → Option Note
note_at columns = do
  kind ← kind_at 2 columns
  item ← number_at 3 columns
  part ← number_at 4 columns
  quantity ← number_at 5 columns
  place ← place_at 6 columns
  Some (record { kind = kind; item = item; part = part; quantity = quantity; place = place })

abbrev pub entry_columns : Entry → List Column
entry_columns row =
    Whole row.number ∷ Text (day_text row.day) ∷ Whole (kind_code row.note.kind) ∷ Whole row.note.item
    ∷ Whole row.note.part
    ∷ Whole row.note.quantity ∷ Whole (place_code row.note.place) ∷ Whole (place_ref row.note.place) ∷ []

abbrev pub entry_from : List Column → Option Entry
entry_from columns = do
  whole ← has 8 columns
  number ← number_at 0 columns
  day ← day_at 1 columns
  note ← note_at columns
  Some (record { number = number; day = day; note = note })
