-- An item as a row of a file: id, part, batch, serial, status, quantity, place, ref.
use Rattle.std.specs.Prelude.{List, [], ◌∷◌, Option, Some}
use Rattle.word_core.specs.Status.{status_code}
use Rattle.sheet_core.specs.declared.column.Column.{Column}
use Rattle.sheet_core.specs.declared.column.Column.TheVariants.{Whole}
use Rattle.sheet_core.specs.Columns.{◌>>=◌, has, number_at}
use Rattle.forest.specs.WordColumns.{row_text_or_none_at}
use Rattle.forest.specs.WordColumns.{serial_or_none_at, status_at}
use Rattle.sheet_core.specs.Columns.{text_or_absent}
use Rattle.forest.specs.PlaceColumns.{place_at, place_code, place_ref}
use Rattle.forest.specs.declared.item.Item.{Item}
use Rattle.forest.specs.declared.item.Lot.{Lot}

abbrev pub lot_at : List Column → Option Lot
lot_at columns = do
  batch ← row_text_or_none_at 2 columns
  serial ← serial_or_none_at 3 columns
  status ← status_at 4 columns
  Some (record { batch = batch; serial = serial; status = status })

abbrev pub item_columns : Item → List Column
item_columns row =
    Whole row.number ∷ Whole row.part ∷ text_or_absent row.lot.batch ∷ text_or_absent row.lot.serial
    ∷ Whole (status_code row.lot.status)
    ∷ Whole row.quantity ∷ Whole (place_code row.place) ∷ Whole (place_ref row.place) ∷ []

abbrev pub item_from : List Column → Option Item
item_from columns = do
  whole ← has 8 columns
  number ← number_at 0 columns
  part ← number_at 1 columns
  lot ← lot_at columns
  quantity ← number_at 5 columns
  place ← place_at 6 columns
  Some (record { number = number; part = part; lot = lot; quantity = quantity; place = place })
