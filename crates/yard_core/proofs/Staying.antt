-- No step on the stock takes a row away.
use Rattle.std.proofs.Common.{List, [], ◌∷◌, ◌++◌, map}
use Rattle.std.specs.FinMap as table
use Rattle.word_core.specs.Day.{CivilDay}
use Rattle.sheet_core.specs.Rows.{StayThere}
use Rattle.sheet_core.specs.Sheet.{Table}
use Rattle.sheet_core.proofs.RowLemmas.{stay-insert}
use Rattle.forest.specs.declared.entry.Entry.{Entry}
use Rattle.forest.specs.declared.entry.Note.{Note}
use Rattle.forest.specs.declared.item.Item.{Item}
use Rattle.forest.specs.Forest.{row_of}
use Rattle.forest.specs.Moves.{Change}
use Rattle.yard_core.specs.Stock.{AllStay, Stock, by_change, moved, next_entry, numbered, put_all, put_rows}
use Rattle.yard_core.specs.YardMachine.{RowsStay}
use Rattle.yard_core.specs.declared.yard_command.YardCommand.TheVariants.{AddLocation}

pub stay-put_rows : (rows : List Item) (t : Table Item) → StayThere t (put_rows rows t)
stay-put_rows [] t k h = h
stay-put_rows (x ∷ xs) t k h =
    stay-put_rows xs (table.insert t (x.number ∷ []) x) k (stay-insert t (x.number ∷ []) x k h)

pub stay-put_all : (es : List Entry) (t : Table Entry) → StayThere t (put_all es t)
stay-put_all [] t k h = h
stay-put_all (e ∷ es) t k h = stay-put_all es (table.insert t (e.number ∷ []) e) k (stay-insert t (e.number ∷ []) e k h)

-- no step at all
pub stay-none : (s : Stock) → AllStay s s
stay-none s = record { locations = λ k h. h; items = λ k h. h; history = λ k h. h }

-- one step after another
pub stay-more : (s t u : Stock) → AllStay s t → AllStay t u → AllStay s u
stay-more s t u first second = record {
  locations = λ k h. second.locations k (first.locations k h);
  items = λ k h. second.items k (first.items k h);
  history = λ k h. second.history k (first.history k h);
}

pub stay-moved : (rows : List Item) (notes : List Note) (day : CivilDay) (s : Stock)
    → AllStay s (moved rows notes day s)
stay-moved rows notes day s = record {
  locations = λ k h. h;
  items = stay-put_rows rows s.items;
  history = stay-put_all (numbered (next_entry s) day notes) s.history;
}

pub stay-change : (c : Change) (day : CivilDay) (s : Stock) → AllStay s (by_change c day s)
stay-change c day s = stay-moved (map row_of (c.roots ++ c.leaves)) c.notes day s

pub rows-stay : RowsStay
rows-stay (AddLocation name parent) b = record {
  locations =
      stay-insert b.stock.locations (b.counter.next ∷ [])
      (record { number = b.counter.next; name = name; parent = parent });
  items = λ k h. h;
  history = λ k h. h;
}
