-- The line of an entry: what stands in its fields.
use Rattle.std.specs.Prelude.{ℕ, List, [], ◌∷◌, ◌++◌, codes, decimal}
use Rattle.word_core.specs.Day.{day_text}
use Rattle.forest.specs.declared.entry.Entry.{Entry}
use Rattle.forest.specs.declared.entry.Kind.{Kind}
use Rattle.forest.specs.declared.entry.Kind.TheVariants.{Received, Found, Built, Consumed, Shipped, Returned}
use Rattle.forest.specs.declared.entry.Kind.TheVariants.{Written, Moved, Cut, Poured, Installed, TakenOut, Marked}
use Rattle.forest.specs.declared.place.Place.{Place}
use Rattle.forest.specs.declared.place.Place.TheVariants.{At, In, Output, Sent, Used, Off, Gone}
use Rattle.forest.specs.declared.place.Reason.{Reason}
use Rattle.forest.specs.declared.place.Reason.TheVariants.{Removed, Counted, Disassembled, Scrapped}

abbrev pub kind_name : Kind → List ℕ
kind_name Received = codes "received"
kind_name Found = codes "found"
kind_name Built = codes "built"
kind_name Consumed = codes "consumed"
kind_name Shipped = codes "shipped"
kind_name Returned = codes "returned"
kind_name Written = codes "written"
kind_name Moved = codes "moved"
kind_name Cut = codes "cut"
kind_name Poured = codes "poured"
kind_name Installed = codes "installed"
kind_name TakenOut = codes "taken_out"
kind_name Marked = codes "marked"

abbrev pub reason_name : Reason → List ℕ
reason_name Removed = codes "removed"
reason_name Counted = codes "counted"
reason_name Disassembled = codes "disassembled"
reason_name Scrapped = codes "scrapped"

-- a place, with the number of the row that it names
abbrev pub place_text : Place → List ℕ
place_text (At location) = codes "at " ++ decimal location
place_text (In item) = codes "in " ++ decimal item
place_text (Output build) = codes "output " ++ decimal build
place_text (Sent order) = codes "sent " ++ decimal order
place_text (Used build) = codes "used " ++ decimal build
place_text (Off reason) = codes "off " ++ reason_name reason
place_text Gone = codes "gone"

-- the entry's fields, in order
abbrev pub entry_line : Entry → List (List ℕ)
entry_line entry =
    decimal entry.number
    ∷ day_text entry.day
    ∷ kind_name entry.note.kind
    ∷ decimal entry.note.quantity
    ∷ place_text entry.note.place
    ∷ []
