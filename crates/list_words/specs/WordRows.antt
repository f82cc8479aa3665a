-- The row that a word says of whom a list or a report is asked for.
use Rattle.std.specs.Prelude.{ℕ, ◌&&◌, not, Bool, is_none, List, codes, Some, Result, if◌then◌else◌}
use Rattle.word_core.specs.declared.field.RowKind.{RowKind}
use Rattle.word_core.specs.declared.field.RowKind.TheVariants.{Item}
use Rattle.part_core.specs.declared.found.Found.{Found}
use Rattle.part_core.specs.declared.found.Found.TheVariants.{Nothing}
use Rattle.desk_core.specs.Machine.{State}
use Rattle.desk_core.specs.Naming.{naming_in}
use Rattle.list_core.specs.SerialWords.{serial_found}
use Rattle.desk_wire.specs.Numbers.{number_in}
use Rattle.desk_wire.specs.RowNames.{one_row}
use Rattle.desk_wire.specs.RowWords.{is_json, row_at_word}
use Rattle.desk_wire.specs.declared.fault.What.{What}

-- a word that is neither a number nor JSON
abbrev pub is_plain : List ℕ → Bool
is_plain word = is_none (number_in word) && not (is_json word)

-- the row of that table, by its number, or looked up as the names of this state are
abbrev pub named_at : RowKind → List ℕ → State → Result ℕ What
named_at table word s = row_at_word (Some (naming_in s)) table (codes "of") word

-- the item that isn't gone and has the word as its serial, where there is one alone
abbrev pub serial_at : List ℕ → State → Result ℕ What
serial_at word s = one_row (codes "of") (serial_found word s)

-- a plain word says an item by its serial
abbrev pub item_at : List ℕ → State → Result ℕ What
item_at word s = if is_plain word then serial_at word s else named_at Item word s

-- the row of that table that a word says
abbrev pub row_at : RowKind → List ℕ → State → Result ℕ What
row_at Item word s = item_at word s
row_at table word s = named_at table word s

-- what is found by a part's name; where nothing is, an item by its serial
abbrev pub part_or_serial : Found → List ℕ → State → Result ℕ What
part_or_serial Nothing word s = serial_at word s
part_or_serial found word s = one_row (codes "of") found

-- the part, the item or the order that a word says: by its number, by JSON, or, where it is a plain word, a part by its
-- name or else an item by its serial
abbrev pub subject_at : List ℕ → State → Result ℕ What
subject_at word s = if is_plain word then part_or_serial ((naming_in s).part word) word s else named_at Item word s
