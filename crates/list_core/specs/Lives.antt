-- Of each item the day of its first entry, and what was built of it.
use Rattle.std.specs.Prelude.{◌≡◌, ℕ, ◌+◌, ◌&&◌, not, Bool, true, false, if◌then◌else◌, List, [], ◌∷◌, filter, sum_by}
use Rattle.std.specs.Prelude.{Option, Some, None, option_map, unwrap_or}
use Rattle.std.specs.FinMap as table
use Rattle.word_core.specs.Day.{CivilDay}
use Rattle.sheet_core.specs.Sheet.{Table}
use Rattle.forest.specs.declared.entry.Entry.{Entry}
use Rattle.forest.specs.declared.entry.Kind.{Kind}
use Rattle.forest.specs.declared.entry.Kind.TheVariants.{Built}
use Rattle.yard_core.specs.Outputs.{is_output}
use Rattle.yard_core.specs.Stock.{is_entry_on}
use Rattle.desk_core.specs.Machine.{State}
use Rattle.list_core.specs.declared.lives.Life.{Life}

-- ---- what the history says

abbrev pub is_built : Kind → Bool
is_built Built = true
is_built _ = false

-- what an entry adds to what was built: an output that was thrown away is written at the build's output, and adds nothing
abbrev pub built_by : Entry → ℕ
built_by e = if is_built e.note.kind && not (is_output e.note.place) then e.note.quantity else 0

abbrev pub entries_on : ℕ → State → List Entry
entries_on n s = filter (is_entry_on n) (table.values s.stock.history)

abbrev pub day_of_first : List Entry → Option CivilDay
day_of_first [] = None
day_of_first (e ∷ es) = Some e.day

-- the day of the first entry on the item
abbrev pub first_day : ℕ → State → Option CivilDay
first_day n s = day_of_first (entries_on n s)

-- how many were built of the item
abbrev pub built_of : ℕ → State → ℕ
built_of n s = sum_by built_by (entries_on n s)

-- ---- gathered in one pass

abbrev pub life_at : ℕ → Table Life → Option Life
life_at n lives = table.get lives (n ∷ [])

abbrev pub day_in : Option Life → Option CivilDay
day_in None = None
day_in (Some life) = Some life.day

abbrev pub built_in : Option Life → ℕ
built_in None = 0
built_in (Some life) = life.built

-- what is known of an item, with an entry on it
abbrev pub life_with : Entry → Option Life → Life
life_with e life =
    record {
      item = e.note.item;
      day = unwrap_or (day_in life) e.day;
      built = built_in life + built_by e;
    }

-- an entry comes to what is known of its item
abbrev pub with_entry : Entry → Table Life → Table Life
with_entry e lives = table.insert lives (e.note.item ∷ []) (life_with e (life_at e.note.item lives))

-- the same of each entry
abbrev pub with_entries : List Entry → Table Life → Table Life
with_entries [] lives = lives
with_entries (e ∷ es) lives = with_entries es (with_entry e lives)

-- the table has of each item what the history says
pub record TellLives (s : State) (lives : Table Life) : Type 0 where
  pub days : (n : ℕ) → day_in (life_at n lives) ≡ first_day n s
  pub built : (n : ℕ) → built_in (life_at n lives) ≡ built_of n s
