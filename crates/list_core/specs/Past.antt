-- The past of orders and builds: the key of the request that made one, and the last day on which something of it came or
-- went.
use Rattle.std.specs.Prelude.{◌≡◌, ℕ, ◌==◌, Bool, true, false, if◌then◌else◌, List, [], ◌∷◌, filter, option_map}
use Rattle.std.specs.Prelude.{Option, Some, None}
use Rattle.std.specs.FinMap as table
use Rattle.word_core.specs.Day.{CivilDay}
use Rattle.sheet_core.specs.Sheet.{Table, now_of}
use Rattle.forest.specs.declared.entry.Entry.{Entry}
use Rattle.forest.specs.declared.entry.Kind.{Kind}
use Rattle.forest.specs.declared.entry.Kind.TheVariants as kind
use Rattle.forest.specs.declared.entry.Note.{Note}
use Rattle.forest.specs.declared.place.Place.{Place}
use Rattle.forest.specs.declared.place.Place.TheVariants.{Output, Sent}
use Rattle.desk_core.specs.Machine.{State}
use Rattle.list_core.specs.Origins.{day_or_empty, key_day_text, key_text, origin_at, origins_in}
use Rattle.list_core.specs.declared.origins.Origin.{Origin}
use Rattle.list_core.specs.declared.origins.Source.{Source}
use Rattle.list_core.specs.declared.origins.Source.TheVariants.{Begun, Received}
use Rattle.list_core.specs.declared.past.LastDay.{LastDay}
use Rattle.list_core.specs.declared.past.Past.{Past}
use Rattle.list_core.specs.declared.past.Subject.{Subject}
use Rattle.list_core.specs.declared.past.Subject.TheVariants.{Orders, Builds}

-- what the origin of an item names
abbrev pub source_at : ℕ → Table Origin → Option Source
source_at item origins = option_map (λ o. o.source) (origin_at item origins)

-- ---- orders

-- the order of a line
abbrev pub order_of_line : ℕ → State → Option ℕ
order_of_line line s = option_map (λ l. l.order) (table.get s.order_lines (line ∷ []))

-- the order for which an item with this source was received
abbrev pub received_of : State → Option Source → Option ℕ
received_of s (Some (Received line)) = order_of_line line s
received_of s _ = None

-- the order for which this is the place of what was sent
abbrev pub sent_for : Place → Option ℕ
sent_for (Sent order) = Some order
sent_for _ = None

abbrev pub order_by_note : State → Table Origin → Note → Kind → Option ℕ
order_by_note s origins note kind.Shipped = sent_for note.place
order_by_note s origins note kind.Received = received_of s (source_at note.item origins)
order_by_note s origins note _ = None

-- the order of which something was delivered or sent by the entry
abbrev pub order_of : State → Table Origin → Entry → Option ℕ
order_of s origins entry = order_by_note s origins entry.note entry.note.kind

-- ---- builds

abbrev pub is_output : Place → Bool
is_output (Output build) = true
is_output _ = false

-- the build for which an item with this source was begun
abbrev pub built_for : Option Source → Option ℕ
built_for (Some (Begun build)) = Some build
built_for _ = None

abbrev pub build_by_note : Table Origin → Note → Kind → Option ℕ
build_by_note origins note kind.Built =
    if is_output note.place then None else built_for (source_at note.item origins)
build_by_note origins note _ = None

-- the build of which an output was completed by the entry: one that was scrapped stays an output to the end
abbrev pub build_of : Table Origin → Entry → Option ℕ
build_of origins entry = build_by_note origins entry.note entry.note.kind

-- ---- the last day

-- the order or the build of which something came or went by the entry
abbrev pub number_of : Subject → State → Table Origin → Entry → Option ℕ
number_of Orders s origins entry = order_of s origins entry
number_of Builds s origins entry = build_of origins entry

-- whether that is this number
abbrev pub is_number : ℕ → Option ℕ → Bool
is_number n None = false
is_number n (Some m) = m == n

-- the day of the last of these entries, or this one where there is none
abbrev pub last_day_or : Option CivilDay → List Entry → Option CivilDay
last_day_or day [] = day
last_day_or day (e ∷ es) = last_day_or (Some e.day) es

-- the day of the last entry, in order, by which something of the order or the build came or went
abbrev pub last_day : Subject → ℕ → State → Option CivilDay
last_day subject n s =
    last_day_or None
    (filter (λ e. is_number n (number_of subject s (origins_in s) e)) (table.values s.stock.history))

-- what is said of the past of that number: the key of the request that made it, the day of that key, and its last day
unfoldable pub past_of : Subject → State → ℕ → List (List ℕ)
past_of subject s n =
    key_text (origin_at n (origins_in s))
    ∷ key_day_text (origin_at n (origins_in s))
    ∷ day_or_empty (last_day subject n s)
    ∷ []

-- ---- the last days of all, gathered entry by entry

-- the day comes to the number, if there is one, in the place of an earlier one
abbrev pub with_day : Option ℕ → CivilDay → Table LastDay → Table LastDay
with_day None day days = days
with_day (Some n) day days = table.insert days (n ∷ []) (record { number = n; day = day })

-- the same of each entry
abbrev pub gathered_days : (Entry → Option ℕ) → List Entry → Table LastDay → Table LastDay
gathered_days number [] days = days
gathered_days number (e ∷ es) days = gathered_days number es (with_day (number e) e.day days)

abbrev pub day_in : ℕ → Table LastDay → Option CivilDay
day_in n days = option_map (λ last. last.day) (table.get days (n ∷ []))

-- what is told of the past of that number
unfoldable pub told_past : ℕ → Past → List (List ℕ)
told_past n past =
    key_text (origin_at n (now_of past.origins))
    ∷ key_day_text (origin_at n (now_of past.origins))
    ∷ day_or_empty (day_in n (now_of past.days))
    ∷ []

-- of each number its past is told
abbrev pub IsPast : Subject → State → Past → Type 0
IsPast subject s past = (n : ℕ) → told_past n past ≡ past_of subject s n
