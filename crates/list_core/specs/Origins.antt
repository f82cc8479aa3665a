-- What made a row: the kept request that drew its number, and what its text says of it.
use Rattle.std.specs.Prelude.{ℕ, ◌==◌, ◌||◌, Bool, true, false, if◌then◌else◌, List, [], ◌∷◌, ◌++◌, map, filter, flat_map}
use Rattle.std.specs.Prelude.{take, codes, Option, Some, None, option_and_then, option_map, unwrap_or, pos}
use Rattle.std.specs.FinMap as table
use Rattle.std.specs.Hash as fed
use Rattle.std.specs.Str.{bytes_eq}
use Rattle.serde_json.specs.Data.{Data}
use Rattle.serde_json.specs.Find.{get, as_number, as_str, as_u64}
use Rattle.serde_json.specs.Read.{read}
use Rattle.word_core.specs.Day.{CivilDay, day_of, day_text}
use Rattle.sheet_core.specs.Filled.{filled}
use Rattle.sheet_core.specs.Indexed.{index_key_of}
use Rattle.sheet_core.specs.Sheet.{Table}
use Rattle.desk_core.specs.declared.kept.Kept.{Kept}
use Rattle.desk_core.specs.Machine.{State}
use Rattle.list_core.specs.declared.origins.Origin.{Origin}
use Rattle.list_core.specs.declared.origins.Source.{Source}
use Rattle.list_core.specs.declared.origins.Source.TheVariants.{Begun, Received, CutOff, Made}

-- ---- what a text says

-- the number that a member is: one without sign, fraction and exponent, less than 2 to the 64
abbrev pub number_in : List ℕ → Data → Option ℕ
number_in name d = option_and_then as_u64 (option_and_then as_number (get name d))

-- the text that a member is
abbrev pub text_in : List ℕ → Data → Option (List ℕ)
text_in name d = option_and_then as_str (get name d)

abbrev pub begun : Option ℕ → Source
begun None = Made
begun (Some build) = Begun build

abbrev pub received : Option ℕ → Source
received None = Made
received (Some line) = Received line

abbrev pub cut_off : Option ℕ → Source
cut_off None = Made
cut_off (Some item) = CutOff item

-- the commands that may cut a piece off the item that they name
abbrev pub is_cutting : List ℕ → Bool
is_cutting word =
    bytes_eq word (codes "transfer") || bytes_eq word (codes "split") || bytes_eq word (codes "serialise")
    || bytes_eq word (codes "install")

-- what the word and the members beside it say of the rows that were made
abbrev pub source_by : List ℕ → Data → Source
source_by word d =
    if bytes_eq word (codes "outputs") then begun (number_in (codes "build") d)
    else (if bytes_eq word (codes "receive") then received (number_in (codes "line") d)
    else (if is_cutting word then cut_off (number_in (codes "item") d) else Made))

-- what an object says, by its word
abbrev pub source_in : Option (List ℕ) → Data → Source
source_in None d = Made
source_in (Some word) d = source_by word d

-- what a text says of the rows that its request made, read as JSON
unfoldable pub source_of : List ℕ → Source
source_of text = of_data (read text)
  where
    of_data : Option Data → Source
    of_data None = Made
    of_data (Some d) = source_in (text_in (codes "do") d) d

-- the word of a text, empty where it has none
unfoldable pub verb_of : List ℕ → List ℕ
verb_of text = of_data (read text)
  where
    of_data : Option Data → List ℕ
    of_data None = []
    of_data (Some d) = unwrap_or (text_in (codes "do") d) []

-- ---- the origins of all rows

-- what is told of a number that the kept request drew
abbrev pub origin_of : Kept → ℕ → Origin
origin_of kept n =
    record { number = n; source = source_of kept.command; verb = verb_of kept.command; key = kept.word }

-- the same of each number that it drew
abbrev pub origins_of : Kept → List Origin
origins_of kept = map (origin_of kept) kept.answer.ids

-- of each kept request, in order of key
abbrev pub origin_rows : State → List Origin
origin_rows s = flat_map origins_of (table.values s.answers)

-- the origin of each row that has one, under its number: of several the last by key
abbrev pub origins_in : State → Table Origin
origins_in s = filled (λ o. o.number ∷ []) (origin_rows s)

-- the origin of a row
abbrev pub origin_at : ℕ → Table Origin → Option Origin
origin_at n origins = table.get origins (n ∷ [])

-- ---- what a row's source is

abbrev pub is_begun_for : ℕ → Source → Bool
is_begun_for n (Begun build) = build == n
is_begun_for n (Received line) = false
is_begun_for n (CutOff item) = false
is_begun_for n Made = false

abbrev pub is_received_for : ℕ → Source → Bool
is_received_for n (Begun build) = false
is_received_for n (Received line) = line == n
is_received_for n (CutOff item) = false
is_received_for n Made = false

abbrev pub is_cut_off : ℕ → Source → Bool
is_cut_off n (Begun build) = false
is_cut_off n (Received line) = false
is_cut_off n (CutOff item) = item == n
is_cut_off n Made = false

-- the rows that were begun for the build, in order of number
abbrev pub begun_for : ℕ → Table Origin → List Origin
begun_for build origins = filter (λ o. is_begun_for build o.source) (table.values origins)

-- the rows that were received for the line of an order, in order of number
abbrev pub received_for : ℕ → Table Origin → List Origin
received_for line origins = filter (λ o. is_received_for line o.source) (table.values origins)

-- the rows that were cut off the item, in order of number
abbrev pub cut_off_it : ℕ → Table Origin → List Origin
cut_off_it item origins = filter (λ o. is_cut_off item o.source) (table.values origins)

-- ---- what an index has

-- the index key of the rows that were begun for the build
abbrev pub begun_key : ℕ → ℕ
begun_key n = index_key_of (fed.isize (pos 0) ++ fed.u64 n)

abbrev pub received_key : ℕ → ℕ
received_key n = index_key_of (fed.isize (pos 1) ++ fed.u64 n)

abbrev pub cut_key : ℕ → ℕ
cut_key n = index_key_of (fed.isize (pos 2) ++ fed.u64 n)

abbrev pub source_keys : Source → List ℕ
source_keys (Begun build) = begun_key build ∷ []
source_keys (Received line) = received_key line ∷ []
source_keys (CutOff item) = cut_key item ∷ []
source_keys Made = []

abbrev pub origin_keys : Origin → List ℕ
origin_keys o = source_keys o.source

-- ---- keys and their days

-- the day with which a key begins, where its first ten bytes are one
unfoldable pub key_day : List ℕ → Option CivilDay
key_day key = day_of (take 10 key)

abbrev pub day_or_empty : Option CivilDay → List ℕ
day_or_empty None = []
day_or_empty (Some day) = day_text day

-- the key of a row's origin, empty where it has none
abbrev pub key_text : Option Origin → List ℕ
key_text None = []
key_text (Some o) = o.key

-- the day of that key
abbrev pub origin_day : Option Origin → Option CivilDay
origin_day None = None
origin_day (Some o) = key_day o.key

-- the same as a text, empty where there is none
abbrev pub key_day_text : Option Origin → List ℕ
key_day_text o = day_or_empty (origin_day o)

-- the word of a row's origin, empty where it has none
abbrev pub verb_text : Option Origin → List ℕ
verb_text None = []
verb_text (Some o) = o.verb
