-- The history in words: the entries of some days, on all items, or on those of a part, on an item, or of an order.
use Rattle.std.specs.Prelude.{ℕ, ◌==◌, ◌&&◌, ◌||◌, Bool, true, false, is_some, List, [], ◌∷◌, ◌++◌, map, filter, decimal}
use Rattle.std.specs.Prelude.{codes, Option, Some, None, option_map, if◌then◌else◌}
use Rattle.std.specs.Cmp.Lexicographic.{slice_cmp}
use Rattle.std.specs.FinMap as table
use Rattle.std.specs.Ordering.{nat_cmp}
use Rattle.std.specs.declared.cmp.Ordering.{Ordering}
use Rattle.std.specs.declared.cmp.Ordering.TheVariants.{Less, Equal, Greater}
use Rattle.part_core.specs.Catalogue.{part_in}
use Rattle.word_core.specs.Day.{CivilDay, day_text}
use Rattle.sheet_core.specs.Sheet.{Table}
use Rattle.forest.specs.declared.entry.Entry.{Entry}
use Rattle.forest.specs.declared.item.Item.{Item}
use Rattle.forest.specs.declared.place.Place.{Place}
use Rattle.forest.specs.declared.place.Place.TheVariants.{In, Output, Used}
use Rattle.yard_core.specs.EntryLines.{kind_name}
use Rattle.order_core.specs.declared.order.Order.{Order}
use Rattle.build_core.specs.declared.build.Build.{Build}
use Rattle.desk_core.specs.Machine.{State}
use Rattle.report_core.specs.Fields.{name_of, text_or_empty}
use Rattle.report_core.specs.Lines.{Lines}
use Rattle.list_core.specs.Origins.{key_text, origin_at, origins_in}
use Rattle.list_core.specs.Past.{is_number, order_of}
use Rattle.list_core.specs.Trace.{build_at, item_in}
use Rattle.list_core.specs.TraceList.{trace_where}
use Rattle.list_core.specs.declared.history_list.Days.{Days}
use Rattle.list_core.specs.declared.origins.Origin.{Origin}

-- ---- which entries are listed

abbrev pub is_not_greater : Ordering → Bool
is_not_greater Less = true
is_not_greater Equal = true
is_not_greater Greater = false

-- a day isn't after another: their texts, `YYYY-MM-DD`, stand in that order
abbrev pub is_until : List ℕ → List ℕ → Bool
is_until day other = is_not_greater (slice_cmp nat_cmp day other)

-- the day isn't before the first, where one is given
abbrev pub is_from : Option (List ℕ) → List ℕ → Bool
is_from None day = true
is_from (Some first) day = is_until first day

-- the day isn't after the last, where one is given
abbrev pub is_to : Option (List ℕ) → List ℕ → Bool
is_to None day = true
is_to (Some last) day = is_until day last

-- some days, by the texts of the first and of the last, where they are given
pub record Span : Type 0 where
  pub first : Option (List ℕ)
  pub last : Option (List ℕ)

abbrev pub span_of : Days → Span
span_of days =
    record {
      first = option_map (λ t. t.now) days.first;
      last = option_map (λ t. t.now) days.last;
    }

abbrev pub is_within : Span → CivilDay → Bool
is_within days day = is_from days.first (day_text day) && is_to days.last (day_text day)

-- the entry is on an item of the part of that number, or on the item of that number, or by it something of the order of
-- that number was delivered or sent; each entry is, where no number is given
abbrev pub is_of : Option ℕ → State → Table Origin → Entry → Bool
is_of None s origins e = true
is_of (Some n) s origins e = e.note.part == n || (e.note.item == n || is_number n (order_of s origins e))

abbrev pub is_listed : Option ℕ → Span → State → Table Origin → Entry → Bool
is_listed of days s origins e = is_within days e.day && is_of of s origins e

-- ---- what is told of one

-- an item by its number, its part's name, and its serial, where it has one
abbrev pub serial_words : Option (List ℕ) → List ℕ
serial_words None = []
serial_words (Some serial) = codes " " ++ serial

abbrev pub item_words : State → ℕ → Option Item → List ℕ
item_words s n None = decimal n
item_words s n (Some x) = decimal n ++ (codes " " ++ (name_of (part_in x.part s.parts) ++ serial_words x.lot.serial))

-- a build by its number, and the name of what it makes
abbrev pub build_words : State → ℕ → Option Build → List ℕ
build_words s n None = decimal n
build_words s n (Some build) = decimal n ++ (codes " of " ++ name_of (part_in build.part s.parts))

-- a place in words: the item that holds it, the build, the way of the location, or the order with its partner
abbrev pub place_words : State → Place → List ℕ
place_words s (In n) = codes "in " ++ item_words s n (item_in n s)
place_words s (Output n) = codes "output " ++ build_words s n (build_at n s)
place_words s (Used n) = codes "used " ++ build_words s n (build_at n s)
place_words s place = trace_where s place

abbrev pub batch_of : Option Item → List ℕ
batch_of None = []
batch_of (Some x) = text_or_empty x.lot.batch

abbrev pub serial_of : Option Item → List ℕ
serial_of None = []
serial_of (Some x) = text_or_empty x.lot.serial

abbrev pub number_or_empty : Option ℕ → List ℕ
number_or_empty None = []
number_or_empty (Some n) = decimal n

abbrev pub partner_in : Option Order → List ℕ
partner_in None = []
partner_in (Some order) = order.partner

-- the partner of an order, and the key of the request that made it
abbrev pub partner_of : State → Option ℕ → List ℕ
partner_of s None = []
partner_of s (Some n) = partner_in (table.get s.orders (n ∷ []))

abbrev pub order_key : Table Origin → Option ℕ → List ℕ
order_key origins None = []
order_key origins (Some n) = key_text (origin_at n origins)

abbrev pub history_header : List (List ℕ)
history_header =
    codes "entry" ∷ codes "day" ∷ codes "what" ∷ codes "quantity" ∷ codes "part" ∷ codes "item" ∷ codes "batch"
    ∷ codes "serial" ∷ codes "where" ∷ codes "order" ∷ codes "partner" ∷ codes "order key" ∷ codes "key" ∷ []

-- what was done, of how many of which part; the item with its batch and serial as it is now; where it then was; the order
-- by which it came or went, with its partner and the key of the request that made it; and that of the item's own
abbrev pub history_row : State → Table Origin → Entry → List (List ℕ)
history_row s origins e =
    decimal e.number
    ∷ day_text e.day
    ∷ kind_name e.note.kind
    ∷ decimal e.note.quantity
    ∷ name_of (part_in e.note.part s.parts)
    ∷ decimal e.note.item
    ∷ batch_of (item_in e.note.item s)
    ∷ serial_of (item_in e.note.item s)
    ∷ place_words s e.note.place
    ∷ number_or_empty (order_of s origins e)
    ∷ partner_of s (order_of s origins e)
    ∷ order_key origins (order_of s origins e)
    ∷ key_text (origin_at e.note.item origins)
    ∷ []

-- ---- the list

-- the header, and the rows of those of the entries that are listed
abbrev pub history_rows : Option ℕ → Span → State → Table Origin → List Entry → Lines
history_rows of days s origins entries =
    history_header ∷ map (history_row s origins) (filter (is_listed of days s origins) entries)

abbrev pub is_row : ℕ → State → Bool
is_row n s =
    is_some (part_in n s.parts) || (is_some (item_in n s) || is_some (table.get s.orders (n ∷ [])))

-- the number of a part, an item or an order that is there, or none at all
abbrev pub has_history : Option ℕ → State → Bool
has_history None s = true
has_history (Some n) s = is_row n s

-- in the order of the history; none where a number is given and no part, item or order has it
abbrev pub history_list : Option ℕ → Span → State → Option Lines
history_list of days s =
    if has_history of s then Some (history_rows of days s (origins_in s) (table.values s.stock.history)) else None
