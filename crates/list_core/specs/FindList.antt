-- The list of what a word finds.
use Rattle.std.specs.Prelude.{ℕ, nat_eq, ◌||◌, Bool, false, List, [], ◌∷◌, ◌++◌, map, filter, decimal, codes}
use Rattle.std.specs.Prelude.{Option, Some, None}
use Rattle.std.specs.FinMap as table
use Rattle.std.specs.List.{starts_with}
use Rattle.std.specs.Str.{bytes_eq}
use Rattle.part_core.specs.Catalogue.{part_in}
use Rattle.part_core.specs.declared.named_row.NamedRow.{NamedRow}
use Rattle.part_core.specs.declared.part.Part.{Part}
use Rattle.forest.specs.declared.item.Item.{Item}
use Rattle.bom_core.specs.Bills.{part_rows}
use Rattle.desk_core.specs.declared.kept.Kept.{Kept}
use Rattle.desk_core.specs.Machine.{State}
use Rattle.report_core.specs.Fields.{name_of}
use Rattle.report_core.specs.Lines.{Lines}
use Rattle.list_core.specs.Folds.{case_fold}
use Rattle.list_core.specs.ItemList.{where_text}
use Rattle.list_core.specs.Ways.{way_text}

-- whether a text begins with the word
abbrev pub begins_with : List ℕ → List ℕ → Bool
begins_with word text = starts_with nat_eq text word

-- whether a text has the word in it
abbrev pub has_word : List ℕ → List ℕ → Bool
has_word word [] = begins_with word []
has_word word (c ∷ cs) = begins_with word (c ∷ cs) || has_word word cs

-- Below a word is in folded case.

-- whether the word stands in a name or a key, letters of either case being alike
abbrev pub is_in : List ℕ → List ℕ → Bool
is_in word text = has_word word (case_fold text)

-- whether there is a serial, and the word is its front
abbrev pub is_front : List ℕ → Option (List ℕ) → Bool
is_front word None = false
is_front word (Some text) = begins_with word (case_fold text)

-- whether there is a batch, and it is the word
abbrev pub is_word : List ℕ → Option (List ℕ) → Bool
is_word word None = false
is_word word (Some text) = bytes_eq (case_fold text) word

-- whether the word is the front of an item's serial, or its batch
abbrev pub is_lot : List ℕ → Item → Bool
is_lot word x = is_front word x.lot.serial || is_word word x.lot.batch

abbrev pub find_header : List (List ℕ)
find_header = codes "kind" ∷ codes "number" ∷ codes "name" ∷ codes "where" ∷ []

-- a part, and the way of its category
abbrev pub found_part : State → Part → List (List ℕ)
found_part s part =
    codes "part" ∷ decimal part.number ∷ part.name ∷ way_text part.category s.parts.categories ∷ []

-- a location, and its way
abbrev pub found_location : State → NamedRow → List (List ℕ)
found_location s location =
    codes "location" ∷ decimal location.number ∷ location.name ∷ way_text (Some location.number) s.stock.locations ∷ []

-- an item, its part's name, and where it is
abbrev pub found_item : State → Item → List (List ℕ)
found_item s x = codes "item" ∷ decimal x.number ∷ name_of (part_in x.part s.parts) ∷ where_text s x.place ∷ []

-- the number of the first row that a request made, if it made one
abbrev pub first_number : List ℕ → List ℕ
first_number [] = []
first_number (n ∷ ns) = decimal n

-- a key, and the first row that its request made
abbrev pub found_key : Kept → List (List ℕ)
found_key kept = codes "key" ∷ first_number kept.answer.ids ∷ kept.word ∷ [] ∷ []

-- parts and locations in whose names the word stands, items whose serial begins with it or whose batch it is, and keys in
-- which it stands
abbrev pub found_lines : List ℕ → State → Lines
found_lines word s =
    find_header
    ∷ (map (found_part s) (filter (λ p. is_in word p.name) (part_rows s.parts))
    ++ (map (found_location s) (filter (λ l. is_in word l.name) (table.values s.stock.locations))
    ++ (map (found_item s) (filter (is_lot word) (table.values s.stock.items))
    ++ map found_key (filter (λ k. is_in word k.word) (table.values s.answers)))))

-- the same of a word in whatever case
abbrev pub find_list : List ℕ → State → Lines
find_list word s = found_lines (case_fold word) s
