-- The list of all that there is of a part: its flags, its sums, its bill, where it is used, and its items.
use Rattle.std.specs.Prelude.{ℕ, zero, suc, ◌+◌, Bool, if◌then◌else◌, List, [], ◌∷◌, ◌++◌, map, filter, flat_map}
use Rattle.std.specs.Prelude.{decimal, codes, Option, option_map}
use Rattle.part_core.specs.Catalogue.{part_in}
use Rattle.word_core.specs.Flags.{flag_words}
use Rattle.word_core.specs.Status.{status_name}
use Rattle.part_core.specs.declared.part.Part.{Part}
use Rattle.forest.specs.declared.item.Item.{Item}
use Rattle.bom_core.specs.Bills.{effective, part_rows}
use Rattle.bom_core.specs.declared.line.Line.{Line}
use Rattle.bom_core.specs.declared.line.LineFlags.{LineFlags}
use Rattle.bom_core.specs.declared.substitute.Substitute.{Substitute}
use Rattle.yard_core.specs.Sums.{sums_of}
use Rattle.yard_core.specs.declared.sums.Sums.{Sums}
use Rattle.alloc_core.specs.Candidates.{substitutes_on}
use Rattle.desk_core.specs.Machine.{State}
use Rattle.list_core.specs.Amounts.{items_of}
use Rattle.report_core.specs.Fields.{name_of, text_or_empty}
use Rattle.list_core.specs.ItemList.{where_text}
use Rattle.list_core.specs.Origins.{key_text, origin_at, origins_in}
use Rattle.report_core.specs.Lines.{Lines}
use Rattle.list_core.specs.PlaceList.{indented}
use Rattle.report_core.specs.WhereUsed.{uses}

abbrev pub part_header : List (List ℕ)
part_header =
    codes "kind" ∷ codes "number" ∷ codes "part" ∷ codes "name" ∷ codes "quantity" ∷ codes "more"
    ∷ codes "batch" ∷ codes "serial" ∷ codes "key" ∷ []

-- words with a space between two
abbrev pub spaced : List (List ℕ) → List ℕ
spaced [] = []
spaced (w ∷ []) = w
spaced (w ∷ v ∷ vs) = w ++ (codes " " ++ spaced (v ∷ vs))

-- a word, where it holds
abbrev pub word_if : Bool → List ℕ → List (List ℕ)
word_if holds word = if holds then word ∷ [] else []

-- a part, and its flags
abbrev pub part_row : Part → List (List ℕ)
part_row part =
    codes "part"
    ∷ decimal part.number
    ∷ []
    ∷ part.name
    ∷ []
    ∷ spaced (flag_words part.flags ++ word_if part.retired (codes "retired"))
    ∷ []
    ∷ []
    ∷ []
    ∷ []

-- what came in
abbrev pub came : Sums → List ℕ
came sums =
    codes "received " ++ (decimal sums.received
    ++ (codes " + found " ++ (decimal sums.found
    ++ (codes " + built " ++ (decimal sums.built
    ++ (codes " + returned " ++ decimal sums.returned))))))

-- what is present, and what went
abbrev pub went : Sums → List ℕ
went sums =
    codes "present " ++ (decimal sums.present
    ++ (codes " + consumed " ++ (decimal sums.consumed
    ++ (codes " + shipped " ++ (decimal sums.shipped
    ++ (codes " + written off " ++ decimal sums.written))))))

-- what came in is present or went, in one line
abbrev pub equation : Sums → List ℕ
equation sums = came sums ++ (codes " = " ++ went sums)

abbrev pub sums_row : Sums → List (List ℕ)
sums_row sums = codes "sums" ∷ [] ∷ [] ∷ [] ∷ decimal sums.present ∷ equation sums ∷ [] ∷ [] ∷ [] ∷ []

-- what a line of a bill asks for
abbrev pub line_words : LineFlags → List (List ℕ)
line_words flags =
    word_if flags.optional (codes "optional")
    ++ (word_if flags.consumable (codes "consumable")
    ++ (word_if flags.inherited (codes "inherited")
    ++ word_if flags.variants (codes "variants")))

-- a line of a bill: its component, by number and, so deep in the bill, by name, and how many go into one piece
abbrev pub line_row : State → ℕ → Line → List (List ℕ)
line_row s depth line =
    codes "line"
    ∷ decimal line.number
    ∷ decimal line.component
    ∷ indented depth (name_of (part_in line.component s.parts))
    ∷ decimal line.quantity
    ∷ spaced (line_words line.flags)
    ∷ []
    ∷ []
    ∷ []
    ∷ []

-- a part that may go in for it
abbrev pub substitute_row : State → ℕ → Substitute → List (List ℕ)
substitute_row s depth substitute =
    codes "substitute"
    ∷ decimal substitute.number
    ∷ decimal substitute.part
    ∷ indented depth (name_of (part_in substitute.part s.parts))
    ∷ []
    ∷ []
    ∷ []
    ∷ []
    ∷ []
    ∷ []

-- a line with its substitutes, by number
abbrev pub line_rows : State → ℕ → Line → Lines
line_rows s depth line = line_row s depth line ∷ map (substitute_row s depth) (substitutes_on line.number s.bills)

-- the bill of a part, so many levels deep: each line, by number, followed by the bill of its component
unfoldable pub bill_rows : ℕ → State → ℕ → ℕ → Lines
bill_rows zero s depth part = []
bill_rows (suc d) s depth part =
    flat_map (λ l. line_rows s depth l ++ bill_rows d s (depth + 1) l.component) (effective s.parts s.bills part)

-- a part that contains it
abbrev pub used_row : Part → List (List ℕ)
used_row part = codes "used in" ∷ decimal part.number ∷ [] ∷ part.name ∷ [] ∷ [] ∷ [] ∷ [] ∷ [] ∷ []

-- an item of it, where that is, and the key of the request that made it
abbrev pub piece_row : State → Item → List (List ℕ)
piece_row s x =
    codes "item"
    ∷ decimal x.number
    ∷ []
    ∷ status_name x.lot.status
    ∷ decimal x.quantity
    ∷ where_text s x.place
    ∷ text_or_empty x.lot.batch
    ∷ text_or_empty x.lot.serial
    ∷ key_text (origin_at x.number (origins_in s))
    ∷ []

-- the part, its sums, its bill down to 16 levels, the parts that contain it, and its items that aren't gone; none where
-- there is no such part
abbrev pub part_list : ℕ → State → Option Lines
part_list number s = option_map (λ part.
    part_header
    ∷ part_row part
    ∷ sums_row (sums_of number s.stock)
    ∷ (bill_rows 16 s 1 number
    ++ (map used_row (filter (uses s.parts s.bills number) (part_rows s.parts))
    ++ map (piece_row s) (items_of number s))))
    (part_in number s.parts)
