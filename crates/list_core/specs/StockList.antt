-- The list of what is in stock: a line for each part.
use Rattle.std.specs.Prelude.{ℕ, nat_lt, Bool, true, List, [], ◌∷◌, map, filter, length, sum_by, decimal, codes}
use Rattle.std.specs.Prelude.{Option, Some, None}
use Rattle.part_core.specs.declared.part.Part.{Part}
use Rattle.bom_core.specs.Bills.{part_rows}
use Rattle.desk_core.specs.Machine.{State}
use Rattle.list_core.specs.Amounts.{allocated_of, free_amount, free_of, items_of, present_of}
use Rattle.list_core.specs.Lies.{lies_text}
use Rattle.report_core.specs.Lines.{Lines}
use Rattle.list_core.specs.Ways.{way_text}

abbrev pub stock_header : List (List ℕ)
stock_header =
    codes "number" ∷ codes "name" ∷ codes "category" ∷ codes "present" ∷ codes "free" ∷ codes "allocated"
    ∷ codes "items" ∷ codes "where" ∷ []

-- a part with its category's way, what is present, free and allocated of it, how many items it has, and where they lie
abbrev pub stock_row : State → Part → List (List ℕ)
stock_row s part =
    decimal part.number
    ∷ part.name
    ∷ way_text part.category s.parts.categories
    ∷ decimal (sum_by (present_of s) (items_of part.number s))
    ∷ decimal (sum_by (free_of s) (items_of part.number s))
    ∷ decimal (sum_by (allocated_of s) (items_of part.number s))
    ∷ decimal (length (items_of part.number s))
    ∷ lies_text s part.number
    ∷ []

-- whether so much is less than the amount; where none is given, it is
abbrev pub is_below : Option ℕ → ℕ → Bool
is_below None n = true
is_below (Some amount) n = nat_lt n amount

-- whether less of a part is free than this amount; any part is low where none is given
abbrev pub is_low : Option ℕ → State → Part → Bool
is_low low s part = is_below low (free_amount part.number s)

-- each part, by number; with an amount those of which less is free
abbrev pub stock_list : Option ℕ → State → Lines
stock_list low s = stock_header ∷ map (stock_row s) (filter (is_low low s) (part_rows s.parts))
