-- The list of what has less free than its level: levels are said of parts, and those whose part has enough are left out.
use Rattle.std.specs.Prelude.{ℕ, ◌+◌, ◌-◌, nat_lt, Bool, is_some, if◌then◌else◌, List, [], ◌∷◌, flat_map, decimal, codes}
use Rattle.std.specs.Prelude.{Option, Some, None}
use Rattle.std.specs.List.{list_all}
use Rattle.part_core.specs.Catalogue.{part_in}
use Rattle.part_core.specs.declared.part.Part.{Part}
use Rattle.desk_core.specs.Machine.{State}
use Rattle.list_core.specs.Amounts.{free_amount}
use Rattle.list_core.specs.Coming.{coming_amount}
use Rattle.list_core.specs.Ways.{way_text}
use Rattle.list_core.specs.declared.low_list.Level.{Level}
use Rattle.report_core.specs.Lines.{Lines}

abbrev pub low_header : List (List ℕ)
low_header =
    codes "part" ∷ codes "name" ∷ codes "category" ∷ codes "level" ∷ codes "free" ∷ codes "coming" ∷ codes "buy"
    ∷ []

-- a part with its category's way and its level, what is free of it and what is still to come, and how many have to be bought
-- besides
abbrev pub low_row : State → Level → Part → List (List ℕ)
low_row s level part =
    decimal level.part
    ∷ part.name
    ∷ way_text part.category s.parts.categories
    ∷ decimal level.amount
    ∷ decimal (free_amount level.part s)
    ∷ decimal (coming_amount level.part s)
    ∷ decimal (level.amount - (free_amount level.part s + coming_amount level.part s))
    ∷ []

-- the row of a level whose part is there, if less is free of it; one that has as much as its level has none
abbrev pub rows_below : State → Level → Option Part → Lines
rows_below s level None = []
rows_below s level (Some part) =
    if nat_lt (free_amount level.part s) level.amount then low_row s level part ∷ [] else []

abbrev pub level_rows : State → Level → Lines
level_rows s level = rows_below s level (part_in level.part s.parts)

-- whether the part of a level is there
abbrev pub has_part : State → Level → Bool
has_part s level = is_some (part_in level.part s.parts)

-- a row for each of these levels whose part has less free, in their order; none where the part of any isn't there
abbrev pub low_list : List Level → State → Option Lines
low_list levels s =
    if list_all (has_part s) levels then Some (low_header ∷ flat_map (level_rows s) levels) else None
