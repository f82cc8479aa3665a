-- The way of a category or a location: its name behind those of the rows above it, from the top.
use Rattle.std.specs.Prelude.{ℕ, zero, suc, ◌==◌, Bool, List, [], ◌∷◌, ◌++◌, codes, Option, Some, None}
use Rattle.std.specs.FinMap as table
use Rattle.std.specs.List.{list_any}
use Rattle.sheet_core.specs.Sheet.{Table}
use Rattle.part_core.specs.declared.named_row.NamedRow.{NamedRow}

abbrev pub parent_of : Option NamedRow → Option ℕ
parent_of None = None
parent_of (Some row) = row.parent

-- the names above a row, and its own
abbrev pub with_name : List (List ℕ) → Option NamedRow → List (List ℕ)
with_name above None = []
with_name above (Some row) = above ++ row.name ∷ []

-- the names from the top down to the row of that number, by so many steps at most
unfoldable pub names_to : ℕ → Option ℕ → Table NamedRow → List (List ℕ)
names_to zero at rows = []
names_to (suc d) None rows = []
names_to (suc d) (Some n) rows =
    with_name (names_to d (parent_of (table.get rows (n ∷ []))) rows) (table.get rows (n ∷ []))

-- the number of a row, and those of the rows above it, by so many steps at most
unfoldable pub numbers_up : ℕ → Option ℕ → Table NamedRow → List ℕ
numbers_up zero at rows = []
numbers_up (suc d) None rows = []
numbers_up (suc d) (Some n) rows = n ∷ numbers_up d (parent_of (table.get rows (n ∷ []))) rows

-- names with a stroke between two
abbrev pub joined : List (List ℕ) → List ℕ
joined [] = []
joined (n ∷ []) = n
joined (n ∷ m ∷ ms) = n ++ (codes " / " ++ joined (m ∷ ms))

-- a text as the only name, or no name where it is empty
abbrev pub as_names : List ℕ → List (List ℕ)
as_names [] = []
as_names (c ∷ cs) = (c ∷ cs) ∷ []

-- A row names a row with a smaller number as its parent, so as many steps as there are rows lead to the top.

-- the way to a row, empty where there is none
abbrev pub way_text : Option ℕ → Table NamedRow → List ℕ
way_text at rows = joined (names_to (table.len rows) at rows)

-- whether a row is that one, or lies below it
abbrev pub is_under : ℕ → ℕ → Table NamedRow → Bool
is_under top n rows = list_any (λ m. m == top) (numbers_up (table.len rows) (Some n) rows)
