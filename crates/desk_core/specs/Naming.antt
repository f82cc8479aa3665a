-- Rows by what a clerk calls them.
use Rattle.std.specs.Prelude.{ℕ, List, [], ◌∷◌, Option, Some, None}
use Rattle.std.specs.FinMap as table
use Rattle.part_core.specs.declared.found.Found.{Found}
use Rattle.part_core.specs.declared.found.Found.TheVariants.{Nothing, One, Several}
use Rattle.part_core.specs.Names.{child_named, part_named}
use Rattle.yard_core.specs.ItemNames.{item_named}
use Rattle.desk_core.specs.declared.kept.Kept.{Kept}
use Rattle.desk_core.specs.Machine.{State}

-- what each name is found to be
pub record Naming : Type 0 where
  -- the part of a name
  pub part : List ℕ → Found
  -- the category, and the location, of a name under a parent or at the top
  pub category : Option ℕ → List ℕ → Found
  pub location : Option ℕ → List ℕ → Found
  -- the newest item of a part with a serial, of those that aren't gone where there is one
  pub item : ℕ → List ℕ → Found
  -- the one row that the request of a key made
  pub made : List ℕ → Found

-- the one number of these
abbrev pub the_number : List ℕ → Found
the_number [] = Nothing
the_number (n ∷ []) = One n
the_number (n ∷ m ∷ ns) = Several

abbrev pub made_by : Option Kept → Found
made_by None = Nothing
made_by (Some kept) = the_number kept.answer.ids

-- by the rows of a state
abbrev pub naming_in : State → Naming
naming_in s = record {
  part = λ name. part_named name s.parts;
  category = λ parent name. child_named parent name s.parts.categories;
  location = λ parent name. child_named parent name s.stock.locations;
  item = λ part serial. item_named part serial s.stock;
  made = λ key. made_by (table.get s.answers key);
}
