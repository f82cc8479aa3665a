-- A part is retired, once and for good.
use Rattle.std.specs.Prelude.{ℕ, true, is_none, List, [], ◌∷◌, Option, Some, None}
use Rattle.std.specs.FinMap as table
use Rattle.part_core.specs.Catalogue.{Parts, is_retired, part_in}
use Rattle.word_core.specs.Checks.{Check}
use Rattle.part_core.specs.declared.part.Part.{Part}
use Rattle.word_core.specs.declared.refusal.Refusal.TheVariants.{NoSuch, Retired}

-- a part, retired
abbrev pub retired_part : Part → Part
retired_part p = record p { retired = true }

-- the catalogue with a part retired
abbrev pub retire_part : ℕ → Parts → Parts
retire_part n s = by_row (part_in n s)
  where
    by_row : Option Part → Parts
    by_row None = s
    by_row (Some p) = record s { parts = table.insert s.parts (n ∷ []) (retired_part p) }

-- why it is refused, in the order of checks
abbrev pub retire_part_checks : ℕ → Parts → List Check
retire_part_checks n s = (is_none (part_in n s), NoSuch) ∷ (is_retired (part_in n s), Retired) ∷ []
