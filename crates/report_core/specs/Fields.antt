-- What stands in the fields of a report.
use Rattle.std.specs.Prelude.{ℕ, List, [], Option, Some, None}
use Rattle.part_core.specs.declared.part.Part.{Part}

-- a text that may be absent: then the field is empty
abbrev pub text_or_empty : Option (List ℕ) → List ℕ
text_or_empty None = []
text_or_empty (Some text) = text

-- the name of a part, empty where there is no such part
abbrev pub name_of : Option Part → List ℕ
name_of None = []
name_of (Some part) = part.name
