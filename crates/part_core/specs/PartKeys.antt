-- What a part is looked up by in an index.
use Rattle.std.specs.Prelude.{ℕ, List, [], ◌∷◌, ◌++◌, Option, Some, None, pos}
use Rattle.std.specs.Hash as fed
use Rattle.sheet_core.specs.Indexed.{index_key_of}
use Rattle.part_core.specs.declared.part.Part.{Part}

-- the index key of what has the name
abbrev pub name_key : List ℕ → ℕ
name_key name = index_key_of (fed.isize (pos 0) ++ fed.str name)

-- the index key of the template's variants
abbrev pub template_key : ℕ → ℕ
template_key n = index_key_of (fed.isize (pos 1) ++ fed.u64 n)

abbrev pub part_keys : Part → List ℕ
part_keys part = name_key part.name ∷ under part.template
  where
    under : Option ℕ → List ℕ
    under None = []
    under (Some n) = template_key n ∷ []
