-- What lines and substitutes are looked up by in an index.
use Rattle.std.specs.Prelude.{ℕ, List, [], ◌∷◌, ◌++◌, pos}
use Rattle.std.specs.Hash as fed
use Rattle.sheet_core.specs.Indexed.{index_key_of}
use Rattle.bom_core.specs.declared.line.Line.{Line}
use Rattle.bom_core.specs.declared.line.Role.{Role}
use Rattle.bom_core.specs.declared.line.Role.TheVariants.{Assembly, Component}
use Rattle.bom_core.specs.declared.substitute.Substitute.{Substitute}

-- the index key of the lines that name the part in that role
abbrev pub line_key : Role → ℕ → ℕ
line_key Assembly n = index_key_of (fed.isize (pos 0) ++ fed.u64 n)
line_key Component n = index_key_of (fed.isize (pos 1) ++ fed.u64 n)

abbrev pub line_keys : Line → List ℕ
line_keys l = line_key Assembly l.assembly ∷ line_key Component l.component ∷ []

-- the index key of the substitutes on that line
abbrev pub on_line_key : ℕ → ℕ
on_line_key n = index_key_of (fed.isize (pos 0) ++ fed.u64 n)

-- the index key of the substitutes that are that part
abbrev pub of_part_key : ℕ → ℕ
of_part_key n = index_key_of (fed.isize (pos 1) ++ fed.u64 n)

abbrev pub substitute_keys : Substitute → List ℕ
substitute_keys s = on_line_key s.line ∷ of_part_key s.part ∷ []
