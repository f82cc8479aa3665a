-- Where a part is used: the parts that a walk leads from to it, by number.
use Rattle.std.specs.Prelude.{ℕ, Bool, List, [], ◌∷◌, length, map, filter, decimal, Option, option_map}
use Rattle.part_core.specs.Catalogue.{Parts, part_in}
use Rattle.part_core.specs.declared.part.Part.{Part}
use Rattle.bom_core.specs.Bills.{Bills, part_rows}
use Rattle.bom_core.specs.Walks.{has_walk, numbers_of}
use Rattle.desk_core.specs.Machine.{State}
use Rattle.report_core.specs.Lines.{Lines}

-- whether a walk, of at most as many steps as there are parts, leads from a part to the part of the number
abbrev pub uses : Parts → Bills → ℕ → Part → Bool
uses parts bills number x = has_walk parts bills (length (numbers_of parts)) x.number number

abbrev pub part_line : Part → List (List ℕ)
part_line part = decimal part.number ∷ part.name ∷ []

-- none where there is no such part
abbrev pub where_used_lines : ℕ → State → Option Lines
where_used_lines number s =
    option_map (λ _. map part_line (filter (uses s.parts s.bills number) (part_rows s.parts))) (part_in number s.parts)
