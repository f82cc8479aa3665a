-- The numbers of the candidates for a line, as they are found part by part.
use Rattle.std.specs.Prelude.{ℕ, Bool, ◌==◌, ◌&&◌, if◌then◌else◌, List, [], flat_map, map}
use Rattle.std.specs.List.{list_any}
use Rattle.word_core.specs.Status.{is_allocatable}
use Rattle.forest.specs.declared.item.Item.{Item}
use Rattle.forest.specs.Forest.{is_at}
use Rattle.bom_core.specs.Bills.{Bills}
use Rattle.yard_core.specs.Stock.{Stock}
use Rattle.alloc_core.specs.Candidates.{group, substitutes_on}

-- whether the number is one of these
abbrev pub is_among : ℕ → List ℕ → Bool
is_among n ns = list_any (λ m. m == n) ns

-- a loose item, in a status in which stock is allocatable
abbrev pub may_serve : Item → Bool
may_serve x = is_at x.place && is_allocatable x.lot.status

abbrev pub group_numbers : (ℕ → Bool) → Stock → List ℕ
group_numbers is_part s = map (λ x. x.number) (group is_part s)

-- those of one part
abbrev pub part_numbers : ℕ → Stock → List ℕ
part_numbers part s = group_numbers (λ p. p == part) s

-- those of several, part by part
abbrev pub numbers_by_part : List ℕ → Stock → List ℕ
numbers_by_part parts s = flat_map (λ p. part_numbers p s) parts

-- those of the line's substitutes, where these are asked for
abbrev pub substitute_numbers : Bool → ℕ → Bills → Stock → List ℕ
substitute_numbers with_substitutes line bills s =
    if with_substitutes then numbers_by_part (map (λ x. x.part) (substitutes_on line bills)) s else []
