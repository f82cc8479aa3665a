-- Names that nearly collide: a new name, and one beside it that is the same but for case, blanks and punctuation.
use Rattle.std.specs.Prelude.{◌≡◌, ◌⊎◌, ℕ, Bool, true, false, not, ◌&&◌, List, [], ◌∷◌, ◌++◌, codes}
use Rattle.std.specs.Prelude.{Option, Some, None, option_map, if◌then◌else◌}
use Rattle.std.specs.FinMap as table
use Rattle.std.specs.Str.{bytes_eq}
use Rattle.part_core.specs.Catalogue.{Parts, category_in, part_in}
use Rattle.word_core.specs.Numbered.{is_same_number}
use Rattle.part_core.specs.declared.named_row.NamedRow.{NamedRow}
use Rattle.part_core.specs.declared.part_command.PartCommand.{PartCommand}
use Rattle.part_core.specs.declared.part_command.PartCommand.TheVariants.{AddCategory, AddPart}
use Rattle.yard_core.specs.Stock.{Stock}
use Rattle.yard_core.specs.declared.yard_command.YardCommand.{YardCommand}
use Rattle.yard_core.specs.declared.yard_command.YardCommand.TheVariants.{AddLocation}
use Rattle.desk_core.specs.Machine.{State}
use Rattle.desk_core.specs.declared.command.Command.{Command}
use Rattle.desk_core.specs.declared.command.Command.TheVariants.{Part, Yard}
use Rattle.list_core.specs.Folds.{fold, is_blank, shown}
use Rattle.list_core.specs.declared.near_names.Shelf.{Shelf}
use Rattle.list_core.specs.declared.near_names.Shelf.TheVariants as shelf

-- ---- what stands beside what

-- the row's name, where it is under this parent
abbrev pub child_name : Option ℕ → Option NamedRow → Option (List ℕ)
child_name parent None = None
child_name parent (Some row) = if is_same_number row.parent parent then Some row.name else None

-- the name of the row of that number beside which a new one would stand: of a part, beside any; of a category or a
-- location, beside those under the same parent
abbrev pub name_on : Parts → Stock → Shelf → ℕ → Option (List ℕ)
name_on parts stock shelf.Parts n = option_map (λ p. p.name) (part_in n parts)
name_on parts stock (shelf.Categories parent) n = child_name parent (category_in n parts)
name_on parts stock (shelf.Locations parent) n = child_name parent (table.get stock.locations (n ∷ []))

-- another name of which the same counts
abbrev pub is_near : List ℕ → List ℕ → Bool
is_near name other = not (bytes_eq other name) && bytes_eq (fold other) (fold name)

-- a row beside has that name, and it is near this one
abbrev pub StandsNear : Parts → Stock → Shelf → List ℕ → List ℕ → Type 0
StandsNear parts stock shelf name other =
    (n : ℕ) × (name_on parts stock shelf n ≡ Some other) × (is_near name other ≡ true)

-- ---- what a person is told

abbrev pub part_name : PartCommand → Option (Shelf × List ℕ)
part_name (AddCategory name parent) = Some (shelf.Categories parent, name)
part_name (AddPart new) = Some (shelf.Parts, new.name)
part_name _ = None

abbrev pub location_name : YardCommand → Option (Shelf × List ℕ)
location_name (AddLocation name parent) = Some (shelf.Locations parent, name)

-- the name that a command gives, and where it stands
abbrev pub new_name : Command → Option (Shelf × List ℕ)
new_name (Part command) = part_name command
new_name (Yard command) = location_name command
new_name _ = None

-- a name in quotes
abbrev pub quoted : List ℕ → List ℕ
quoted name = 34 ∷ (shown name ++ (34 ∷ []))

abbrev pub blank_text : List ℕ → List ℕ
blank_text name = codes "the name " ++ (quoted name ++ codes " is blank")

abbrev pub beside_text : List ℕ → List ℕ → List ℕ
beside_text name other = quoted name ++ (codes " is new beside " ++ quoted other)

-- of a name of which nothing is seen, that; of another, a near one beside it or nothing
abbrev pub IsNoteOf : State → Option (Shelf × List ℕ) → Option (List ℕ) → Type 0
IsNoteOf s None None = Unit {0}
IsNoteOf s None (Some text) = ⊥
IsNoteOf s (Some new) None = is_blank new.1 ≡ false
IsNoteOf s (Some new) (Some text) =
    ((is_blank new.1 ≡ true) × (text ≡ blank_text new.1))
    ⊎ ((is_blank new.1 ≡ false) × ((other : List ℕ) × StandsNear s.parts s.stock new.0 new.1 other
    × (text ≡ beside_text new.1 other)))

-- what is told of a command's new name, in these books
abbrev pub IsNote : State → Command → Option (List ℕ) → Type 0
IsNote s command note = IsNoteOf s (new_name command) note
