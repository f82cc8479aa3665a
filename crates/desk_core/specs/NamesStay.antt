-- What a clerk's names go on meaning: a script that names rows asks for the same rows when it is sent again.
use Rattle.std.specs.Prelude.{◌≡◌, ℕ, false, List, [], ◌∷◌, Option, Some}
use Rattle.std.specs.FinMap as table
use Rattle.part_core.specs.declared.found.Found.TheVariants.{One}
use Rattle.forest.specs.declared.item.Item.{Item}
use Rattle.yard_core.specs.Stock.{is_gone}
use Rattle.desk_core.specs.Machine.{State, IsSoundState, run, step}
use Rattle.desk_core.specs.Naming.{Naming, naming_in}
use Rattle.desk_core.specs.declared.command.Request.{Request}

-- what is one row's name, or the key of the request that made it alone, is still so. Nothing is said of items: where one
-- is gone, another may be made with its serial
pub record AreNamedAlike (old new : Naming) : Type 0 where
  pub parts : (name : List ℕ) (n : ℕ) → old.part name ≡ One n → new.part name ≡ One n
  pub categories : (parent : Option ℕ) (name : List ℕ) (n : ℕ) → old.category parent name ≡ One n
      → new.category parent name ≡ One n
  pub locations : (parent : Option ℕ) (name : List ℕ) (n : ℕ) → old.location parent name ≡ One n
      → new.location parent name ≡ One n
  pub made : (key : List ℕ) (n : ℕ) → old.made key ≡ One n → new.made key ≡ One n

-- so it is after a step, whatever is asked for
abbrev pub NamesStay : Type 0
NamesStay = (s : State) (r : Request) → IsSoundState s → AreNamedAlike (naming_in s) (naming_in (step s r).0)

-- and after a list of requests
abbrev pub NamesStayInRuns : Type 0
NamesStayInRuns = (s : State) (rs : List Request) → IsSoundState s → AreNamedAlike (naming_in s) (naming_in (run s rs).0)

-- an item that isn't gone is what its part and its serial name
abbrev pub LeftItemsAreNamed : Type 0
LeftItemsAreNamed =
    (s : State) → IsSoundState s → (n : ℕ) (item : Item) (serial : List ℕ) → table.get s.stock.items (n ∷ []) ≡ Some item
    → is_gone item.place ≡ false → item.lot.serial ≡ Some serial → (naming_in s).item item.part serial ≡ One n
