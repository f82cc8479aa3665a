-- What passes its checks leaves the locations sound.
use Rattle.std.proofs.Common.{◌≡◌, ◌≤◌, ◌<◌, ◌+◌, ℕ, [], ◌∷◌, List, Option, None, refl, arith}
use Rattle.std.specs.FinMap as table
use Rattle.word_core.specs.Checks.{first}
use Rattle.part_core.specs.NamedRows.{HasParent}
use Rattle.word_core.proofs.CheckLemmas.{none-holds}
use Rattle.part_core.proofs.NamedRows.{parents-new}
use Rattle.sheet_core.proofs.RowLemmas.{right-empty, right-later, right-new}
use Rattle.sheet_core.proofs.RowLemmas.{there, each-empty}
use Rattle.part_core.proofs.SoundRows.{named_there}
use Rattle.yard_core.specs.AddLocation.{add_location, add_location_checks}
use Rattle.yard_core.specs.StockBooks.{StockBooks}
use Rattle.yard_core.specs.SoundLocations.{AreSoundLocations}
use Rattle.yard_core.specs.Stock.{Stock, empty_stock, has_location}
use Rattle.yard_core.specs.YardMachine.{checks, effect}
use Rattle.part_core.specs.declared.named_row.NamedRow.{NamedRow as Location}
use Rattle.word_core.specs.declared.refusal.Refusal.TheVariants.{NoSuch}
use Rattle.yard_core.specs.declared.yard_command.YardCommand.{YardCommand}
use Rattle.yard_core.specs.declared.yard_command.YardCommand.TheVariants.{AddLocation}

-- other tables, and more numbers drawn
pub locations-later : (next more : ℕ) (s t : Stock) → t.locations ≡ s.locations → next ≤ more → AreSoundLocations next s
    → AreSoundLocations more t
locations-later next more s t same le sound = rw same (record {
  some = omega (arith, sound.some, le);
  rows = right-later (λ (l : Location). l.number) next more s.locations le sound.rows;
  parents = sound.parents;
})

pub locations-nothing : (next : ℕ) → 1 ≤ next → AreSoundLocations next empty_stock
locations-nothing next some = record {
  some = some;
  rows = right-empty (λ (l : Location). l.number) next;
  parents = each-empty (HasParent table.empty);
}

module _ (name : List ℕ) (parent : Option ℕ) (b : StockBooks) (sound : AreSoundLocations b.counter.next b.stock) where
  abbrev row : Location
  row = record { number = b.counter.next; name = name; parent = parent }

  pub sound-add_location : first (add_location_checks name parent b) ≡ None
      → AreSoundLocations (b.counter.next + 1) (add_location name parent b).stock
  sound-add_location e = record {
    some = omega arith;
    rows = right-new (λ (l : Location). l.number) b.counter.next row b.stock.locations refl sound.some sound.rows;
    parents = parents-new b.counter.next name parent b.stock.locations sound.rows
        (λ n is. let x =
        named_there parent (λ m. has_location m b.stock) n is (none-holds (add_location_checks name parent b) e NoSuch) in
        there b.stock.locations n x.0 x.1)
        sound.parents;
  }

pub sound-effect : (c : YardCommand) (b : StockBooks) → AreSoundLocations b.counter.next b.stock
    → first (checks c b) ≡ None
    → AreSoundLocations (effect c b).counter.next (effect c b).stock × (b.counter.next ≤ (effect c b).counter.next)
sound-effect (AddLocation name parent) b sound e = (sound-add_location name parent b sound e, omega arith)

-- no command of the yard itself writes an entry
pub effect-history : (c : YardCommand) (b : StockBooks) → (effect c b).stock.history ≡ b.stock.history
effect-history (AddLocation name parent) b = refl
