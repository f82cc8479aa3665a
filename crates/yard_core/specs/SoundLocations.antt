-- What always holds of the locations.
use Rattle.std.specs.Prelude.{◌<◌, ◌≤◌, ℕ}
use Rattle.part_core.specs.NamedRows.{HasParent}
use Rattle.sheet_core.specs.Rows.{EachRow, StandRight}
use Rattle.yard_core.specs.Stock.{Stock}
use Rattle.part_core.specs.declared.named_row.NamedRow.{NamedRow as Location}

-- the numbers below the next are drawn
pub record AreSoundLocations (next : ℕ) (s : Stock) : Type 0 where
  pub some : 1 ≤ next
  pub rows : StandRight (λ l. l.number) next s.locations
  pub parents : EachRow (HasParent s.locations) s.locations

-- what holds of each location, besides that it stands under its own number
pub record IsSoundLocation (next : ℕ) (s : Stock) (l : Location) : Type 0 where
  pub some : 1 ≤ l.number
  pub drawn : l.number < next
  pub parent : HasParent s.locations l
