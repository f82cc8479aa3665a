use Rattle.std.proofs.Common.{ℕ, ◌<◌, get_or}
use Rattle.std.specs.Borrow.{Bor}
use Rattle.yard_core.specs.SoundLocations.{IsSoundLocation}
use Rattle.yard_core.specs.YardView.{stock_of}
use Rattle.part_core.specs.declared.named_row.NamedRow.{NamedRow as Location}
use Rattle.yard_core.proofs.yard.Yard.is_each_location_sound.Given as goal

abbrev pub invariant-loop-location : goal.invariant-loop-location
invariant-loop-location l =
    (k : ℕ) (r : Bor Location) → k < l.location-index → IsSoundLocation l.next (stock_of l.self) (get_or l.rows k r).now
