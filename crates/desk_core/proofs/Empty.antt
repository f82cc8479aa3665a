-- A workshop that has nothing yet.
use Rattle.std.proofs.Common.{◌≡◌}
use Rattle.word_core.specs.declared.limits.Limits.{Limits}
use Rattle.desk_core.specs.Machine.{State, start}
use Rattle.desk_core.specs.Empty.{AreLargest, IsEmpty}

pub empty_with : (s : State) (limits : Limits) → s ≡ start limits → AreLargest limits → IsEmpty s
empty_with s limits is large = record { limits = limits; largest = large; state = is }
