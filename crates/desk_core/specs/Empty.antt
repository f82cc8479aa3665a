-- A workshop that has nothing yet.
use Rattle.std.specs.Prelude.{◌≡◌}
use Rattle.word_core.specs.declared.limits.Limits.{Limits}
use Rattle.desk_core.specs.Machine.{State, start}

-- the limits are the largest that there may be
abbrev pub AreLargest : Limits → Type 0
AreLargest limits = (limits.numbers ≡ 10000000000) × (limits.entries ≡ 10000000000)

-- the state has nothing, with the largest limits
pub record IsEmpty (s : State) : Type 0 where
  pub limits : Limits
  pub largest : AreLargest limits
  pub state : s ≡ start limits
