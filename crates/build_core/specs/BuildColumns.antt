-- A build as a row of a file: id, part, quantity, state, done.
use Rattle.std.specs.Prelude.{ℕ, ◌==◌, List, [], ◌∷◌, Option, Some}
use Rattle.std.specs.List.{find}
use Rattle.sheet_core.specs.declared.column.Column.{Column}
use Rattle.sheet_core.specs.declared.column.Column.TheVariants.{Whole}
use Rattle.sheet_core.specs.Columns.{◌>>=◌, has, number_at}
use Rattle.build_core.specs.declared.build.Build.{Build}
use Rattle.build_core.specs.declared.state.BuildState.{BuildState}
use Rattle.build_core.specs.declared.state.BuildState.TheVariants.{Pending, Production, OnHold, Cancelled, Complete}

-- ---- states

-- the states' numbers, no two of which are the same
abbrev pub state_code : BuildState → ℕ
state_code Pending = 0
state_code Production = 1
state_code OnHold = 2
state_code Cancelled = 3
state_code Complete = 4

abbrev pub all_states : List BuildState
all_states = Pending ∷ Production ∷ OnHold ∷ Cancelled ∷ Complete ∷ []

-- the state of that number, if there is one
abbrev pub state_of : ℕ → Option BuildState
state_of n = find (λ s. state_code s == n) all_states

abbrev pub state_at : ℕ → List Column → Option BuildState
state_at i columns = do
  code ← number_at i columns
  state_of code

-- ---- rows

abbrev pub build_columns : Build → List Column
build_columns row =
    Whole row.number ∷ Whole row.part ∷ Whole row.quantity ∷ Whole (state_code row.state) ∷ Whole row.done ∷ []

abbrev pub build_from : List Column → Option Build
build_from columns = do
  whole ← has 5 columns
  number ← number_at 0 columns
  part ← number_at 1 columns
  quantity ← number_at 2 columns
  state ← state_at 3 columns
  done ← number_at 4 columns
  Some (record { number = number; part = part; quantity = quantity; state = state; done = done })
