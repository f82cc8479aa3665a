-- Builds are read back from their columns, and no other columns are read as them.
use Rattle.std.proofs.Common.{◌≡◌, ℕ, List, Some, refl, ap, ◌∙◌}
use Rattle.std.specs.Prelude.{slice_get}
use Rattle.sheet_core.specs.Columns.{has, number_at}
use Rattle.sheet_core.specs.declared.column.Column.{Column}
use Rattle.sheet_core.specs.declared.column.Column.TheVariants.{Whole}
use Rattle.sheet_core.proofs.ColumnLemmas.{bound, code-found, has-is, number_at-is, same_columns}
use Rattle.build_core.specs.BuildColumns.{all_states, build_columns, build_from, state_at, state_code, state_of}
use Rattle.build_core.specs.declared.build.Build.{Build}
use Rattle.build_core.specs.declared.state.BuildState.{BuildState}
use Rattle.build_core.specs.declared.state.BuildState.TheVariants.{Pending, Production, OnHold, Cancelled, Complete}

state_at-is : (i : ℕ) (cs : List Column) (state : BuildState)
    → state_at i cs ≡ Some state → slice_get cs i ≡ Some (Whole (state_code state))
state_at-is i cs state e =
    let code = bound (number_at i cs) state_of state e in
    number_at-is i cs code.0 code.1
    ∙ ap (λ (n : ℕ). Some (Whole n)) (code-found state_code code.0 all_states state code.2)

pub build_told : (cs : List Column) (number part quantity : ℕ) (state : BuildState) (done : ℕ)
    → has 5 cs ≡ Some tt → number_at 0 cs ≡ Some number → number_at 1 cs ≡ Some part → number_at 2 cs ≡ Some quantity
    → state_at 3 cs ≡ Some state → number_at 4 cs ≡ Some done
    → build_columns (record { number = number; part = part; quantity = quantity; state = state; done = done }) ≡ cs
build_told cs number part quantity state done all c0 c1 c2 c3 c4 =
    let one : Build = record { number = number; part = part; quantity = quantity; state = state; done = done } in
    same_columns cs (build_columns one) (has-is 5 cs tt all) (
      number_at-is 0 cs number c0,
      (
        number_at-is 1 cs part c1,
        (
          number_at-is 2 cs quantity c2,
          (state_at-is 3 cs state c3, (number_at-is 4 cs done c4, tt)),
        ),
      ),
    )

state-read : (state : BuildState) → state_of (state_code state) ≡ Some state
state-read Pending = refl
state-read Production = refl
state-read OnHold = refl
state-read Cancelled = refl
state-read Complete = refl

pub build_read : (row : Build) → build_from (build_columns row) ≡ Some row
build_read row = rw (state-read row.state) refl
