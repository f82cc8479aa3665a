-- Work on a build stops for a while.
use Rattle.std.specs.Prelude.{ℕ, not, List, [], ◌∷◌}
use Rattle.word_core.specs.Checks.{Check}
use Rattle.word_core.specs.declared.refusal.Refusal.TheVariants.{NoSuch, WrongState}
use Rattle.build_core.specs.Builds.{BuildBooks, build_at, is_no_build, may_prepare, set_state}
use Rattle.build_core.specs.declared.state.BuildState.TheVariants.{OnHold}

abbrev pub hold_build : ℕ → BuildBooks → BuildBooks
hold_build n b = set_state OnHold n b

-- why it is refused, in the order of checks
abbrev pub hold_build_checks : ℕ → BuildBooks → List Check
hold_build_checks n b = (is_no_build n b, NoSuch) ∷ (not (may_prepare (build_at n b).state), WrongState) ∷ []
