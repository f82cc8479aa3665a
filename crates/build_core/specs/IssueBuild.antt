-- Work on a build begins, or goes on.
use Rattle.std.specs.Prelude.{ℕ, not, List, [], ◌∷◌}
use Rattle.word_core.specs.Checks.{Check}
use Rattle.word_core.specs.declared.refusal.Refusal.TheVariants.{NoSuch, WrongState}
use Rattle.build_core.specs.Builds.{BuildBooks, build_at, is_no_build, may_start, set_state}
use Rattle.build_core.specs.declared.state.BuildState.TheVariants.{Production}

abbrev pub issue_build : ℕ → BuildBooks → BuildBooks
issue_build n b = set_state Production n b

-- why it is refused, in the order of checks
abbrev pub issue_build_checks : ℕ → BuildBooks → List Check
issue_build_checks n b = (is_no_build n b, NoSuch) ∷ (not (may_start (build_at n b).state), WrongState) ∷ []
