use Rattle.std.proofs.Common.{◌≡◌, ◌==◌, ◌<◌, ℕ, false, get_or}
use Rattle.sheet_core.specs.Indexed.{hashed}
use Rattle.sheet_core.proofs.index.has_key.Given as goal

-- none of the keys so far is it
abbrev pub invariant-loop-place : goal.invariant-loop-place
invariant-loop-place g l = (j : ℕ) → j < l.place → (get_or (hashed l.seed g.R.Indexed.index_keys l.row) j 0 == l.key) ≡ false
