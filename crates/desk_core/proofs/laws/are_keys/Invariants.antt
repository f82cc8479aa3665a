use Rattle.std.proofs.Common.{◌≡◌, ℕ, ◌<◌, get_or, true}
use Rattle.desk_core.specs.Key.{is_key}
use Rattle.desk_core.specs.declared.kept.Kept.{Kept}
use Rattle.desk_core.proofs.laws.are_keys.Given as goal

abbrev pub invariant-loop-row : goal.invariant-loop-row
invariant-loop-row l = (k : ℕ) (d : Kept) → k < l.row-index → is_key (get_or l.rows k d).word ≡ true
