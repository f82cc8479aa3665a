use Rattle.std.proofs.Common.{◌≡◌, ◌<◌, ℕ, map, get_or, Some}
use Rattle.std.specs.Prelude.{IsSome}
use Rattle.std.specs.Borrow.{Bor}
use Rattle.std.specs.HashMap.{get}
use Rattle.std.specs.List.{Contains}
use Rattle.bom_core.specs.RowTests.{Pair, same_pair}
use Rattle.bom_core.specs.declared.substitute.Substitute.{Substitute}
use Rattle.bom_core.proofs.boms.sound.numbers_of.Given as goal

abbrev pub invariant-loop-row : goal.invariant-loop-row
invariant-loop-row l = record {
  there :
      (k : ℕ) (r : Bor Substitute) → k < l.row-index
      → IsSome (get same_pair l.numbers ((get_or l.substitutes k r).now.line, (get_or l.substitutes k r).now.part));
  found :
      (q : Pair) (n : ℕ) → get same_pair l.numbers q ≡ Some n
      → (s : Substitute) × Contains (map (λ x. x.now) l.substitutes) s × ((s.line, s.part) ≡ q) × (s.number ≡ n);
}
