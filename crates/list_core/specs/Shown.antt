-- The items and builds that a walk has shown, as two sets of numbers.
use Rattle.std.specs.Prelude.{◌≡◌, ℕ, nat_eq, List}
use Rattle.std.specs.HashSet.{contains}
use Rattle.std.specs.List.{list_any}
use Rattle.list_core.specs.Trace.{is_build_node, is_item_node}
use Rattle.list_core.specs.declared.shown.Shown.{Shown}
use Rattle.list_core.specs.declared.walk.Step.{Step}

-- the sets have those of the steps
pub record AreShown (shown : Shown) (steps : List Step) : Type 0 where
  pub items : (n : ℕ) → contains nat_eq shown.items n ≡ list_any (λ step. is_item_node n step.node) steps
  pub builds : (n : ℕ) → contains nat_eq shown.builds n ≡ list_any (λ step. is_build_node n step.node) steps
