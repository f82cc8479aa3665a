-- What each walk forward and back has: all that its rows lead to.
use Rattle.std.specs.Prelude.{◌≡◌, ℕ, ◌&&◌, not, Bool, true, List, Some}
use Rattle.std.specs.List.{Contains, list_any}
use Rattle.forest.specs.declared.item.Item.{Item}
use Rattle.forest.specs.declared.place.Place.TheVariants as place
use Rattle.desk_core.specs.Machine.{IsSoundState, State, is_build}
use Rattle.list_core.specs.Trace.{is_build_node, is_item, is_item_node, item_in, walk}
use Rattle.list_core.specs.TraceList.{origin_in}
use Rattle.list_core.specs.declared.origins.Origin.{Origin}
use Rattle.list_core.specs.declared.origins.Source.TheVariants as source
use Rattle.list_core.specs.declared.walk.Direction.TheVariants.{Forward, Back}
use Rattle.list_core.specs.declared.walk.Step.{Step}

-- the item has a row of its own
abbrev pub has_item : ℕ → List Step → Bool
has_item n steps = list_any (λ step. is_item_node n step.node && not step.above) steps

-- the build has a row of its own
abbrev pub has_build : ℕ → List Step → Bool
has_build b steps = list_any (λ step. is_build_node b step.node && not step.above) steps

-- where a walk forward from these items has an item, it has what that lies in, the build that used it, and each item that
-- a kept request cut off it; where it has a build, each item that a kept request began for it
pub record IsForwardComplete (s : State) (roots : List ℕ) (steps : List Step) : Type 0 where
  pub starts : (n : ℕ) → Contains roots n → has_item n steps ≡ true
  pub holders : (n m : ℕ) (x : Item) → has_item n steps ≡ true → item_in n s ≡ Some x → x.place ≡ place.In m
      → is_item s m ≡ true → has_item m steps ≡ true
  pub builds : (n b : ℕ) (x : Item) → has_item n steps ≡ true → item_in n s ≡ Some x → x.place ≡ place.Used b
      → is_build s b ≡ true → has_build b steps ≡ true
  pub outputs : (b k : ℕ) (o : Origin) → has_build b steps ≡ true → origin_in k s ≡ Some o
      → o.source ≡ source.Begun b → is_item s k ≡ true → has_item k steps ≡ true
  pub pieces : (n k : ℕ) (x : Item) (o : Origin) → has_item n steps ≡ true → item_in n s ≡ Some x
      → origin_in k s ≡ Some o → o.source ≡ source.CutOff n → is_item s k ≡ true → has_item k steps ≡ true

-- each walk forward
abbrev pub ForwardWalksAreComplete : Type 0
ForwardWalksAreComplete =
    (s : State) (roots : List ℕ) (steps : List Step) → walk Forward s roots ≡ Some steps
    → IsForwardComplete s roots steps

-- where a walk back from these items has an item, it has each that lies in it, the build that it was begun for, and what it
-- was cut off; where it has a build, each item that the build used
pub record IsBackComplete (s : State) (roots : List ℕ) (steps : List Step) : Type 0 where
  pub starts : (n : ℕ) → Contains roots n → has_item n steps ≡ true
  pub inside : (n m : ℕ) (x : Item) → has_item n steps ≡ true → item_in m s ≡ Some x → x.place ≡ place.In n
      → has_item m steps ≡ true
  pub builds : (n b : ℕ) (o : Origin) → has_item n steps ≡ true → origin_in n s ≡ Some o
      → o.source ≡ source.Begun b → is_build s b ≡ true → has_build b steps ≡ true
  pub used : (b m : ℕ) (x : Item) → has_build b steps ≡ true → item_in m s ≡ Some x → x.place ≡ place.Used b
      → has_item m steps ≡ true
  pub cut : (n z : ℕ) (o : Origin) → has_item n steps ≡ true → origin_in n s ≡ Some o
      → o.source ≡ source.CutOff z → is_item s z ≡ true → has_item z steps ≡ true

-- each walk back, in a sound state
abbrev pub BackWalksAreComplete : Type 0
BackWalksAreComplete =
    (s : State) (roots : List ℕ) (steps : List Step) → IsSoundState s → walk Back s roots ≡ Some steps
    → IsBackComplete s roots steps
