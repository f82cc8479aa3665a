-- A walk has all that its nodes lead to.
use Rattle.std.proofs.Common.{◌≡◌, ◌∙◌, ℕ, suc, zero, Bool, true, false, not, ◌||◌, List, [], ◌∷◌, ◌++◌, map}
use Rattle.std.proofs.Common.{Option, Some, None, ap, cond, refl, sym, ◌+◌}
use Rattle.std.specs.Prelude.{◌&&◌}
use Rattle.std.specs.List.{list_any}
use Rattle.std.proofs.lemmas.List.Folds.{list_any-append}
use Rattle.desk_core.specs.Machine.{State}
use Rattle.list_core.specs.Trace.{children, is_shown, step_to, visit_at, visits_after, walk_from}
use Rattle.list_core.specs.declared.walk.Child.{Child}
use Rattle.list_core.specs.declared.walk.Direction.{Direction}
use Rattle.list_core.specs.declared.walk.Node.{Node}
use Rattle.list_core.specs.declared.walk.Step.{Step}
use Rattle.list_core.specs.declared.walk.Visit.{Visit}

-- ---- what a test finds

-- among the steps
abbrev pub shown : (Node → Bool) → List Step → Bool
shown p steps = list_any (λ step. p step.node) steps

-- among the steps that are no repeats
abbrev pub own : (Node → Bool) → List Step → Bool
own p steps = list_any (λ step. p step.node && not step.above) steps

-- among what is to be visited
abbrev pub waits : (Node → Bool) → List Visit → Bool
waits p visits = list_any (λ visit. p visit.node) visits

-- among children
abbrev pub leads : (Node → Bool) → List Child → Bool
leads p found = list_any (λ child. p child.node) found

or_false : (b : Bool) → (b || false) ≡ b
or_false true = refl
or_false false = refl

waits-children : (p : Node → Bool) (depth : ℕ) (found : List Child) → waits p (map (visit_at depth) found) ≡ leads p found
waits-children p depth [] = refl
waits-children p depth (c ∷ cs) = ap (λ b. p c.node || b) (waits-children p depth cs)

shown-push : (p : Node → Bool) (steps : List Step) (step : Step) → shown p (steps ++ step ∷ []) ≡ (shown p steps || p step.node)
shown-push p steps step =
    list_any-append (λ (x : Step). p x.node) steps (step ∷ [])
    ∙ ap (λ b. shown p steps || b) (or_false (p step.node))

own-push : (p : Node → Bool) (steps : List Step) (step : Step)
    → own p (steps ++ step ∷ []) ≡ (own p steps || (p step.node && not step.above))
own-push p steps step =
    list_any-append (λ (x : Step). p x.node && not x.above) steps (step ∷ [])
    ∙ ap (λ b. own p steps || b) (or_false (p step.node && not step.above))

waits-append : (p : Node → Bool) (xs ys : List Visit) → waits p (xs ++ ys) ≡ (waits p xs || waits p ys)
waits-append p xs ys = list_any-append (λ (x : Visit). p x.node) xs ys

-- what was shown or is to be visited is so after the next step
next-shown : (a b w d : Bool) → (a || (b || d)) ≡ true → ((a || b) || (w || d)) ≡ true
next-shown true b w d h = refl
next-shown false true w d h = refl
next-shown false false true d h = refl
next-shown false false false d h = h

or_true : (b : Bool) → (b || true) ≡ true
or_true true = refl
or_true false = refl

module _ (d : Direction) (s : State) where
  -- ---- what is to be visited is shown in the end

  pub ends-shown : (p : Node → Bool) (n : ℕ) (steps : List Step) (visits : List Visit) (all : List Step)
      → walk_from n d s steps visits ≡ Some all → (shown p steps || waits p visits) ≡ true → shown p all ≡ true
  unfolding walk_from
  ends-shown p zero steps [] all e h =
      let same : steps ≡ all = cc in
      ap (shown p) (sym same) ∙ sym (or_false (shown p steps)) ∙ h
  ends-shown p zero steps (v ∷ rest) all e h = cc
  ends-shown p (suc n) steps [] all e h =
      let same : steps ≡ all = cc in
      ap (shown p) (sym same) ∙ sym (or_false (shown p steps)) ∙ h
  ends-shown p (suc n) steps (v ∷ rest) all e h =
      let step = step_to v steps in
      ends-shown p n (steps ++ step ∷ []) (visits_after d s step ++ rest) all e
      (ap (λ b. b || waits p (visits_after d s step ++ rest)) (shown-push p steps step)
      ∙ ap (λ b. (shown p steps || p v.node) || b) (waits-append p (visits_after d s step) rest)
      ∙ next-shown (shown p steps) (p v.node) (waits p (visits_after d s step)) (waits p rest) h)

  -- ---- one node: what passes the test q is this one, and it is shown where the test finds it

  module _ (m : Node) (q : Node → Bool) (only : (v : Node) → q v ≡ true → v ≡ m)
      (seen : (steps : List Step) → is_shown m steps ≡ shown q steps) where
    -- ---- a node that is shown has a row of its own

    own-next : (steps : List Step) (v : Visit) → (shown q steps ≡ true → own q steps ≡ true)
        → shown q (steps ++ step_to v steps ∷ []) ≡ true → own q (steps ++ step_to v steps ∷ []) ≡ true
    own-next steps v before h = own-push q steps (step_to v steps) ∙ go (shown q steps) refl (q v.node) refl
      where
        go : (a : Bool) → shown q steps ≡ a → (b : Bool) → q v.node ≡ b
            → (own q steps || (q v.node && not (is_shown v.node steps))) ≡ true
        go true ea b eb = ap (λ t. t || (q v.node && not (is_shown v.node steps))) (before ea)
        go false ea true eb =
            let new : is_shown v.node steps ≡ false = ap (λ w. is_shown w steps) (only v.node eb) ∙ seen steps ∙ ea in
            ap (λ t. own q steps || (t && not (is_shown v.node steps))) eb
            ∙ ap (λ t. own q steps || not t) new
            ∙ or_true (own q steps)
        go false ea false eb =
            let none : shown q (steps ++ step_to v steps ∷ []) ≡ false =
            shown-push q steps (step_to v steps) ∙ ap (λ t. t || q v.node) ea ∙ eb in
            cc

    pub ends-own : (n : ℕ) (steps : List Step) (visits : List Visit) (all : List Step)
        → walk_from n d s steps visits ≡ Some all → (shown q steps ≡ true → own q steps ≡ true)
        → shown q all ≡ true → own q all ≡ true
    unfolding walk_from
    ends-own zero steps [] all e before h =
        let same : steps ≡ all = cc in
        ap (own q) (sym same) ∙ before (ap (shown q) same ∙ h)
    ends-own zero steps (v ∷ rest) all e before h = cc
    ends-own (suc n) steps [] all e before h =
        let same : steps ≡ all = cc in
        ap (own q) (sym same) ∙ before (ap (shown q) same ∙ h)
    ends-own (suc n) steps (v ∷ rest) all e before h =
        ends-own n (steps ++ step_to v steps ∷ []) (visits_after d s (step_to v steps) ++ rest) all e
        (own-next steps v before) h

    -- ---- what it leads to is shown

    module _ (p : Node → Bool) (child : leads p (children d s m) ≡ true) where
      -- a step to the node for the first time puts its children before the rest
      leads-on : (steps : List Step) (v : Visit) → shown q steps ≡ false → q v.node ≡ true
          → waits p (visits_after d s (step_to v steps)) ≡ true
      leads-on steps v ea eb =
          let new : is_shown v.node steps ≡ false = ap (λ w. is_shown w steps) (only v.node eb) ∙ seen steps ∙ ea in
          first_visits (is_shown v.node steps) new
        where
          first_visits : (b : Bool) → b ≡ false
              → waits p (cond b [] (map (visit_at (v.depth + 1)) (children d s v.node))) ≡ true
          first_visits true f = cc
          first_visits false f =
              waits-children p (v.depth + 1) (children d s v.node)
              ∙ ap (λ w. leads p (children d s w)) (only v.node eb) ∙ child

      goes-on : (steps : List Step) (v : Visit) (rest : List Visit)
          → (shown q steps ≡ true → (shown p steps || waits p (v ∷ rest)) ≡ true)
          → shown q (steps ++ step_to v steps ∷ []) ≡ true
          → (shown p (steps ++ step_to v steps ∷ []) || waits p (visits_after d s (step_to v steps) ++ rest)) ≡ true
      goes-on steps v rest before h =
          ap (λ b. b || waits p (visits_after d s (step_to v steps) ++ rest)) (shown-push p steps (step_to v steps))
          ∙ ap (λ b. (shown p steps || p v.node) || b) (waits-append p (visits_after d s (step_to v steps)) rest)
          ∙ go (shown q steps) refl (q v.node) refl
        where
          go : (a : Bool) → shown q steps ≡ a → (b : Bool) → q v.node ≡ b
              → ((shown p steps || p v.node) || (waits p (visits_after d s (step_to v steps)) || waits p rest)) ≡ true
          go true ea b eb =
              next-shown (shown p steps) (p v.node) (waits p (visits_after d s (step_to v steps))) (waits p rest) (before ea)
          go false ea true eb =
              ap (λ t. (shown p steps || p v.node) || (t || waits p rest)) (leads-on steps v ea eb)
              ∙ or_true (shown p steps || p v.node)
          go false ea false eb =
              let none : shown q (steps ++ step_to v steps ∷ []) ≡ false =
              shown-push q steps (step_to v steps) ∙ ap (λ t. t || q v.node) ea ∙ eb in
              cc

      pub ends-led : (n : ℕ) (steps : List Step) (visits : List Visit) (all : List Step)
          → walk_from n d s steps visits ≡ Some all
          → (shown q steps ≡ true → (shown p steps || waits p visits) ≡ true)
          → shown q all ≡ true → shown p all ≡ true
      unfolding walk_from
      ends-led zero steps [] all e before h =
          let same : steps ≡ all = cc in
          ap (shown p) (sym same) ∙ sym (or_false (shown p steps)) ∙ before (ap (shown q) same ∙ h)
      ends-led zero steps (v ∷ rest) all e before h = cc
      ends-led (suc n) steps [] all e before h =
          let same : steps ≡ all = cc in
          ap (shown p) (sym same) ∙ sym (or_false (shown p steps)) ∙ before (ap (shown q) same ∙ h)
      ends-led (suc n) steps (v ∷ rest) all e before h =
          ends-led n (steps ++ step_to v steps ∷ []) (visits_after d s (step_to v steps) ++ rest) all e
          (goes-on steps v rest before) h

-- a row of its own is a row
pub shown-own : (p : Node → Bool) (steps : List Step) → own p steps ≡ true → shown p steps ≡ true
shown-own p [] h = h
shown-own p (x ∷ xs) h = go (p x.node) refl (shown-own p xs)
  where
    go : (b : Bool) → p x.node ≡ b → (own p xs ≡ true → shown p xs ≡ true) → (p x.node || shown p xs) ≡ true
    go true e rest = ap (λ t. t || shown p xs) e
    go false e rest =
        let left : own p xs ≡ true = ap (λ t. (t && not x.above) || own p xs) (sym e) ∙ h in
        ap (λ t. t || shown p xs) e ∙ rest left
