-- The places of the slots with a noted change.
use Rattle.std.proofs.Common.{◌≡◌, ◌≢◌, ◌⊎◌, inl, inr, ℕ, suc, zero, true, false, cond}
use Rattle.std.proofs.Common.{◌+◌, ◌-◌, ◌<◌, ◌≤◌, List, [], ◌∷◌, ◌++◌, take, length}
use Rattle.std.proofs.Common.{Some, set, get_or, refl, sym, ap, ◌∙◌, subst, arith}
use Rattle.std.specs.Prelude.{slice_get, nat_eq}
use Rattle.std.proofs.lemmas.Bool.{eqb-true, eq-eqb}
use Rattle.std.proofs.lemmas.List.{get_or_append_left}
use Rattle.std.proofs.Math.Seq.{get_or-append_seam}
use Rattle.std.proofs.lemmas.List.Sums.{sum_by_push, sum_by-cons}
use Rattle.std.specs.List.Sorted.{IsNonDecreasing, IsPermutation}
use Rattle.std.proofs.lemmas.List.Sorted.{sum_by-IsPermutation}
use Rattle.sheet_core.specs.declared.slots.Held.{Held}
use Rattle.sheet_core.specs.declared.slots.Held.TheVariants.{Settled, Added, Rewritten, Removed, Gone}
use Rattle.sheet_core.specs.Slots.{is_changed, noted, times, row_before, now_row, rows_by}
use Rattle.sheet_core.specs.Sheet.{IsDistinct}
use Rattle.sheet_core.specs.Slots.{with_row, noted_at, ArePlaces, AreSlots, NoneFrom, IsUnnoted}

-- two numbers are the same or not
pub same_or_other : (a b : ℕ) → (a ≡ b) ⊎ (a ≢ b)
same_or_other a b = elim (nat_eq a b) as (λ c. nat_eq a b ≡ c → (a ≡ b) ⊎ (a ≢ b)) [
  | true ↦ λ p. inl (eqb-true a b p)
  | false ↦ λ p. inr (λ e. let q : nat_eq a b ≡ true = eq-eqb a b e in cc)
] refl

one_same : (i j : ℕ) → i ≡ j → ◌≡◌ {A = ℕ} (cond (nat_eq j i) 1 0) 1
one_same i j e = ap {B = ℕ} (λ b. cond b 1 0) (eq-eqb j i (sym e))

one_other : (i j : ℕ) → j ≢ i → ◌≡◌ {A = ℕ} (cond (nat_eq j i) 1 0) 0
one_other i j other = elim (nat_eq j i) as (λ b. nat_eq j i ≡ b → ◌≡◌ {A = ℕ} (cond b 1 0) 0) [
  | true ↦ λ p. absurd (other (eqb-true j i p))
  | false ↦ λ p. refl
] refl

pub times-push_same : (is : List ℕ) (i : ℕ) → times i (is ++ i ∷ []) ≡ times i is + 1
times-push_same is i = sum_by_push (λ n. cond (nat_eq i n) 1 0) is i ∙ ap (λ n. times i is + n) (one_same i i refl)

pub times-push_other : (is : List ℕ) (i j : ℕ) → j ≢ i → times j (is ++ i ∷ []) ≡ times j is
times-push_other is i j other =
    let step = sum_by_push (λ n. cond (nat_eq j n) 1 0) is i in
    let none = one_other i j other in
    step ∙ ap (λ n. times j is + n) none ∙ plus_none (times j is)
  where
    plus_none : (n : ℕ) → n + 0 ≡ n
    plus_none n = omega arith

-- a number above all is not listed
times-above : (is : List ℕ) (j : ℕ) → ((n d : ℕ) → n < length is → get_or is n d < j) → times j is ≡ 0
times-above [] j low = refl
times-above (i ∷ is) j low =
    let first : i < j = low 0 0 (omega arith) in
    let rest = times-above is j (λ n d within. low (suc n) d (omega arith)) in
    sum_by-cons (λ n. cond (nat_eq j n) 1 0) i is
    ∙ ap (λ n. n + times j is) (one_other i j (λ e. absurd (omega arith)))
    ∙ none_plus (times j is)
    ∙ rest
  where
    none_plus : (n : ℕ) → 0 + n ≡ n
    none_plus n = omega arith

pub below_or_not : (a b : ℕ) → (a < b) ⊎ (b ≤ a)
below_or_not zero zero = inr (omega arith)
below_or_not zero (suc b) = inl (omega arith)
below_or_not (suc a) zero = inr (omega arith)
below_or_not (suc a) (suc b) = next (below_or_not a b)
  where
    next : (a < b) ⊎ (b ≤ a) → (suc a < suc b) ⊎ (suc b ≤ suc a)
    next (inl h) = inl (omega arith)
    next (inr h) = inr (omega arith)

module _ {X : Type 0} where
  pub noted-changed : (h : Held X) → is_changed h ≡ true → noted h ≡ 1
  noted-changed h changed = ap (λ b. cond b 1 0) changed

  pub noted-settled : (h : Held X) → is_changed h ≡ false → noted h ≡ 0
  noted-settled h settled = ap (λ b. cond b 1 0) settled

  pub noted-unsettled : (h : Held X) → ((x : X) → h ≡ Settled x → ⊥) → noted h ≡ 1
  noted-unsettled (Settled x) unsettled = absurd (unsettled x refl)
  noted-unsettled (Added x) unsettled = refl
  noted-unsettled (Rewritten row before) unsettled = refl
  noted-unsettled (Removed x) unsettled = refl
  noted-unsettled Gone unsettled = refl

  noted-most : (h : Held X) → noted h ≤ 1
  noted-most (Settled x) = omega arith
  noted-most (Added x) = omega arith
  noted-most (Rewritten row before) = omega arith
  noted-most (Removed x) = omega arith
  noted-most Gone = omega arith

  pub noted_at-most : (es : List (List ℕ × Held X)) (j : ℕ) → noted_at es j ≤ 1
  noted_at-most [] j = omega arith
  noted_at-most (e ∷ es) zero = noted-most e.1
  noted_at-most (e ∷ es) (suc j) = noted_at-most es j

  pub noted_at-past : (es : List (List ℕ × Held X)) (j : ℕ) → length es ≤ j → noted_at es j ≡ 0
  noted_at-past [] j past = refl
  noted_at-past (e ∷ es) zero past = absurd (omega arith)
  noted_at-past (e ∷ es) (suc j) past = noted_at-past es j (omega arith)

  pub noted_at-slot : (es : List (List ℕ × Held X)) (j : ℕ) (e : List ℕ × Held X) → slice_get es j ≡ Some e
      → noted_at es j ≡ noted e.1
  noted_at-slot [] j e at = cc
  noted_at-slot (f ∷ es) zero e at = ap (λ (g : List ℕ × Held X). noted g.1) (same_slot f e at)
    where
      same_slot : (a b : List ℕ × Held X) → Some a ≡ Some b → a ≡ b
      same_slot a b e = cc
  noted_at-slot (f ∷ es) (suc j) e at = noted_at-slot es j e at

  pub noted_at-set_same : (es : List (List ℕ × Held X)) (i : ℕ) (e : List ℕ × Held X) → i < length es
      → noted_at (set es i e) i ≡ noted e.1
  noted_at-set_same [] i e within = absurd (omega arith)
  noted_at-set_same (f ∷ es) zero e within = refl
  noted_at-set_same (f ∷ es) (suc i) e within = noted_at-set_same es i e (omega arith)

  pub noted_at-set_other : (es : List (List ℕ × Held X)) (i j : ℕ) (e : List ℕ × Held X) → j ≢ i
      → noted_at (set es i e) j ≡ noted_at es j
  noted_at-set_other [] i j e other = refl
  noted_at-set_other (f ∷ es) zero zero e other = absurd (other refl)
  noted_at-set_other (f ∷ es) zero (suc j) e other = refl
  noted_at-set_other (f ∷ es) (suc i) zero e other = refl
  noted_at-set_other (f ∷ es) (suc i) (suc j) e other = noted_at-set_other es i j e (λ s. other (ap suc s))

  pub noted_at-push_same : (es : List (List ℕ × Held X)) (e : List ℕ × Held X)
      → noted_at (es ++ e ∷ []) (length es) ≡ noted e.1
  noted_at-push_same [] e = refl
  noted_at-push_same (f ∷ es) e = noted_at-push_same es e

  pub noted_at-push_other : (es : List (List ℕ × Held X)) (j : ℕ) (e : List ℕ × Held X) → j ≢ length es
      → noted_at (es ++ e ∷ []) j ≡ noted_at es j
  noted_at-push_other [] zero e other = absurd (other refl)
  noted_at-push_other [] (suc j) e other = refl
  noted_at-push_other (f ∷ es) zero e other = refl
  noted_at-push_other (f ∷ es) (suc j) e other = noted_at-push_other es j e (λ s. other (ap suc s))

  noted_at-take : (n : ℕ) (es : List (List ℕ × Held X)) (j : ℕ) → j < n → noted_at (take n es) j ≡ noted_at es j
  noted_at-take zero es j low = absurd (omega arith)
  noted_at-take (suc n) [] j low = refl
  noted_at-take (suc n) (e ∷ es) zero low = refl
  noted_at-take (suc n) (e ∷ es) (suc j) low = noted_at-take n es j (omega arith)

  noted_at-take_past : (n : ℕ) (es : List (List ℕ × Held X)) (j : ℕ) → n ≤ j → noted_at (take n es) j ≡ 0
  noted_at-take_past zero es j past = refl
  noted_at-take_past (suc n) [] j past = refl
  noted_at-take_past (suc n) (e ∷ es) zero past = absurd (omega arith)
  noted_at-take_past (suc n) (e ∷ es) (suc j) past = noted_at-take_past n es j (omega arith)

  -- the last slot takes the place of one behind which no change is noted
  pub unnoted-taken : (es : List (List ℕ × Held X)) (i : ℕ) (e : List ℕ × Held X) → i < length es
      → slice_get es (length es - 1) ≡ Some e → NoneFrom (i + 1) es
      → IsUnnoted es (take (length es - 1) (set es i e)) i
  unnoted-taken es i e within last none = record {
    here = here (below_or_not i (length es - 1));
    others = λ j other. others j other (below_or_not j (length es - 1));
  }
    where
      here : (i < length es - 1) ⊎ (length es - 1 ≤ i) → noted_at (take (length es - 1) (set es i e)) i ≡ 0
      here (inr past) = noted_at-take_past (length es - 1) (set es i e) i past
      here (inl low) =
          noted_at-take (length es - 1) (set es i e) i low ∙ noted_at-set_same es i e within
          ∙ sym (noted_at-slot es (length es - 1) e last) ∙ none (length es - 1) (omega arith)

      others : (j : ℕ) → j ≢ i → (j < length es - 1) ⊎ (length es - 1 ≤ j)
          → noted_at (take (length es - 1) (set es i e)) j ≡ noted_at es j
      others j other (inl low) = noted_at-take (length es - 1) (set es i e) j low ∙ noted_at-set_other es i j e other
      others j other (inr past) =
          noted_at-take_past (length es - 1) (set es i e) j past ∙ sym (none j (omega (arith, other)))

  module _ (is : List ℕ) (es : List (List ℕ × Held X)) (p : ArePlaces is es) where
    -- one more change is noted
    pub ArePlaces-push : (i : ℕ) (fs : List (List ℕ × Held X)) → noted_at es i ≡ 0 → noted_at fs i ≡ 1
        → ((j : ℕ) → j ≢ i → noted_at fs j ≡ noted_at es j) → ArePlaces (is ++ i ∷ []) fs
    ArePlaces-push i fs old new rest j = by (same_or_other j i)
      where
        by : (j ≡ i) ⊎ (j ≢ i) → times j (is ++ i ∷ []) ≡ noted_at fs j
        by (inl same) =
            subst (λ n. times n (is ++ i ∷ []) ≡ noted_at fs n) (sym same)
            (times-push_same is i ∙ ap (λ n. n + 1) (p i ∙ old) ∙ sym new)
        by (inr other) = times-push_other is i j other ∙ p j ∙ sym (rest j other)

    -- what is noted stays
    pub ArePlaces-same : (fs : List (List ℕ × Held X)) → ((j : ℕ) → noted_at fs j ≡ noted_at es j) → ArePlaces is fs
    ArePlaces-same fs same j = p j ∙ sym (same j)

  -- the places may be listed in another order
  pub ArePlaces-sorted : (is js : List ℕ) (es : List (List ℕ × Held X)) → ArePlaces is es → IsPermutation is js
      → ArePlaces js es
  ArePlaces-sorted is js es p moved j = sum_by-IsPermutation (λ n. cond (nat_eq j n) 1 0) is js moved ∙ p j

  module _ (is : List ℕ) (i : ℕ) (es : List (List ℕ × Held X)) (p : ArePlaces (is ++ i ∷ []) es) where
    pub place-noted : noted_at es i ≡ 1
    place-noted = let a = times-push_same is i in let b = p i in let c = noted_at-most es i in omega arith

    pub place-within : i < length es
    place-within = by (below_or_not i (length es))
      where
        by : (i < length es) ⊎ (length es ≤ i) → i < length es
        by (inl low) = low
        by (inr past) = let a = place-noted in let b = noted_at-past es i past in absurd (omega arith)

    -- the last place is done with
    pub ArePlaces-pop : (fs : List (List ℕ × Held X)) → IsUnnoted es fs i → ArePlaces is fs
    ArePlaces-pop fs u j = by (same_or_other j i)
      where
        by : (j ≡ i) ⊎ (j ≢ i) → times j is ≡ noted_at fs j
        by (inl same) =
            subst (λ n. times n is ≡ noted_at fs n) (sym same)
            (let a = times-push_same is i in let b = p i in let c = place-noted in let h = u.here in omega arith)
        by (inr other) = sym (times-push_other is i j other) ∙ p j ∙ sym (u.others j other)

    module _ (up : IsNonDecreasing (is ++ i ∷ [])) where
      pub places-rest : IsNonDecreasing is
      places-rest m n d le within =
          let a = get_or_append_left is (i ∷ []) d m (omega arith) in
          let b = get_or_append_left is (i ∷ []) d n within in
          let c = up m n d le (omega (arith, length_more is)) in
          omega arith
        where
          length_more : (xs : List ℕ) → length (xs ++ i ∷ []) ≡ length xs + 1
          length_more [] = refl
          length_more (x ∷ xs) = let r = length_more xs in omega arith

      -- no change is noted behind the last place
      pub none-behind : NoneFrom (i + 1) es
      none-behind j past = sym (p j) ∙ times-above (is ++ i ∷ []) j (λ n d within.
          let a = up n (length is) d (omega (arith, length_more is)) (omega (arith, length_more is)) in
          let b = get_or-append_seam is i [] d in
          omega arith)
        where
          length_more : (xs : List ℕ) → length (xs ++ i ∷ []) ≡ length xs + 1
          length_more [] = refl
          length_more (x ∷ xs) = let r = length_more xs in omega arith

  pub slots-sorted : {is js : List ℕ} {es : List (List ℕ × Held X)} → AreSlots es is → IsPermutation is js
      → AreSlots es js
  slots-sorted {is} {js} {es} s moved =
      record { distinct = s.distinct; places = ArePlaces-sorted is js es s.places moved }

  -- the last of the places is taken from the list
  module _ {es : List (List ℕ × Held X)} {is : List ℕ} (left : List ℕ) (i : ℕ) (last : is ≡ left ++ i ∷ [])
      (s : AreSlots es is) where
    places-with_last : ArePlaces (left ++ i ∷ []) es
    places-with_last = subst (λ l. ArePlaces l es) last s.places

    pub popped-within : i < length es
    popped-within = place-within left i es places-with_last

    pub popped-slots : (fs : List (List ℕ × Held X)) → IsDistinct fs → IsUnnoted es fs i → AreSlots fs left
    popped-slots fs d u = record { distinct = d; places = ArePlaces-pop left i es places-with_last fs u }

    module _ (up : IsNonDecreasing is) where
      pub popped-rest : IsNonDecreasing left
      popped-rest = places-rest left i es places-with_last (subst IsNonDecreasing last up)

      pub popped-last : NoneFrom (i + 1) es
      popped-last = none-behind left i es places-with_last (subst IsNonDecreasing last up)

  pub before-settled : (h : Held X) → is_changed h ≡ false → row_before h ≡ now_row h
  before-settled (Settled x) settled = refl
  before-settled (Added x) settled = cc
  before-settled (Rewritten row before) settled = cc
  before-settled (Removed x) settled = cc
  before-settled Gone settled = cc

  settled-unnoted : (h : Held X) → noted h ≡ 0 → is_changed h ≡ false
  settled-unnoted (Settled x) none = refl
  settled-unnoted (Added x) none = absurd (omega arith)
  settled-unnoted (Rewritten row before) none = absurd (omega arith)
  settled-unnoted (Removed x) none = absurd (omega arith)
  settled-unnoted Gone none = absurd (omega arith)

  -- where no change is noted, the rows are as before
  pub rows-unnoted : (es : List (List ℕ × Held X)) → ((j : ℕ) → noted_at es j ≡ 0)
      → rows_by row_before es ≡ rows_by now_row es
  rows-unnoted [] none = refl
  rows-unnoted (e ∷ es) none =
      ap (λ o. with_row e.0 o (rows_by row_before es)) (before-settled e.1 (settled-unnoted e.1 (none 0)))
      ∙ ap (with_row e.0 (now_row e.1)) (rows-unnoted es (λ j. none (suc j)))
