-- The keys at which the rows differ from those before, found from the places of the changes.
use Rattle.std.proofs.Common.{◌≡◌, ◌≢◌, ◌⊎◌, inl, inr, ℕ, suc, zero, Bool, true, false, cond, ◌||◌, ◌+◌, ◌<◌, ◌≤◌, List}
use Rattle.std.proofs.Common.{[], ◌∷◌, ◌++◌, take, length, get_or, Option, Some, None, refl, sym, ap, ◌∙◌, subst, arith}
use Rattle.std.specs.Prelude.{slice_get, option_map, nat_eq}
use Rattle.std.specs.FinMap as table
use Rattle.std.proofs.lemmas.List.{take_more}
use Rattle.std.proofs.lemmas.List.Sums.{sum_by-take-le}
use Rattle.sheet_core.specs.declared.slots.Held.{Held}
use Rattle.sheet_core.specs.Sheet.{is_listed, IsDifference, IsDistinct, HasKeyAt}
use Rattle.sheet_core.specs.Slots.{is_changed, times, row_before, now_row, table_by, ArePlaces}
use Rattle.sheet_core.proofs.Keys.{key_eq, key_eq-self, key_eq-true}
use Rattle.sheet_core.proofs.Entries.{find_in, apart}
use Rattle.sheet_core.proofs.Listing.{is_listed-push, is_listed-pushed}
use Rattle.sheet_core.proofs.SlotLemmas.{get-slot, get-no_slot}
use Rattle.sheet_core.proofs.Noted.{same_or_other, times-push_same, times-push_other, noted_at-most}
use Rattle.sheet_core.proofs.Noted.{noted_at-slot, noted_at-past, before-settled, below_or_not, noted-changed}

same_key : (a b : List ℕ) → Some a ≡ Some b → a ≡ b
same_key a b e = cc

same_place_next : (a b : ℕ) → a ≡ b → suc a ≡ suc b
same_place_next a b e = ap suc e

module _ {X : Type 0} where
  -- a key has one place
  same-place : (es : List (List ℕ × Held X)) (a b : ℕ) (k : List ℕ) → IsDistinct es → HasKeyAt es a k
      → HasKeyAt es b k → a ≡ b
  same-place [] a b k d at bt = cc
  same-place (e ∷ es) zero zero k d at bt = refl
  same-place (e ∷ es) zero (suc b) k d at bt = absurd (apart e es b k d bt (same_key e.0 k at))
  same-place (e ∷ es) (suc a) zero k d at bt = absurd (apart e es a k d at (same_key e.0 k bt))
  same-place (e ∷ es) (suc a) (suc b) k d at bt = same_place_next a b (same-place es a b k d.1 at bt)

  -- what is found stands somewhere
  find-place : (es : List (List ℕ × Held X)) (k : List ℕ) (h : Held X) → find_in k es ≡ Some h
      → (j : ℕ) × (slice_get es j ≡ Some (k, h))
  find-place [] k h e = cc
  find-place (f ∷ es) k h e = by (key_eq k f.0) refl (find-place es k h)
    where
      pair : (a : List ℕ) (b c : Held X) → k ≡ a → Some b ≡ Some c
          → ◌≡◌ {A = Option (List ℕ × Held X)} (Some (a, b)) (Some (k, c))
      pair a b c p q = cc

      by : (b : Bool) → key_eq k f.0 ≡ b → (find_in k es ≡ Some h → (j : ℕ) × (slice_get es j ≡ Some (k, h)))
          → (j : ℕ) × (slice_get (f ∷ es) j ≡ Some (k, h))
      by true p later =
          (0, pair f.0 f.1 h (key_eq-true k f.0 p) (sym (ap (λ b. cond b (Some f.1) (find_in k es)) p) ∙ e))
      by false p later =
          let rest = later (sym (ap (λ b. cond b (Some f.1) (find_in k es)) p) ∙ e) in
          (suc rest.0, rest.1)

  -- of the changes at these places, the keys whose rows differ are listed
  pub record AreListed (es : List (List ℕ × Held X)) (is : List ℕ) (ks : List (List ℕ)) : Type 0 where
    pub source : (k : List ℕ) → is_listed k ks ≡ true → (j : ℕ) × (0 < times j is) × HasKeyAt es j k
        × (table.get (table_by now_row es) k ≢ table.get (table_by row_before es) k)
    pub done : (j : ℕ) (k : List ℕ) → 0 < times j is → HasKeyAt es j k → is_listed k ks ≡ false
        → table.get (table_by now_row es) k ≡ table.get (table_by row_before es) k

  module _ (es : List (List ℕ × Held X)) (d : IsDistinct es) (is : List ℕ) (ks : List (List ℕ)) (l : AreListed es is ks)
      (i : ℕ) (k : List ℕ) (h : Held X) (at : slice_get es i ≡ Some (k, h)) where
    here : HasKeyAt es i k
    here = ap (option_map (λ (e : List ℕ × Held X). e.0)) at

    its_key : (q : List ℕ) → HasKeyAt es i q → q ≡ k
    its_key q has = same_key q k (sym has ∙ here)

    still : (j : ℕ) → 0 < times j is → 0 < times j (is ++ i ∷ [])
    still j low = by (same_or_other j i)
      where
        by : (j ≡ i) ⊎ (j ≢ i) → 0 < times j (is ++ i ∷ [])
        by (inl e) = subst (λ n. 0 < times n (is ++ i ∷ [])) (sym e) (let s = times-push_same is i in omega arith)
        by (inr other) = let s = times-push_other is i j other in omega arith

    -- a change that left the row as it was
    pub AreListed-same : now_row h ≡ row_before h → AreListed es (is ++ i ∷ []) ks
    AreListed-same same = record {
      source = λ q listed. let s = l.source q listed in (s.0, still s.0 s.1, s.2, s.3);
      done = λ j q in_it has unlisted. by j q in_it has unlisted (same_or_other j i);
    }
      where
        equal : table.get (table_by now_row es) k ≡ table.get (table_by row_before es) k
        equal = get-slot now_row es i k h d at ∙ same ∙ sym (get-slot row_before es i k h d at)

        by : (j : ℕ) (q : List ℕ) → 0 < times j (is ++ i ∷ []) → HasKeyAt es j q → is_listed q ks ≡ false
            → (j ≡ i) ⊎ (j ≢ i) → table.get (table_by now_row es) q ≡ table.get (table_by row_before es) q
        by j q in_it has unlisted (inl e) =
            let same_q : q ≡ k = its_key q (subst (λ n. HasKeyAt es n q) e has) in
            subst (λ r. table.get (table_by now_row es) r ≡ table.get (table_by row_before es) r) (sym same_q) equal
        by j q in_it has unlisted (inr other) =
            l.done j q (let s = times-push_other is i j other in omega arith) has unlisted

    -- a change that shows
    pub AreListed-pushed : now_row h ≢ row_before h → AreListed es (is ++ i ∷ []) (ks ++ k ∷ [])
    AreListed-pushed differs = record {
      source = λ q listed. from q listed (is_listed q ks) refl;
      done = λ j q in_it has unlisted. by j q in_it has (is_listed-pushed q k ks unlisted) (same_or_other j i);
    }
      where
        own : (j : ℕ) × (0 < times j (is ++ i ∷ [])) × HasKeyAt es j k
            × (table.get (table_by now_row es) k ≢ table.get (table_by row_before es) k)
        own = (
          i,
          (let s = times-push_same is i in omega arith),
          here,
          λ e. differs (sym (get-slot now_row es i k h d at) ∙ e ∙ get-slot row_before es i k h d at),
        )

        last : (q : List ℕ) (b : Bool) → b ≡ false → (b || key_eq k q) ≡ true → key_eq k q ≡ true
        last q true e o = cc
        last q false e o = o

        from : (q : List ℕ) → is_listed q (ks ++ k ∷ []) ≡ true → (b : Bool) → is_listed q ks ≡ b
            → (j : ℕ) × (0 < times j (is ++ i ∷ [])) × HasKeyAt es j q
            × (table.get (table_by now_row es) q ≢ table.get (table_by row_before es) q)
        from q listed true p = let s = l.source q p in (s.0, still s.0 s.1, s.2, s.3)
        from q listed false p =
            let same : k ≡ q = key_eq-true k q (last q (is_listed q ks) p (sym (is_listed-push q k ks) ∙ listed)) in
            subst (λ r. (j : ℕ) × (0 < times j (is ++ i ∷ [])) × HasKeyAt es j r
            × (table.get (table_by now_row es) r ≢ table.get (table_by row_before es) r))
            same own

        by : (j : ℕ) (q : List ℕ) → 0 < times j (is ++ i ∷ []) → HasKeyAt es j q
            → (is_listed q ks ≡ false) × (key_eq k q ≡ false) → (j ≡ i) ⊎ (j ≢ i)
            → table.get (table_by now_row es) q ≡ table.get (table_by row_before es) q
        by j q in_it has unlisted (inl e) =
            let same_q : q ≡ k = its_key q (subst (λ n. HasKeyAt es n q) e has) in
            let yes : key_eq k q ≡ true = ap (key_eq k) same_q ∙ key_eq-self k in
            let no = unlisted.1 in cc
        by j q in_it has unlisted (inr other) =
            l.done j q (let s = times-push_other is i j other in omega arith) has unlisted.0

    -- its key is not listed yet, where the place is listed once
    pub not_yet_listed : times i (is ++ i ∷ []) ≤ 1 → is_listed k ks ≡ false
    not_yet_listed most = by (is_listed k ks) refl
      where
        by : (b : Bool) → is_listed k ks ≡ b → is_listed k ks ≡ false
        by false p = p
        by true p =
            let s = l.source k p in
            let same : s.0 ≡ i = same-place es s.0 i k d s.2 here in
            let in_it : 0 < times i is = subst (λ n. 0 < times n is) same s.1 in
            let more = times-push_same is i in
            absurd (omega arith)

  -- each place has a slot
  pub place-listed : (es : List (List ℕ × Held X)) (is : List ℕ) (n i : ℕ) → ArePlaces is es → n < length is
      → get_or is n 0 ≡ i → i < length es
  place-listed es is n i p within at =
      let more = take_more is n 0 within ∙ ap (λ m. take n is ++ m ∷ []) at in
      let one = ap (times i) more ∙ times-push_same (take n is) i in
      let most = sum_by-take-le (λ m. cond (nat_eq i m) 1 0) is (n + 1) in
      let all = p i in
      by (below_or_not i (length es)) (λ past. let none = noted_at-past es i past in absurd (omega arith))
    where
      by : (i < length es) ⊎ (length es ≤ i) → (length es ≤ i → i < length es) → i < length es
      by (inl low) f = low
      by (inr past) f = f past

  pub times-most : (es : List (List ℕ × Held X)) (is : List ℕ) (n i : ℕ) → ArePlaces is es → times i (take n is) ≤ 1
  times-most es is n i p =
      let a = sum_by-take-le (λ m. cond (nat_eq i m) 1 0) is n in
      let b = p i in
      let c = noted_at-most es i in
      omega arith

  -- once all places are done with, the keys are the difference
  pub IsDifference-listed : (es : List (List ℕ × Held X)) (is : List ℕ) (ks : List (List ℕ)) → IsDistinct es
      → ArePlaces is es → AreListed es is ks → IsDifference ks (table_by now_row es) (table_by row_before es)
  IsDifference-listed es is ks d p l k =
      (λ unlisted. found unlisted (find_in k es) refl, λ e. unlisted e (is_listed k ks) refl)
    where
      unlisted : table.get (table_by now_row es) k ≡ table.get (table_by row_before es) k → (b : Bool)
          → is_listed k ks ≡ b → is_listed k ks ≡ false
      unlisted e false q = q
      unlisted e true q = absurd ((l.source k q).3 e)

      at_place : is_listed k ks ≡ false → (j : ℕ) (h : Held X) → slice_get es j ≡ Some (k, h) → (b : Bool)
          → is_changed h ≡ b → table.get (table_by now_row es) k ≡ table.get (table_by row_before es) k
      at_place none j h at false settled =
          get-slot now_row es j k h d at ∙ sym (get-slot row_before es j k h d at ∙ before-settled h settled)
      at_place none j h at true changed =
          let one : times j is ≡ 1 = p j ∙ noted_at-slot es j (k, h) at ∙ noted-changed h changed in
          l.done j k (omega arith) (ap (option_map (λ (e : List ℕ × Held X). e.0)) at) none

      found : is_listed k ks ≡ false → (o : Option (Held X)) → find_in k es ≡ o
          → table.get (table_by now_row es) k ≡ table.get (table_by row_before es) k
      found none None q = get-no_slot now_row es k d q ∙ sym (get-no_slot row_before es k d q)
      found none (Some h) q = let s = find-place es k h q in at_place none s.0 h s.1 (is_changed h) refl
