-- Chains of templates, walked up from a part and down from a template.
use Rattle.std.proofs.Common.{◌≡◌, ◌≢◌, ◌↔◌, ◌⊎◌, inl, inr, ◌<◌, ◌≤◌, ◌+◌, ◌-◌, ◌||◌, ℕ, zero, suc, Bool, true, false, cond}
use Rattle.std.proofs.Common.{List, [], ◌∷◌, ◌++◌, length, Option, Some, None, refl, sym, ap, ◌∙◌, subst, arith}
use Rattle.std.proofs.Common.{Bor, drop, eqb-true, eq-eqb, get_or, map}
use Rattle.std.specs.Prelude.{◌==◌, ◌&&◌, filter, flat_map, is_some, nat_lt, unwrap_or}
use Rattle.std.specs.List.{list_any}
use Rattle.std.specs.FinMap as table
use Rattle.std.proofs.lemmas.Bool.{lt-ltb, ltb-true, or_left, or_right}
use Rattle.std.proofs.lemmas.List.{append-nil, append_assoc, at_drop_all, at_drop_more}
use Rattle.std.proofs.lemmas.List.Folds.{list_any-append}
use mathlib.Core.Bool.{or-false}
use Rattle.part_core.specs.Catalogue.{AreFlat, Climbs, Parts, ancestors, descendants, descends, down_from, family}
use Rattle.part_core.specs.Catalogue.{is_among, is_number, last_from, part_in, template_in, template_of, up_from, variants_in}
use Rattle.sheet_core.specs.Filled.{StandUnderKeys}
use Rattle.sheet_core.specs.Rows.{IsThere}
use Rattle.part_core.specs.SoundCatalogue.{IsSoundCatalogue}
use Rattle.part_core.specs.declared.part.Part.{Part}
use Rattle.sheet_core.proofs.Conditions.{and_both, and_parts, not_true, or_cases, same_test}
use Rattle.sheet_core.proofs.RowLemmas.{same_digit, there}
use Rattle.sheet_core.proofs.Standing.{Stands, Stands-get, any-found, any-from, get-Stands}

-- ---- truth values and lists

module _ {X : Type 0} where
  -- what the rows that pass add
  pub among-added : (added : X → List ℕ) (test : X → Bool) (xs : List X) (p : ℕ)
      → is_among (flat_map added (filter test xs)) p ≡ list_any (λ x. test x && is_among (added x) p) xs
  among-added added test [] p = refl
  among-added added test (x ∷ xs) p =
      elim (test x) as (λ b. is_among (flat_map added (cond b (x ∷ filter test xs) (filter test xs))) p
      ≡ ((b && is_among (added x) p) || list_any (λ y. test y && is_among (added y) p) xs)) [
        | true ↦
            list_any-append (λ q. q == p) (added x) (flat_map added (filter test xs))
            ∙ ap (λ b. is_among (added x) p || b) (among-added added test xs p)
        | false ↦ among-added added test xs p
      ]

-- ---- steps

pub up-zero : (o : Option ℕ) (s : Parts) → up_from 0 o s.parts ≡ []
unfolding up_from
up-zero o s = refl

pub up-none : (d : ℕ) (s : Parts) → up_from d None s.parts ≡ []
unfolding up_from
up-none zero s = refl
up-none (suc d) s = refl

pub up-some : (d t : ℕ) (s : Parts) → 0 < d → up_from d (Some t) s.parts ≡ t ∷ up_from (d - 1) (template_in t s) s.parts
unfolding up_from
up-some zero t s pos = absurd (omega arith)
up-some (suc d) t s pos = let one : suc d - 1 ≡ d = omega arith in rw one refl

up-more : (d t : ℕ) (s : Parts) → up_from (suc d) (Some t) s.parts ≡ t ∷ up_from d (template_in t s) s.parts
unfolding up_from
up-more d t s = refl

module _ (s : Parts) where
  -- the templates that so many steps come to
  abbrev above : ℕ → ℕ → List ℕ
  above d p = up_from d (template_in p s) s.parts

  pub up-cases : (d : ℕ) (o : Option ℕ) (t : ℕ) → is_among (up_from (suc d) o s.parts) t ≡ true
      → (u : ℕ) × (o ≡ Some u) × ((u ≡ t) ⊎ (is_among (above d u) t ≡ true))
  up-cases d None t e = let no : false ≡ true = ap (λ l. is_among l t) (sym (up-none (suc d) s)) ∙ e in cc
  up-cases d (Some u) t e =
      let f : ((u == t) || is_among (above d u) t) ≡ true = ap (λ l. is_among l t) (sym (up-more d u s)) ∙ e in
      (u, refl, go (or_cases (u == t) _ f))
    where
      go : (u == t ≡ true) ⊎ (is_among (above d u) t ≡ true) → (u ≡ t) ⊎ (is_among (above d u) t ≡ true)
      go (inl h) = inl (eqb-true _ _ h)
      go (inr h) = inr h

  pub none-above : (o : Option ℕ) (t : ℕ) → is_among (up_from 0 o s.parts) t ≡ true → ⊥
  none-above o t e = let no : false ≡ true = ap (λ l. is_among l t) (sym (up-zero o s)) ∙ e in cc

  pub up-here : (d : ℕ) (o : Option ℕ) (u : ℕ) → o ≡ Some u → is_among (up_from (suc d) o s.parts) u ≡ true
  up-here d o u e =
      ap (λ n. is_among (up_from (suc d) n s.parts) u) e ∙ ap (λ l. is_among l u) (up-more d u s)
      ∙ or_left (u == u) _ (eq-eqb u u refl)

  pub up-on : (d : ℕ) (o : Option ℕ) (u t : ℕ) → o ≡ Some u → is_among (above d u) t ≡ true
      → is_among (up_from (suc d) o s.parts) t ≡ true
  up-on d o u t e h =
      ap (λ n. is_among (up_from (suc d) n s.parts) t) e ∙ ap (λ l. is_among l t) (up-more d u s) ∙ or_right (u == t) _ h

  -- one step more allowed
  pub up-wider : (d : ℕ) (o : Option ℕ) (t : ℕ) → is_among (up_from d o s.parts) t ≡ true
      → is_among (up_from (suc d) o s.parts) t ≡ true
  up-wider zero o t e = absurd (none-above o t e)
  up-wider (suc d) o t e =
      let c = up-cases d o t e in
      elim c.2 [
        | inl h ↦ subst (λ n. is_among (up_from (suc (suc d)) o s.parts) n ≡ true) h (up-here (suc d) o c.0 c.1)
        | inr h ↦ up-on (suc d) o c.0 t c.1 (up-wider d (template_in c.0 s) t h)
      ]

  -- one step more at the top
  up-top : (d : ℕ) (o : Option ℕ) (x t : ℕ) → is_among (up_from d o s.parts) x ≡ true → template_in x s ≡ Some t
      → is_among (up_from (suc d) o s.parts) t ≡ true
  up-top zero o x t e f = absurd (none-above o x e)
  up-top (suc d) o x t e f =
      let c = up-cases d o x e in
      elim c.2 [
        | inl h ↦ up-on (suc d) o c.0 t c.1 (up-here d (template_in c.0 s) t (ap (λ n. template_in n s) h ∙ f))
        | inr h ↦ up-on (suc d) o c.0 t c.1 (up-top d (template_in c.0 s) x t h f)
      ]

  -- the last step
  up-last : (d p t : ℕ) → is_among (above (suc d) p) t ≡ true
      → (x : ℕ) × (template_in x s ≡ Some t) × ((x ≡ p) ⊎ (is_among (above d p) x ≡ true))
  up-last zero p t e =
      let c = up-cases 0 (template_in p s) t e in
      elim c.2 [
        | inl h ↦ (p, c.1 ∙ ap (λ n. Some n) h, inl refl)
        | inr h ↦ absurd (none-above _ t h)
      ]
  up-last (suc d) p t e =
      let c = up-cases (suc d) (template_in p s) t e in
      elim c.2 [
        | inl h ↦ (p, c.1 ∙ ap (λ n. Some n) h, inl refl)
        | inr h ↦
            let r = up-last d c.0 t h in (
              r.0,
              r.1,
              inr (elim r.2 [
                | inl i ↦ up-here d (template_in p s) r.0 (c.1 ∙ ap (λ n. Some n) (sym i))
                | inr i ↦ up-on d (template_in p s) c.0 r.0 c.1 i
              ]),
            )
      ]

  -- ---- chains that end

  -- so many steps come to the end
  ended : (d n : ℕ) (o : Option ℕ) → length (up_from (suc d) o s.parts) ≤ d → up_from (n + d) o s.parts ≡ up_from d o s.parts
  ended d n None e = up-none (n + d) s ∙ sym (up-none d s)
  ended zero n (Some t) e = absurd (let is = ap (λ (l : List ℕ). length l) (up-more 0 t s) in omega (arith, is, e))
  ended (suc d) n (Some t) e =
      let is = ap (λ (l : List ℕ). length l) (up-more (suc d) t s) in
      let more : n + suc d ≡ suc (n + d) = omega arith in
      ap (λ k. up_from k (Some t) s.parts) more ∙ up-more (n + d) t s
      ∙ ap (λ (l : List ℕ). t ∷ l) (ended d n (template_in t s) (omega (arith, is, e))) ∙ sym (up-more d t s)

  -- ---- any number of steps

  above-climbs : (d p t : ℕ) → is_among (above d p) t ≡ true → (n : ℕ) × Climbs s n p t
  above-climbs zero p t e = absurd (none-above _ t e)
  above-climbs (suc d) p t e =
      let c = up-cases d (template_in p s) t e in
      elim c.2 [
        | inl h ↦ (0, c.1 ∙ ap (λ n. Some n) h)
        | inr h ↦ let r = above-climbs d c.0 t h in (suc r.0, (c.0, c.1, r.1))
      ]

  climbs-above : (n p t : ℕ) → Climbs s n p t → is_among (above (suc n) p) t ≡ true
  climbs-above zero p t w = up-here 0 (template_in p s) t w
  climbs-above (suc n) p t w = up-on (suc n) (template_in p s) w.0 t w.1 (climbs-above n w.0 t w.2)

  climbs-wider : (n k p t : ℕ) → is_among (above n p) t ≡ true → is_among (above (k + n) p) t ≡ true
  climbs-wider n zero p t e =
      let none : 0 + n ≡ n = omega arith in subst (λ k. is_among (above k p) t ≡ true) (sym none) e
  climbs-wider n (suc k) p t e =
      let one : suc k + n ≡ suc (k + n) = omega arith in
      subst (λ m. is_among (above m p) t ≡ true) (sym one)
      (up-wider (k + n) (template_in p s) t (climbs-wider n k p t e))

  module _ (short : (p u : ℕ) → template_in p s ≡ Some u → length (up_from 4 (Some u) s.parts) ≤ 3) where
    -- a step up leaves less above
    step-lower : (p u : ℕ) → template_in p s ≡ Some u → length (ancestors u s) < length (ancestors p s)
    step-lower p u e =
        let at = short p u e in
        let four = ap (λ (l : List ℕ). length l) (up-more 3 u s) in
        let same = ap (λ (l : List ℕ). length l) (ended 2 1 (template_in u s) (omega (arith, at, four))) in
        let three = ap (λ o. length (up_from 3 o s.parts)) e ∙ ap (λ (l : List ℕ). length l) (up-more 2 u s) in
        omega (arith, same, three)

    above-lower : (d p t : ℕ) → is_among (above d p) t ≡ true → length (ancestors t s) < length (ancestors p s)
    above-lower zero p t e = absurd (none-above _ t e)
    above-lower (suc d) p t e =
        let c = up-cases d (template_in p s) t e in
        let less = step-lower p c.0 c.1 in
        elim c.2 [
          | inl h ↦ subst (λ n. length (ancestors n s) < length (ancestors p s)) h less
          | inr h ↦ (let rest = above-lower d c.0 t h in omega (arith, less, rest))
        ]

    -- three steps come to the end of each chain
    whole : (p n : ℕ) → up_from (n + 3) (template_in p s) s.parts ≡ ancestors p s
    whole p n = go (template_in p s) refl
      where
        go : (o : Option ℕ) → template_in p s ≡ o → up_from (n + 3) o s.parts ≡ up_from 3 o s.parts
        go None e = up-none (n + 3) s ∙ sym (up-none 3 s)
        go (Some u) e = ended 3 n (Some u) (short p u e)

    descends-any : (p t : ℕ) → (descends p t s ≡ true) ↔ ((n : ℕ) × Climbs s n p t)
    descends-any p t = (
      above-climbs 3 p t,
      λ w. let h = climbs-wider (suc w.0) 3 p t (climbs-above w.0 p t w.1) in
          let more : 3 + suc w.0 ≡ suc w.0 + 3 = omega arith in
          ap (λ l. is_among l t) (sym (whole p (suc w.0)) ∙ ap (λ k. up_from k (template_in p s) s.parts) (sym more)) ∙ h,
    )

    -- the last of a chain names no template
    last-ends : (d p : ℕ) → length (above (suc d) p) ≤ d → template_in (last_from p (above d p)) s ≡ None
    last-ends d p e = go d p e (template_in p s) refl
      where
        go : (d p : ℕ) → length (above (suc d) p) ≤ d → (o : Option ℕ) → template_in p s ≡ o
            → template_in (last_from p (above d p)) s ≡ None
        go d p e None f = ap (λ l. template_in (last_from p l) s) (ap (λ o. up_from d o s.parts) f ∙ up-none d s) ∙ f
        go zero p e (Some u) f =
            absurd (let is = ap (λ o. length (up_from 1 o s.parts)) f ∙ ap (λ (l : List ℕ). length l) (up-more 0 u s) in
            omega (arith, is, e))
        go (suc d) p e (Some u) f =
            let is =
            ap (λ o. length (up_from (suc (suc d)) o s.parts)) f ∙ ap (λ (l : List ℕ). length l) (up-more (suc d) u s) in
            ap (λ l. template_in (last_from p l) s) (ap (λ o. up_from (suc d) o s.parts) f ∙ up-more d u s)
            ∙ go d u (omega (arith, is, e)) (template_in u s) refl

-- ---- in a sound catalogue

module _ (next : ℕ) (s : Parts) (sound : IsSoundCatalogue next s) where
  short-chain : (p u : ℕ) → template_in p s ≡ Some u → length (up_from 4 (Some u) s.parts) ≤ 3
  short-chain p u e = go (part_in p s) refl e
    where
      go : (o : Option Part) → part_in p s ≡ o → template_of o ≡ Some u → length (up_from 4 (Some u) s.parts) ≤ 3
      go None is f = cc
      go (Some x) is f = subst (λ o. length (up_from 4 o s.parts) ≤ 3) f (sound.short (p ∷ []) x is)

  -- to descend is to be so many steps below, however many
  pub descends-is : (p t : ℕ) → (descends p t s ≡ true) ↔ ((n : ℕ) × Climbs s n p t)
  descends-is = descends-any s short-chain

  -- no part descends from itself
  pub descends-other : (p : ℕ) → descends p p s ≡ true → ⊥
  descends-other p e = let less = above-lower s short-chain 3 p p e in omega (arith, less)

  pub descends-never : (p : ℕ) → descends p p s ≡ false
  descends-never p = not_true (descends p p s) (descends-other p)

  -- a family is named by a part that names no template
  pub family-root : (p : ℕ) → template_in (family p s) s ≡ None
  family-root p = last-ends s short-chain 3 p (let is = ap (λ (l : List ℕ). length l) (whole s short-chain p 1) in
      go (template_in p s) refl)
    where
      go : (o : Option ℕ) → template_in p s ≡ o → length (up_from 4 o s.parts) ≤ 3
      go None e = let none = ap (λ (l : List ℕ). length l) (up-none 4 s) in omega (arith, none)
      go (Some u) e = short-chain p u e

  -- the template that a part names is there
  pub template-there : (p t : ℕ) → template_in p s ≡ Some t → IsThere s.parts t
  template-there p t e = go (part_in p s) refl e
    where
      go : (o : Option Part) → part_in p s ≡ o → template_of o ≡ Some t → IsThere s.parts t
      go None is f = cc
      go (Some x) is f = let r = sound.templates (p ∷ []) x is t f in there s.parts t r.0 r.1

-- the last is the first, or among the others
last-among : (p : ℕ) (l : List ℕ) → (last_from p l ≡ p) ⊎ (is_among l (last_from p l) ≡ true)
last-among p [] = inl refl
last-among p (t ∷ ts) =
    elim (last-among t ts) [
      | inl h ↦ inr (or_left _ _ (eq-eqb t (last_from t ts) (sym h)))
      | inr h ↦ inr (or_right (t == last_from t ts) _ h)
    ]

pub family-up : (s : Parts) (p : ℕ) → (family p s ≡ p) ⊎ (descends p (family p s) s ≡ true)
family-up s p = last-among p (ancestors p s)

-- what descends from another is a part
pub descends-part : (s : Parts) (p t : ℕ) → descends p t s ≡ true → (x : Part) × (part_in p s ≡ Some x)
descends-part s p t e = go (part_in p s) (up-cases s 2 (template_in p s) t e).1
  where
    go : (o : Option Part) → template_of o ≡ Some (up-cases s 2 (template_in p s) t e).0 → (x : Part) × (o ≡ Some x)
    go None f = cc
    go (Some x) f = (x, refl)

-- where each part of one catalogue names in another what it names there, so many steps lead there too
module _ (a b : Parts) (back : (n t : ℕ) → template_in n a ≡ Some t → template_in n b ≡ Some t) where
  pub up-back : (d p t : ℕ) → is_among (above a d p) t ≡ true → is_among (above b d p) t ≡ true
  up-back zero p t e = absurd (none-above a (template_in p a) t e)
  up-back (suc d) p t e =
      let c = up-cases a d (template_in p a) t e in
      let names = back p c.0 c.1 in
      elim c.2 [
        | inl h ↦ subst (λ n. is_among (above b (suc d) p) n ≡ true) h (up-here b d (template_in p b) c.0 names)
        | inr h ↦ up-on b d (template_in p b) c.0 t names (up-back d c.0 t h)
      ]

  pub descends-back : (p t : ℕ) → descends p t a ≡ true → descends p t b ≡ true
  descends-back p t e = up-back 3 p t e

-- ---- another catalogue, in which the parts of this one name the templates that they named

module _ (s new : Parts) (next : ℕ) (sound : IsSoundCatalogue next s)
    (same : (n : ℕ) → IsThere s.parts n → template_in n new ≡ template_in n s) where
  pub up-kept : (d : ℕ) (o : Option ℕ) → ((t : ℕ) → o ≡ Some t → IsThere s.parts t) → up_from d o new.parts ≡ up_from d o s.parts
  up-kept zero o named = up-zero o new ∙ sym (up-zero o s)
  up-kept (suc d) None named = up-none (suc d) new ∙ sym (up-none (suc d) s)
  up-kept (suc d) (Some t) named =
      let is = named t refl in
      up-more d t new ∙ ap (λ o. t ∷ up_from d o new.parts) (same t is)
      ∙ ap (λ (l : List ℕ). t ∷ l) (up-kept d (template_in t s) (template-there next s sound t))
      ∙ sym (up-more d t s)

  -- so its chain is the same
  pub ancestors-kept : (p : ℕ) → IsThere s.parts p → ancestors p new ≡ ancestors p s
  ancestors-kept p is =
      ap (λ o. up_from 3 o new.parts) (same p is) ∙ up-kept 3 (template_in p s) (template-there next s sound p)

  -- its family too
  pub family-kept : (p : ℕ) → IsThere s.parts p → family p new ≡ family p s
  family-kept p is = ap (last_from p) (ancestors-kept p is)

  -- and what it descends from
  pub descends-kept : (p t : ℕ) → IsThere s.parts p → descends p t new ≡ descends p t s
  descends-kept p t is = ap (λ l. is_among l t) (ancestors-kept p is)

-- ---- the loops up

module _ (s : Parts) where
  pub family-step : (d p t : ℕ) → 0 < d → Some t ≡ template_in p s
      → last_from t (up_from (d - 1) (template_in t s) s.parts) ≡ last_from p (up_from d (template_in p s) s.parts)
  family-step d p t pos e =
      sym (ap (λ o. last_from p (up_from d o s.parts)) (sym e) ∙ ap (last_from p) (up-some d t s pos))

  pub family-end : (d p : ℕ) → None ≡ template_in p s → p ≡ last_from p (up_from d (template_in p s) s.parts)
  family-end d p e = sym (ap (λ o. last_from p (up_from d o s.parts)) (sym e) ∙ ap (last_from p) (up-none d s))

  pub family-zero : (p : ℕ) (o : Option ℕ) → p ≡ last_from p (up_from 0 o s.parts)
  family-zero p o = sym (ap (last_from p) (up-zero o s))

  -- whether one of the templates above passes

  module _ (q : ℕ → Bool) where
    pub any-here : (d u : ℕ) (o : Option ℕ) → 0 < d → o ≡ Some u → q u ≡ true → true ≡ list_any q (up_from d o s.parts)
    any-here d u o pos e is =
        sym (ap (λ n. list_any q (up_from d n s.parts)) e ∙ ap (list_any q) (up-some d u s pos) ∙ or_left (q u) _ is)

    pub any-step : (d u : ℕ) (o : Option ℕ) → 0 < d → o ≡ Some u → q u ≡ false
        → list_any q (up_from (d - 1) (template_in u s) s.parts) ≡ list_any q (up_from d o s.parts)
    any-step d u o pos e not_it =
        sym (ap (λ n. list_any q (up_from d n s.parts)) e ∙ ap (list_any q) (up-some d u s pos)
        ∙ ap (λ b. b || list_any q (up_from (d - 1) (template_in u s) s.parts)) not_it)

    pub any-end : (d : ℕ) (o : Option ℕ) → o ≡ None → false ≡ list_any q (up_from d o s.parts)
    any-end d o e = sym (ap (λ n. list_any q (up_from d n s.parts)) e ∙ ap (list_any q) (up-none d s))

    pub any-zero : (o : Option ℕ) → false ≡ list_any q (up_from 0 o s.parts)
    any-zero o = sym (ap (list_any q) (up-zero o s))

  pub not-it : (u t : ℕ) → u ≢ t → (u == t) ≡ false
  not-it u t other = not_true (u == t) (λ e. other (eqb-true _ _ e))

  pub found-step : (d u : ℕ) (o : Option ℕ) (found more all : List ℕ) → 0 < d → o ≡ Some u → more ≡ found ++ u ∷ []
      → found ++ up_from d o s.parts ≡ all → more ++ up_from (d - 1) (template_in u s) s.parts ≡ all
  found-step d u o found more all pos e f g =
      ap (λ l. l ++ up_from (d - 1) (template_in u s) s.parts) f
      ∙ append_assoc found (u ∷ []) (up_from (d - 1) (template_in u s) s.parts)
      ∙ ap (λ l. found ++ l) (sym (ap (λ n. up_from d n s.parts) e ∙ up-some d u s pos)) ∙ g

  pub found-end : (d : ℕ) (o : Option ℕ) (found all : List ℕ) → o ≡ None → found ++ up_from d o s.parts ≡ all → found ≡ all
  found-end d o found all e g =
      sym (append-nil found) ∙ ap (λ l. found ++ l) (sym (ap (λ n. up_from d n s.parts) e ∙ up-none d s)) ∙ g

  pub found-zero : (o : Option ℕ) (found all : List ℕ) → found ++ up_from 0 o s.parts ≡ all → found ≡ all
  found-zero o found all g = sym (append-nil found) ∙ ap (λ l. found ++ l) (sym (up-zero o s)) ∙ g

  abbrev pub goes_on : ℕ → Option ℕ → Bool
  goes_on d o = nat_lt d (length (up_from (d + 1) o s.parts))

  pub long-step : (d u : ℕ) (o : Option ℕ) → 0 < d → o ≡ Some u → goes_on (d - 1) (template_in u s) ≡ goes_on d o
  long-step zero u o pos e = absurd (omega (arith, pos))
  long-step (suc d) u o pos e =
      let one : suc d - 1 ≡ d = omega arith in
      let more : suc d + 1 ≡ suc (d + 1) = omega arith in
      let many = ap (λ n. length (up_from (suc d + 1) n s.parts)) e ∙ ap (λ k. length (up_from k (Some u) s.parts)) more
      ∙ ap (λ (l : List ℕ). length l) (up-more (d + 1) u s) in
      same_test _ _
      (λ h. lt-ltb _ _ (let less = ltb-true _ _ h in let same = ap (λ k. length (up_from (k + 1) (template_in u s) s.parts)) one in
      omega (arith, less, many, same, one)))
      (λ h. lt-ltb _ _ (let less = ltb-true _ _ h in let same = ap (λ k. length (up_from (k + 1) (template_in u s) s.parts)) one in
      omega (arith, less, many, same, one)))

  pub long-end : (d : ℕ) (o : Option ℕ) → o ≡ None → false ≡ goes_on d o
  long-end d o e =
      let none = ap (λ n. length (up_from (d + 1) n s.parts)) e ∙ ap (λ (l : List ℕ). length l) (up-none (d + 1) s) in
      sym (not_true (goes_on d o) (λ h. let less = ltb-true _ _ h in omega (arith, less, none)))

  pub long-last : (o : Option ℕ) → is_some o ≡ goes_on 0 o
  long-last None = long-end 0 None refl
  long-last (Some u) = sym (lt-ltb _ _ (let is = ap (λ (l : List ℕ). length l) (up-more 0 u s) in omega (arith, is)))

-- ---- down from a template

-- each of the parts and those below it
abbrev pub below_all : ℕ → Parts → List Part → List ℕ
below_all d s xs = flat_map (λ x. x.number ∷ down_from d x.number s.parts) xs

pub below-step : (d : ℕ) (s : Parts) (rows : List (Bor Part)) (i : ℕ) (r : Bor Part) → i < length rows
    → r ≡ get_or rows i r → (found one more all : List ℕ) → one ≡ found ++ r.now.number ∷ []
    → more ≡ one ++ down_from d r.now.number s.parts
    → found ++ below_all d s (map (λ x. x.now) (drop i rows)) ≡ all
    → more ++ below_all d s (map (λ x. x.now) (drop (i + 1) rows)) ≡ all
below-step d s rows i r here is found one more all e f g =
    let n = r.now.number in
    let rest = below_all d s (map (λ y. y.now) (drop (i + 1) rows)) in
    ap (λ l. l ++ rest)
    (f ∙ ap (λ l. l ++ down_from d n s.parts) e ∙ append_assoc found (n ∷ []) (down_from d n s.parts))
    ∙ append_assoc found (n ∷ down_from d n s.parts) rest
    ∙ ap (λ l. found ++ l)
    (ap (λ (y : Bor Part). below_all d s (map (λ z. z.now) (y ∷ drop (i + 1) rows))) is
    ∙ sym (at_drop_more (λ (ys : List (Bor Part)). below_all d s (map (λ y. y.now) ys)) rows i r here)) ∙ g

pub below-end : (d : ℕ) (s : Parts) (rows : List (Bor Part)) (i : ℕ) → length rows ≤ i → (found all : List ℕ)
    → found ++ below_all d s (map (λ x. x.now) (drop i rows)) ≡ all → found ≡ all
below-end d s rows i end found all g =
    sym (append-nil found)
    ∙ ap (λ l. found ++ l)
    (sym (at_drop_all (λ (ys : List (Bor Part)). below_all d s (map (λ y. y.now) ys)) rows i end)) ∙ g

pub down-zero : (t : ℕ) (s : Parts) → down_from 0 t s.parts ≡ []
unfolding down_from
down-zero t s = refl

down-step : (d t : ℕ) (s : Parts) → down_from (suc d) t s.parts
    ≡ flat_map (λ x. x.number ∷ down_from d x.number s.parts) (variants_in t s.parts)
unfolding down_from
down-step d t s = refl

pub down-more : (d t : ℕ) (s : Parts) → (d ≡ 0 → ⊥) → down_from d t s.parts
    ≡ flat_map (λ x. x.number ∷ down_from (d - 1) x.number s.parts) (variants_in t s.parts)
down-more zero t s e = absurd (e refl)
down-more (suc d) t s e = let one : suc d - 1 ≡ d = omega arith in rw one (down-step d t s)

module _ (s : Parts) (own : StandUnderKeys (λ (x : Part). x.number ∷ []) s.parts) where
  -- a row that names the template
  abbrev below : ℕ → ℕ → Part → Bool
  below d p x = is_among (x.number ∷ down_from d x.number s.parts) p

  abbrev by_row : ℕ → ℕ → ℕ → Bool
  by_row d t p = list_any (λ x. is_number t x.template && below d p x) (table.values s.parts)

  among-down : (d t p : ℕ) → is_among (down_from (suc d) t s.parts) p ≡ by_row d t p
  among-down d t p =
      ap (λ l. is_among l p) (down-step d t s)
      ∙ among-added (λ (x : Part). x.number ∷ down_from d x.number s.parts) (λ x. is_number t x.template)
      (table.values s.parts) p

  is_number-named : (t : ℕ) (o : Option ℕ) → is_number t o ≡ true → o ≡ Some t
  is_number-named t None e = cc
  is_number-named t (Some m) e = ap (λ (n : ℕ). Some n) (eqb-true _ _ e)

  row-of : (x : Part) → Stands x (table.values s.parts) → part_in x.number s ≡ Some x
  row-of x st = let g = Stands-get s.parts x st in ap (table.get s.parts) (sym (own g.0 x g.1)) ∙ g.1

  down-up : (d t p : ℕ) → is_among (down_from d t s.parts) p ≡ true → is_among (above s d p) t ≡ true
  down-up zero t p e = let no : false ≡ true = ap (λ l. is_among l p) (sym (down-zero t s)) ∙ e in cc
  down-up (suc d) t p e =
      let f =
      any-found (λ (x : Part). is_number t x.template && below d p x) (table.values s.parts)
      (sym (among-down d t p) ∙ e) in
      let both = and_parts (is_number t f.0.template) _ f.2 in
      let names : template_in f.0.number s ≡ Some t =
      ap template_of (row-of f.0 f.1) ∙ is_number-named t f.0.template both.0 in
      elim (or_cases (f.0.number == p) _ both.1) [
        | inl h ↦ up-here s d (template_in p s) t (ap (λ n. template_in n s) (sym (eqb-true _ _ h)) ∙ names)
        | inr h ↦ up-top s d (template_in p s) f.0.number t (down-up d f.0.number p h) names
      ]

  up-down : (d t p : ℕ) → is_among (above s d p) t ≡ true → is_among (down_from d t s.parts) p ≡ true
  up-down zero t p e = absurd (none-above s (template_in p s) t e)
  up-down (suc d) t p e =
      let l = up-last s d p t e in
      among-down d t p ∙ go l.0 (part_in l.0 s) refl l.1 l.2 (λ n. up-down d n p)
    where
      go : (n : ℕ) (o : Option Part) → part_in n s ≡ o → template_of o ≡ Some t
          → (n ≡ p) ⊎ (is_among (above s d p) n ≡ true)
          → ((m : ℕ) → is_among (above s d p) m ≡ true → is_among (down_from d m s.parts) p ≡ true)
          → by_row d t p ≡ true
      go n None is f h less = cc
      go n (Some x) is f h less =
          let number : n ≡ x.number = same_digit _ _ (own (n ∷ []) x is) in
          let reached : below d p x ≡ true =
          (elim h [
            | inl i ↦ or_left (x.number == p) _ (eq-eqb _ _ (sym number ∙ i))
            | inr i ↦ or_right (x.number == p) _
                (ap (λ m. is_among (down_from d m s.parts) p) (sym number) ∙ less n i)
          ]) in
          any-from (λ (y : Part). is_number t y.template && below d p y) (table.values s.parts) x
          (get-Stands s.parts (n ∷ []) x is)
          (and_both _ _ (ap (is_number t) f ∙ eq-eqb t t refl) reached)

  -- what descends from a template is what is below it
  pub descendants-are : (t p : ℕ) → is_among (descendants t s) p ≡ descends p t s
  descendants-are t p = same_test _ _ (down-up 3 t p) (up-down 3 t p)

-- ---- where no template is a variant

module _ (s : Parts) (flat : AreFlat s) where
  flat-ancestors : (p t : ℕ) → template_in p s ≡ Some t → ancestors p s ≡ t ∷ []
  flat-ancestors p t e =
      ap (λ o. up_from 3 o s.parts) e ∙ up-more 2 t s
      ∙ ap (λ o. t ∷ up_from 2 o s.parts) (flat p t e) ∙ ap (λ (l : List ℕ). t ∷ l) (up-none 2 s)

  -- a family is named by the template, where there is one
  pub flat-family : (p : ℕ) → family p s ≡ unwrap_or (template_in p s) p
  flat-family p = go (template_in p s) refl
    where
      go : (o : Option ℕ) → template_in p s ≡ o → family p s ≡ unwrap_or o p
      go None e = ap (last_from p) (ap (λ o. up_from 3 o s.parts) e ∙ up-none 3 s)
      go (Some t) e = ap (last_from p) (flat-ancestors p t e)

  -- a variant is a part that names the template
  pub flat-descends : (p t : ℕ) → descends p t s ≡ is_number t (template_in p s)
  flat-descends p t = go (template_in p s) refl
    where
      go : (o : Option ℕ) → template_in p s ≡ o → descends p t s ≡ is_number t o
      go None e = ap (λ l. is_among l t) (ap (λ o. up_from 3 o s.parts) e ∙ up-none 3 s)
      go (Some u) e = ap (λ l. is_among l t) (flat-ancestors p u e) ∙ or-false (u == t)
