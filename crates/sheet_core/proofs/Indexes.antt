-- An index after what is filed or logged grows, after a row is given or goes, after `keep` or `back` of the rows, and
-- while it is swept.
use Rattle.std.proofs.Common.{◌≡◌, ◌==◌, ◌<◌, ◌^◌, inl, inr, arith, ℕ, Bool, true, false, cond, ◌||◌, List}
use Rattle.std.proofs.Common.{[], ◌∷◌, ◌++◌, Option, Some, None, refl, sym, ap, ◌∙◌, subst, eqb-true}
use Rattle.std.specs.Prelude.{◌&&◌, nat_lt}
use Rattle.std.specs.FinMap as table
use Rattle.std.specs.List.{list_any}
use Rattle.std.specs.BTreeMap.{is_at}
use Rattle.std.specs.BTreeSet.{BTreeSet, contains}
use Rattle.std.proofs.lemmas.List.Folds.{list_any-append}
use Rattle.std.proofs.lemmas.Bool.Decides.{nat_tests}
use Rattle.sheet_core.specs.declared.index.Filing.{Filing}
use Rattle.sheet_core.specs.Index.{is_filed, filed_under, numbers_of, has_key, IsExact}
use Rattle.sheet_core.specs.Index.{IsFiled, AreFiled, IsGrown, IsIndex, StandOwn, StandsOwn}
use Rattle.sheet_core.specs.Indexed.{IsFiledUnder}
use Rattle.sheet_core.specs.Sheet.{Rows, Table}
use Rattle.sheet_core.proofs.Conditions.{and_both, and_parts, or_cases}
use Rattle.sheet_core.proofs.Filings.{filed-updated, filing_cmp}
use Rattle.sheet_core.proofs.Keys.{key_eq, key_eq-self, key_eq-true}
use Rattle.sheet_core.proofs.RowLemmas.{same_digit}

pub or_false : (b : Bool) → (b || false) ≡ b
or_false true = refl
or_false false = refl

-- one that is popped from a log
module _ (ts us : List Filing) (f : Filing) (is : ts ≡ us ++ f ∷ []) (key n : ℕ) where
  popped : is_filed key n ts ≡ (is_filed key n us || (((f.key == key) && (f.number == n)) || false))
  popped = ap (is_filed key n) is ∙ list_any-append (λ e. (e.key == key) && (e.number == n)) us (f ∷ [])

  -- what is no longer logged is that one, or wasn't logged
  unlogged : is_filed key n us ≡ false → (b : Bool) → ((f.key == key) && (f.number == n)) ≡ b → is_filed key n ts ≡ b
  unlogged free b e =
      popped ∙ ap (λ c. c || (((f.key == key) && (f.number == n)) || false)) free ∙ ap (λ c. c || false) e ∙ or_false b

turn : (a b c d : ℕ) → ((a == c) && (b == d)) ≡ ((c == a) && (d == b))
turn a b c d = ap (λ x. x && (b == d)) (flip a c) ∙ ap (λ x. (c == a) && x) (flip b d)
  where
    flip : (m n : ℕ) → (m == n) ≡ (n == m)
    flip m n = grind (arith, nat_tests)

module _ {X : Type 0} (keys : X → List ℕ) (key_of : X → List ℕ) where
  pub IsIndex-empty : (s : Rows X) (fs ts : List Filing) → s.rows ≡ table.empty → s.before ≡ table.empty → fs ≡ []
      → IsIndex keys key_of s fs ts
  IsIndex-empty s fs ts rows before none = record {
    own = λ k x e. absurd (no_row s.rows rows k x e);
    own_before = λ k x e. absurd (no_row s.before before k x e);
    complete = λ n key h. absurd (no_key s.rows rows n key h);
    complete_before = λ n key h. absurd (no_key s.before before n key h);
    exact = λ key n h free. let bad : false ≡ true = sym (ap (is_filed key n) none) ∙ h in cc;
  }
    where
      no_row : (t : Table X) → t ≡ table.empty → (k : List ℕ) (x : X) → table.get t k ≡ Some x → ⊥
      no_row t is k x e =
          let clash : ◌≡◌ {A = Option X} None (Some x) = sym (ap (λ u. table.get u k) is ∙ table.get-empty _ k) ∙ e in
          cc

      no_key : (t : Table X) → t ≡ table.empty → (n key : ℕ) → has_key keys key (table.get t (n ∷ [])) ≡ true → ⊥
      no_key t is n key h =
          let bad : false ≡ true =
          sym (ap (λ u. has_key keys key (table.get u (n ∷ []))) is
          ∙ ap (has_key keys key) (table.get-empty _ (n ∷ [])))
          ∙ h in
          cc

  module _ (s : Rows X) (fs ts : List Filing) (i : IsIndex keys key_of s fs ts) where
    -- more is filed and logged
    pub IsIndex-grown : (gs us : List Filing) → IsGrown fs ts gs us → IsIndex keys key_of s gs us
    IsIndex-grown gs us g = record {
      own = i.own;
      own_before = i.own_before;
      complete = λ n key h. g.filed key n (i.complete n key h);
      complete_before = λ n key h. g.filed key n (i.complete_before n key h);
      exact = λ key n h free. i.exact key n (g.new key n h free) (free_before key n (is_filed key n ts) refl free);
    }
      where
        free_before : (key n : ℕ) (b : Bool) → is_filed key n ts ≡ b → is_filed key n us ≡ false
            → is_filed key n ts ≡ false
        free_before key n false e free = e
        free_before key n true e free = let yes = g.logged key n e in cc

    -- a number is given a row, or none: the row's keys are filed, and those of the row before are logged
    module _ (n : ℕ) (o : Option X) (t : Rows X) (before : t.before ≡ s.before)
        (rows : (k : List ℕ) → table.get t.rows k ≡ cond (key_eq k (n ∷ [])) o (table.get s.rows k))
        (own : (x : X) → o ≡ Some x → StandsOwn keys key_of (n ∷ []) x)
        (filed : IsFiled keys fs n o) (logged : IsFiled keys ts n (table.get s.rows (n ∷ []))) where
      own_given : StandOwn keys key_of t.rows
      own_given k x e = by (key_eq k (n ∷ [])) refl (sym (rows k) ∙ e)
        where
          by : (b : Bool) → key_eq k (n ∷ []) ≡ b → cond b o (table.get s.rows k) ≡ Some x → StandsOwn keys key_of k x
          by true is h = subst (λ q. StandsOwn keys key_of q x) (sym (key_eq-true k (n ∷ []) is)) (own x h)
          by false is h = i.own k x h

      filed_given : AreFiled keys fs t.rows
      filed_given m key h = by (key_eq (m ∷ []) (n ∷ [])) refl (sym (ap (has_key keys key) (rows (m ∷ []))) ∙ h)
        where
          by : (b : Bool) → key_eq (m ∷ []) (n ∷ []) ≡ b
              → has_key keys key (cond b o (table.get s.rows (m ∷ []))) ≡ true → is_filed key m fs ≡ true
          by true is h = ap (λ q. is_filed key q fs) (same_digit m n (key_eq-true (m ∷ []) (n ∷ []) is)) ∙ filed key h
          by false is h = i.complete m key h

      exact_given : (key m : ℕ) → is_filed key m fs ≡ true → is_filed key m ts ≡ false
          → has_key keys key (table.get t.rows (m ∷ [])) ≡ true
      exact_given key m h free = ap (has_key keys key) (rows (m ∷ [])) ∙ by (key_eq (m ∷ []) (n ∷ [])) refl
        where
          by : (b : Bool) → key_eq (m ∷ []) (n ∷ []) ≡ b
              → has_key keys key (cond b o (table.get s.rows (m ∷ []))) ≡ true
          by true is =
              let same = same_digit m n (key_eq-true (m ∷ []) (n ∷ []) is) in
              let had : has_key keys key (table.get s.rows (n ∷ [])) ≡ true =
              sym (ap (λ q. has_key keys key (table.get s.rows (q ∷ []))) same) ∙ (i.exact key m h free).0 in
              let yes : is_filed key m ts ≡ true = ap (λ q. is_filed key q ts) same ∙ logged key had in
              cc
          by false is = (i.exact key m h free).0

      pub IsIndex-given : IsIndex keys key_of t fs ts
      IsIndex-given = record {
        own = own_given;
        own_before = subst (StandOwn keys key_of) (sym before) i.own_before;
        complete = filed_given;
        complete_before = subst (AreFiled keys fs) (sym before) i.complete_before;
        exact = λ key m h free. (
          exact_given key m h free,
          ap (λ u. has_key keys key (table.get u (m ∷ []))) before ∙ (i.exact key m h free).1,
        );
      }

    -- the rows now become the rows before
    pub IsIndex-keep : (t : Rows X) → t.rows ≡ s.rows → t.before ≡ s.rows → IsIndex keys key_of t fs ts
    IsIndex-keep t rows before = record {
      own = subst (StandOwn keys key_of) (sym rows) i.own;
      own_before = subst (StandOwn keys key_of) (sym before) i.own;
      complete = subst (AreFiled keys fs) (sym rows) i.complete;
      complete_before = subst (AreFiled keys fs) (sym before) i.complete;
      exact = λ key n h free. (
        ap (λ u. has_key keys key (table.get u (n ∷ []))) rows ∙ (i.exact key n h free).0,
        ap (λ u. has_key keys key (table.get u (n ∷ []))) before ∙ (i.exact key n h free).0,
      );
    }

    -- the rows are again those before
    pub IsIndex-back : (t : Rows X) → t.rows ≡ s.before → t.before ≡ s.before → IsIndex keys key_of t fs ts
    IsIndex-back t rows before = record {
      own = subst (StandOwn keys key_of) (sym rows) i.own_before;
      own_before = subst (StandOwn keys key_of) (sym before) i.own_before;
      complete = subst (AreFiled keys fs) (sym rows) i.complete_before;
      complete_before = subst (AreFiled keys fs) (sym before) i.complete_before;
      exact = λ key n h free. (
        ap (λ u. has_key keys key (table.get u (n ∷ []))) rows ∙ (i.exact key n h free).1,
        ap (λ u. has_key keys key (table.get u (n ∷ []))) before ∙ (i.exact key n h free).1,
      );
    }

    -- ---- a filing is looked at again
    module _ (settled : s.rows ≡ s.before) (us : List Filing) (f : Filing) (pop : ts ≡ us ++ f ∷ []) where
      at_it : (key n : ℕ) → ((f.key == key) && (f.number == n)) ≡ true → (key ≡ f.key) × (n ≡ f.number)
      at_it key n e =
          let both = and_parts (f.key == key) (f.number == n) e in
          (sym (eqb-true f.key key both.0), sym (eqb-true f.number n both.1))

      -- its row has the key
      pub IsIndex-stays : has_key keys f.key (table.get s.rows (f.number ∷ [])) ≡ true → IsIndex keys key_of s fs us
      IsIndex-stays has = record {
        own = i.own;
        own_before = i.own_before;
        complete = i.complete;
        complete_before = i.complete_before;
        exact = λ key n h free. by key n h free ((f.key == key) && (f.number == n)) refl;
      }
        where
          by : (key n : ℕ) → is_filed key n fs ≡ true → is_filed key n us ≡ false → (b : Bool)
              → ((f.key == key) && (f.number == n)) ≡ b
              → (has_key keys key (table.get s.rows (n ∷ [])) ≡ true)
              × (has_key keys key (table.get s.before (n ∷ [])) ≡ true)
          by key n h free false e = i.exact key n h (unlogged ts us f pop key n free false e)
          by key n h free true e =
              let same = at_it key n e in
              let now : has_key keys key (table.get s.rows (n ∷ [])) ≡ true =
              ap (λ k. has_key keys k (table.get s.rows (n ∷ []))) same.0
              ∙ ap (λ m. has_key keys f.key (table.get s.rows (m ∷ []))) same.1
              ∙ has in
              (now, sym (ap (λ u. has_key keys key (table.get u (n ∷ []))) settled) ∙ now)

      -- its row lacks the key, and it is taken out
      module _ (lacks : has_key keys f.key (table.get s.rows (f.number ∷ [])) ≡ false) (a b : BTreeSet Filing)
          (old : a.keys ≡ fs)
          (updates : (q : Filing)
          → contains filing_cmp b q ≡ cond (is_at (filing_cmp f) q) false (contains filing_cmp a q)) where
        left : (key n : ℕ) → is_filed key n b.keys ≡ cond ((f.key == key) && (f.number == n)) false (is_filed key n fs)
        left key n =
            filed-updated a b f false updates key n
            ∙ ap (λ c. cond c false (is_filed key n a.keys)) (turn key n f.key f.number)
            ∙ ap (λ l. cond ((f.key == key) && (f.number == n)) false (is_filed key n l)) old

        still : AreFiled keys b.keys s.rows
        still n key h = left key n ∙ by ((f.key == key) && (f.number == n)) refl
          where
            by : (c : Bool) → ((f.key == key) && (f.number == n)) ≡ c → cond c false (is_filed key n fs) ≡ true
            by false e = i.complete n key h
            by true e =
                let same = at_it key n e in
                let bad : false ≡ true =
                sym lacks
                ∙ sym (ap (λ k. has_key keys k (table.get s.rows (n ∷ []))) same.0
                ∙ ap (λ m. has_key keys f.key (table.get s.rows (m ∷ []))) same.1)
                ∙ h in
                cc

        pub IsIndex-out : IsIndex keys key_of s b.keys us
        IsIndex-out = record {
          own = i.own;
          own_before = i.own_before;
          complete = still;
          complete_before = subst (AreFiled keys b.keys) settled still;
          exact = λ key n h free. by key n free ((f.key == key) && (f.number == n)) refl (sym (left key n) ∙ h);
        }
          where
            by : (key n : ℕ) → is_filed key n us ≡ false → (c : Bool) → ((f.key == key) && (f.number == n)) ≡ c
                → cond c false (is_filed key n fs) ≡ true
                → (has_key keys key (table.get s.rows (n ∷ [])) ≡ true)
                × (has_key keys key (table.get s.before (n ∷ [])) ≡ true)
            by key n free true e h = cc
            by key n free false e h = i.exact key n h (unlogged ts us f pop key n free false e)

    -- once nothing is logged, exactly the keys of the rows are filed
    pub IsExact-swept : ts ≡ [] → IsExact keys fs s.rows
    IsExact-swept swept key n = by (is_filed key n fs) refl (has_key keys key (table.get s.rows (n ∷ []))) refl
      where
        by : (b : Bool) → is_filed key n fs ≡ b → (c : Bool) → has_key keys key (table.get s.rows (n ∷ [])) ≡ c → b ≡ c
        by true e true h = refl
        by false e false h = refl
        by true e false h = let has = (i.exact key n e (ap (is_filed key n) swept)).0 in cc
        by false e true h = let there = i.complete n key h in cc

    -- ---- the number of a row that is looked for is among those under its key
    pub row-covered : (key : ℕ) (p : X → Bool) → IsFiledUnder keys key p → (k : List ℕ) (x : X)
        → table.get s.rows k ≡ Some x → p x ≡ true
        → list_any (λ n. key_eq k (n ∷ [])) (numbers_of (filed_under key fs)) ≡ true
    row-covered key p under k x e passes =
        let o = i.own k x e in
        let has : has_key keys key (table.get s.rows (o.number ∷ [])) ≡ true =
        ap (has_key keys key) (sym (ap (table.get s.rows) o.under) ∙ e) ∙ under x passes in
        subst (λ q. list_any (λ n. key_eq q (n ∷ [])) (numbers_of (filed_under key fs)) ≡ true) (sym o.under)
        (number-under key o.number o.fits fs (i.complete o.number key has))
      where
        number-under : (key n : ℕ) → n < 2 ^ 64 → (fs : List Filing) → is_filed key n fs ≡ true
            → list_any (λ m. key_eq (n ∷ []) (m ∷ [])) (numbers_of (filed_under key fs)) ≡ true
        number-under key n fits [] h = cc
        number-under key n fits (f ∷ fs) h = elim (or_cases ((f.key == key) && (f.number == n)) (is_filed key n fs) h) [
          | inl here ↦
              let both = and_parts (f.key == key) (f.number == n) here in
              let same = eqb-true f.number n both.1 in
              let low : nat_lt f.number (2 ^ 64) ≡ true = grind (arith, nat_tests) in
              let in_it : ((f.key == key) && nat_lt f.number (2 ^ 64)) ≡ true = and_both (f.key == key) _ both.0 low in
              ap (λ b. list_any (λ m. key_eq (n ∷ []) (m ∷ []))
              (numbers_of (cond b (f ∷ filed_under key fs) (filed_under key fs))))
              in_it
              ∙ ap (λ b. b || list_any (λ m. key_eq (n ∷ []) (m ∷ [])) (numbers_of (filed_under key fs)))
              (ap (λ m. key_eq (n ∷ []) (m ∷ [])) same ∙ key_eq-self (n ∷ []))
          | inr rest ↦
              elim ((f.key == key) && nat_lt f.number (2 ^ 64)) as (λ b. list_any (λ m. key_eq (n ∷ []) (m ∷ []))
              (numbers_of (cond b (f ∷ filed_under key fs) (filed_under key fs))) ≡ true) [
                | true ↦ right (key_eq (n ∷ []) (f.number ∷ [])) _ (number-under key n fits fs rest)
                | false ↦ number-under key n fits fs rest
              ]
        ]
          where
            right : (a b : Bool) → b ≡ true → (a || b) ≡ true
            right true b e = refl
            right false b e = e

    -- the row of a number that is looked for stands under it
    pub row-at : (n : ℕ) (p : X → Bool) → ((x : X) → p x ≡ true → key_of x ≡ n ∷ []) → (k : List ℕ) (x : X)
        → table.get s.rows k ≡ Some x → p x ≡ true
        → list_any (λ m. key_eq k (m ∷ [])) (n ∷ []) ≡ true
    row-at n p numbered k x e passes =
        let o = i.own k x e in
        let same : k ≡ n ∷ [] = o.under ∙ sym o.own ∙ numbered x passes in
        ap (λ q. key_eq q (n ∷ []) || false) same ∙ ap (λ b. b || false) (key_eq-self (n ∷ []))
