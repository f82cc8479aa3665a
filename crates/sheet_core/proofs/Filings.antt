-- What is filed, as a look-up in the set and in the log sees it.
use Rattle.std.proofs.Common.{◌≡◌, ◌==◌, ◌<◌, ◌≤◌, ◌^◌, inl, inr, ℕ, suc, zero, Bool, true}
use Rattle.std.proofs.Common.{false, cond, not, ◌||◌, List, [], ◌∷◌, ◌++◌, length, get_or}
use Rattle.std.proofs.Common.{None, refl, sym, ap, ◌∙◌, subst, arith, eqb-true, eq-eqb}
use Rattle.std.specs.Prelude.{◌&&◌, filter, nat_lt, slice_get}
use Rattle.std.specs.List.{list_any, AllByRecursion}
use Rattle.std.specs.List.Sorted.{IsStrictlySortedBy}
use Rattle.std.specs.Ordering.{nat_cmp, ordering_then, is_eq, is_le, is_lt}
use Rattle.std.specs.BTreeMap.{is_at}
use Rattle.std.specs.BTreeSet.{BTreeSet, contains}
use Rattle.std.specs.declared.cmp.Ordering.{Ordering}
use Rattle.std.specs.declared.cmp.Ordering.TheVariants.{Less, Equal}
use Rattle.std.specs.Cmp.{tied_then, tied_itself, nat_cmp_total}
use Rattle.std.proofs.lemmas.Bool.Decides.{nat_tests}
use Rattle.std.proofs.lemmas.List.Folds.{list_any-append}
use Rattle.sheet_core.specs.declared.index.Filing.{Filing}
use Rattle.sheet_core.specs.Index.{is_filed, filed_under, numbers_of, IsGrown, Rise}
use Rattle.sheet_core.specs.Indexed.{is_index_key}
use Rattle.sheet_core.proofs.Conditions.{and_parts, or_cases}

-- the order of filings: by key, and of one key by number
abbrev pub filing_cmp : Filing → Filing → Ordering
filing_cmp f e = ordering_then (nat_cmp f.key e.key) (nat_cmp f.number e.number)

tied : (a b : ℕ) → is_eq (nat_cmp a b) ≡ (b == a)
tied a b = grind (arith, nat_tests)

pub same_test : (f e : Filing) → is_eq (filing_cmp f e) ≡ ((e.key == f.key) && (e.number == f.number))
same_test f e =
    sym (tied_then (nat_cmp f.key e.key) (nat_cmp f.number e.number))
    ∙ ap (λ b. b && is_eq (nat_cmp f.number e.number)) (tied f.key e.key)
    ∙ ap (λ b. (e.key == f.key) && b) (tied f.number e.number)

-- tests that answer alike
pub any-alike : {X : Type 0} (p q : X → Bool) (xs : List X) → ((x : X) → p x ≡ q x) → list_any p xs ≡ list_any q xs
any-alike p q [] alike = refl
any-alike p q (x ∷ xs) alike = ap (λ b. b || list_any p xs) (alike x) ∙ ap (λ b. q x || b) (any-alike p q xs alike)

-- the set has what is filed
pub contains-filed : (s : BTreeSet Filing) (key number : ℕ)
    → contains filing_cmp s (record { key = key; number = number }) ≡ is_filed key number s.keys
contains-filed s key number = any-alike _ _ s.keys (λ f. same_test (record { key = key; number = number }) f)

module _ (fs ts : List Filing) where
  pub IsGrown-refl : IsGrown fs ts fs ts
  IsGrown-refl = record { filed = λ key n h. h; logged = λ key n h. h; new = λ key n h free. h }

  pub IsGrown-trans : (gs us hs vs : List Filing) → IsGrown fs ts gs us → IsGrown gs us hs vs → IsGrown fs ts hs vs
  IsGrown-trans gs us hs vs a b = record {
    filed = λ key n h. b.filed key n (a.filed key n h);
    logged = λ key n h. b.logged key n (a.logged key n h);
    new = λ key n h free. a.new key n (b.new key n h free) (unlogged key n (is_filed key n us) refl free);
  }
    where
      unlogged : (key n : ℕ) (c : Bool) → is_filed key n us ≡ c → is_filed key n vs ≡ false → is_filed key n us ≡ false
      unlogged key n false e free = e
      unlogged key n true e free = let yes = b.logged key n e in cc

  -- one more is logged
  pub IsGrown-logged : (us : List Filing) (f : Filing) → us ≡ ts ++ f ∷ [] → IsGrown fs ts fs us
  IsGrown-logged us f is = record {
    filed = λ key n h. h;
    logged =
        λ key n h. ap (is_filed key n) is
        ∙ list_any-append (λ e. (e.key == key) && (e.number == n)) ts (f ∷ [])
        ∙ left (is_filed key n ts) (is_filed key n (f ∷ [])) h;
    new = λ key n h free. h;
  }
    where
      left : (a b : Bool) → a ≡ true → (a || b) ≡ true
      left true b e = refl
      left false b e = cc

  pub filed-last : (us : List Filing) (f : Filing) → us ≡ ts ++ f ∷ [] → is_filed f.key f.number us ≡ true
  filed-last us f is =
      ap (is_filed f.key f.number) is
      ∙ list_any-append (λ e. (e.key == f.key) && (e.number == f.number)) ts (f ∷ [])
      ∙ right (is_filed f.key f.number ts) (is_filed f.key f.number (f ∷ [])) here
    where
      itself : (n : ℕ) → (n == n) ≡ true
      itself n = eq-eqb n n refl

      right : (a b : Bool) → b ≡ true → (a || b) ≡ true
      right true b e = refl
      right false b e = e

      here : is_filed f.key f.number (f ∷ []) ≡ true
      here = ap (λ b. (b && (f.number == f.number)) || false) (itself f.key) ∙ ap (λ b. b || false) (itself f.number)

-- one is filed, or taken out
module _ (s n : BTreeSet Filing) (f : Filing) (b : Bool)
    (updates : (q : Filing) → contains filing_cmp n q ≡ cond (is_at (filing_cmp f) q) b (contains filing_cmp s q)) where
  pub filed-updated : (key number : ℕ)
      → is_filed key number n.keys ≡ cond ((key == f.key) && (number == f.number)) b (is_filed key number s.keys)
  filed-updated key number =
      let q : Filing = record { key = key; number = number } in
      sym (contains-filed n key number)
      ∙ updates q
      ∙ ap (λ c. cond c b (contains filing_cmp s q)) (same_test f q)
      ∙ ap (cond ((key == f.key) && (number == f.number)) b) (contains-filed s key number)

module _ (s n : BTreeSet Filing) (f : Filing)
    (updates : (q : Filing)
    → contains filing_cmp n q ≡ cond (is_at (filing_cmp f) q) true (contains filing_cmp s q)) where
  -- what is logged is filed
  pub IsGrown-filed : (ts : List Filing) → is_filed f.key f.number ts ≡ true → IsGrown s.keys ts n.keys ts
  IsGrown-filed ts there = record {
    filed =
        λ key m h.
        filed-updated s n f true updates key m ∙ still ((key == f.key) && (m == f.number)) (is_filed key m s.keys) h;
    logged = λ key m h. h;
    new =
        λ key m h free.
        back key m ((key == f.key) && (m == f.number)) refl (sym (filed-updated s n f true updates key m) ∙ h) free;
  }
    where
      still : (c b : Bool) → b ≡ true → cond c true b ≡ true
      still true b e = refl
      still false b e = e

      back : (key m : ℕ) (c : Bool) → ((key == f.key) && (m == f.number)) ≡ c
          → cond c true (is_filed key m s.keys) ≡ true → is_filed key m ts ≡ false → is_filed key m s.keys ≡ true
      back key m false e h free = h
      back key m true e h free =
          let both = and_parts (key == f.key) (m == f.number) e in
          let here : is_filed key m ts ≡ true =
          ap (λ k. is_filed k m ts) (eqb-true key f.key both.0)
          ∙ ap (λ k. is_filed f.key k ts) (eqb-true m f.number both.1)
          ∙ there in
          cc

  pub filed-here : is_filed f.key f.number n.keys ≡ true
  filed-here =
      filed-updated s n f true updates f.key f.number
      ∙ ap (λ c. cond (c && (f.number == f.number)) true (is_filed f.key f.number s.keys)) (eq-eqb f.key f.key refl)
      ∙ ap (λ c. cond c true (is_filed f.key f.number s.keys)) (eq-eqb f.number f.number refl)

-- ---- the keys of a row, by place

-- a key among the first ones passes what each of them does
pub each-key : (P : ℕ → Type 0) (ks : List ℕ) (n key : ℕ) → ((j : ℕ) → j < n → P (get_or ks j 0)) → length ks ≤ n
    → is_index_key key ks ≡ true → P key
each-key P [] n key each past h = cc
each-key P (k ∷ ks) zero key each past h = absurd (omega arith)
each-key P (k ∷ ks) (suc n) key each past h = elim (or_cases (k == key) (is_index_key key ks) h) [
  | inl e ↦ subst P (eqb-true k key e) (each 0 (omega arith))
  | inr r ↦ each-key P ks n key (λ j low. each (suc j) (omega arith)) (omega arith) r
]

-- a key that none of the first ones is, is none
pub no-key : (ks : List ℕ) (n key : ℕ) → ((j : ℕ) → j < n → (get_or ks j 0 == key) ≡ false) → length ks ≤ n
    → is_index_key key ks ≡ false
no-key [] n key each past = refl
no-key (k ∷ ks) zero key each past = absurd (omega arith)
no-key (k ∷ ks) (suc n) key each past =
    ap (λ b. b || is_index_key key ks) (each 0 (omega arith))
    ∙ no-key ks n key (λ j low. each (suc j) (omega arith)) (omega arith)

-- the key at a place is one
pub key-at : (ks : List ℕ) (j key : ℕ) → j < length ks → get_or ks j 0 ≡ key → is_index_key key ks ≡ true
key-at [] j key low e = absurd (omega arith)
key-at (k ∷ ks) zero key low e = ap (λ b. b || is_index_key key ks) (eq-eqb k key e)
key-at (k ∷ ks) (suc j) key low e = right (k == key) (is_index_key key ks) (key-at ks j key (omega arith) e)
  where
    right : (a b : Bool) → b ≡ true → (a || b) ≡ true
    right true b e = refl
    right false b e = e

-- ---- what is filed under a key

first_to_last : (key k n : ℕ) → (is_le (ordering_then (nat_cmp key k) (nat_cmp 0 n))
    && not (is_lt (ordering_then (nat_cmp key k) (nat_cmp 18446744073709551615 n))))
    ≡ ((k == key) && nat_lt n 18446744073709551616)
first_to_last key k n = grind (arith, nat_tests)

-- whether it is none before the first of the key, and none after the last
abbrev is_between : ℕ → Filing → Bool
is_between key f =
    is_le (filing_cmp (record { key = key; number = 0 }) f)
    && not (is_lt (filing_cmp (record { key = key; number = 18446744073709551615 }) f))

-- the filings from the first of a key to its last
pub between-under : (key : ℕ) (fs : List Filing) → filter (is_between key) fs ≡ filed_under key fs
between-under key [] = refl
between-under key (f ∷ fs) =
    ap (λ b. cond b (f ∷ filter (is_between key) fs) (filter (is_between key) fs)) (first_to_last key f.key f.number)
    ∙ ap (λ l. cond ((f.key == key) && nat_lt f.number (2 ^ 64)) (f ∷ l) l) (between-under key fs)

less-number : (f e : Filing) → f.key ≡ e.key → filing_cmp f e ≡ Less → nat_cmp f.number e.number ≡ Less
less-number f e same less =
    let level : nat_cmp f.key e.key ≡ Equal = ap (nat_cmp f.key) (sym same) ∙ tied_itself nat_cmp_total f.key in
    sym (ap (λ o. ordering_then o (nat_cmp f.number e.number)) level) ∙ less

above-under : (key : ℕ) (f : Filing) (fs : List Filing) → f.key ≡ key → AllByRecursion (λ e. filing_cmp f e ≡ Less) fs
    → AllByRecursion (λ n. nat_cmp f.number n ≡ Less) (numbers_of (filed_under key fs))
above-under key f [] same up = tt
above-under key f (e ∷ fs) same up =
    elim ((e.key == key) && nat_lt e.number (2 ^ 64))
    as (λ b. ((e.key == key) && nat_lt e.number (2 ^ 64)) ≡ b → AllByRecursion (λ n. nat_cmp f.number n ≡ Less)
    (numbers_of (cond b (e ∷ filed_under key fs) (filed_under key fs)))) [
      | true ↦ λ is. (
        less-number f e (same ∙ sym (eqb-true e.key key (and_parts (e.key == key) _ is).0)) up.0,
        above-under key f fs same up.1,
      )
      | false ↦ λ is. above-under key f fs same up.1
    ] refl

-- the numbers under one key rise
pub rise-under : (key : ℕ) (fs : List Filing) → IsStrictlySortedBy filing_cmp fs
    → Rise (numbers_of (filed_under key fs))
unfolding IsStrictlySortedBy
rise-under key [] up = tt
rise-under key (f ∷ fs) up =
    elim ((f.key == key) && nat_lt f.number (2 ^ 64)) as (λ b. ((f.key == key) && nat_lt f.number (2 ^ 64)) ≡ b
    → Rise (numbers_of (cond b (f ∷ filed_under key fs) (filed_under key fs)))) [
      | true ↦
          λ is.
          (above-under key f fs (eqb-true f.key key (and_parts (f.key == key) _ is).0) up.0, rise-under key fs up.1)
      | false ↦ λ is. rise-under key fs up.1
    ] refl

-- no key stands at a place behind the last
pub past-end : (ks : List ℕ) (i : ℕ) → slice_get ks i ≡ None → length ks ≤ i
past-end [] i e = omega arith
past-end (k ∷ ks) zero e = cc
past-end (k ∷ ks) (suc i) e = let rest = past-end ks i e in omega arith
