-- What has an index key can be told from it, and is filed by the hash of that.
use Rattle.std.proofs.Common.{◌≡◌, ◌==◌, ◌+◌, ◌≤◌, ◌<◌, ℕ, suc, zero, Bool, true, false, cond, List, [], ◌∷◌, map}
use Rattle.std.proofs.Common.{refl, sym, ap, ◌∙◌, subst, arith, eqb-true, eq-eqb, inl, inr, ◌||◌}
use Rattle.std.specs.Prelude.{◌/◌, ◌%◌}
use Rattle.std.proofs.lemmas.Bool.Decides.{nat_tests}
use Rattle.sheet_core.specs.declared.seed.Seed.{Seed}
use Rattle.sheet_core.specs.Indexed.{IsFiledUnder, fed_by, hash_of, hashed, index_key_of, is_index_key}
use Rattle.sheet_core.specs.Indexed.{list_in, list_of, number_before, number_of, raised}
use Rattle.sheet_core.proofs.Conditions.{or_cases}

-- ---- halves

not_zero : (n : ℕ) → 0 < n → (n == 0) ≡ false
not_zero n low = grind (arith, nat_tests)

even : (n : ℕ) → ((n + n) % 2 == 0) ≡ true
even n = eq-eqb ((n + n) % 2) 0 (omega arith)

odd : (n : ℕ) → (suc (n + n) % 2 == 0) ≡ false
odd n = not_zero (suc (n + n) % 2) (omega arith)

half : (n : ℕ) → (n + n) / 2 ≡ n
half n = omega arith

half_of_odd : (n : ℕ) → suc (n + n) / 2 ≡ n
half_of_odd n = omega arith

some : (x m : ℕ) → 0 < number_before x m
unfolding number_before
some zero m = omega arith
some (suc x) m = let less = some x m in omega arith

-- ---- the list of a list's number is the list

module _ (d : ℕ) where
  step-first : (m : ℕ) → list_in (suc d) (suc (m + m)) ≡ 0 ∷ list_in d m
  unfolding list_in
  step-first m =
      ap (λ b. cond b [] (cond (suc (m + m) % 2 == 0) (raised (list_in d (suc (m + m) / 2))) (0 ∷ list_in d (suc (m + m) / 2))))
      (not_zero (suc (m + m)) (omega arith))
      ∙ ap (λ b. cond b (raised (list_in d (suc (m + m) / 2))) (0 ∷ list_in d (suc (m + m) / 2))) (odd m)
      ∙ ap (λ n. 0 ∷ list_in d n) (half_of_odd m)

  step-next : (m : ℕ) → 0 < m → list_in (suc d) (m + m) ≡ raised (list_in d m)
  unfolding list_in
  step-next m low =
      ap (λ b. cond b [] (cond ((m + m) % 2 == 0) (raised (list_in d ((m + m) / 2))) (0 ∷ list_in d ((m + m) / 2))))
      (not_zero (m + m) (omega arith))
      ∙ ap (λ b. cond b (raised (list_in d ((m + m) / 2))) (0 ∷ list_in d ((m + m) / 2))) (even m)
      ∙ ap (λ n. raised (list_in d n)) (half m)

told : (d : ℕ) (xs : List ℕ) → number_of xs ≤ d → list_in d (number_of xs) ≡ xs
unfolding list_in number_of number_before
told zero [] low = refl
told zero (x ∷ xs) low = let more = some x (number_of xs) in absurd (omega arith)
told (suc d) [] low = refl
told (suc d) (zero ∷ xs) low = step-first d (number_of xs) ∙ ap (λ l. 0 ∷ l) (told d xs (omega arith))
told (suc d) (suc x ∷ xs) low =
    let more = some x (number_of xs) in
    step-next d (number_before x (number_of xs)) more ∙ ap raised (told d (x ∷ xs) (omega arith))

list-told : (xs : List ℕ) → list_of (number_of xs) ≡ xs
list-told xs = told (number_of xs) xs (omega arith)

lists-told : (fed : List (List ℕ)) → map list_of (map number_of fed) ≡ fed
lists-told [] = refl
lists-told (xs ∷ fed) = ap (λ l. l ∷ map list_of (map number_of fed)) (list-told xs) ∙ ap (λ l. xs ∷ l) (lists-told fed)

-- what is fed can be told from its index key
pub fed-told : (fed : List (List ℕ)) → fed_by (index_key_of fed) ≡ fed
unfolding fed_by index_key_of
fed-told fed = ap (map list_of) (list-told (map number_of fed)) ∙ lists-told fed

-- ---- what has an index key has its hash

module _ (seed : Seed) where
  among : (key : ℕ) (ks : List ℕ) → is_index_key key ks ≡ true
      → is_index_key (hash_of seed key) (map (hash_of seed) ks) ≡ true
  among key [] h = cc
  among key (k ∷ ks) h = elim (or_cases (k == key) (is_index_key key ks) h) [
    | inl e ↦
        ap (λ b. b || is_index_key (hash_of seed key) (map (hash_of seed) ks))
        (eq-eqb (hash_of seed k) (hash_of seed key) (ap (hash_of seed) (eqb-true k key e)))
    | inr r ↦ right (hash_of seed k == hash_of seed key) _ (among key ks r)
  ]
    where
      right : (a b : Bool) → b ≡ true → (a || b) ≡ true
      right true b e = refl
      right false b e = e

  pub filed-by_hash : {X : Type 0} (keys : X → List ℕ) (key hash : ℕ) (p : X → Bool) → hash ≡ hash_of seed key
      → IsFiledUnder keys key p → IsFiledUnder (hashed seed keys) hash p
  filed-by_hash keys key hash p is under x e =
      subst (λ h. is_index_key h (hashed seed keys x) ≡ true) (sym is) (among key (keys x) (under x e))
