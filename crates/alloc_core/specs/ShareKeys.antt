-- Shares are equal exactly where their digits are.
use Rattle.std.specs.Prelude.{◌≡◌, ◌↔◌, ◌==◌, ◌&&◌, ℕ, Bool, true, false, List, [], ◌∷◌, Some, None, IsTrue, length}
use Rattle.std.proofs.Common.{◌∙◌, refl, sym, ap, drop, get_or}
use Rattle.std.proofs.lemmas.Bool.{eqb-true, eq-eqb, true≢false, false≢true}
use Rattle.sheet_core.proofs.Conditions.{and_both, and_parts}
use Rattle.alloc_core.specs.contracts.share.SharePartialEq.TheImpl as equality
use Rattle.alloc_core.specs.ShareSums.{share_digits}
use Rattle.alloc_core.specs.declared.share.Share.{Share}
use Rattle.alloc_core.specs.declared.share.Share.TheVariants.{Item, SaleLine, BuildLine}

second : (d m n : ℕ) → (d ∷ m ∷ []) ≡ (d ∷ n ∷ []) → m ≡ n
second d m n e = ap (λ (k : List ℕ). get_or k 1 0) e

apart : (m n : ℕ) → (m == n) ≡ false → m ≡ n → ⊥
apart m n differs same = true≢false (sym (eq-eqb m n same) ∙ differs)

-- keys that begin otherwise differ
differ : (m n : ℕ) (ks ls : List ℕ) → (m == n) ≡ false → IsTrue false ↔ ((m ∷ ks) ≡ (n ∷ ls))
differ m n ks ls differs =
    (λ e. absurd (false≢true e), λ e. absurd (apart m n differs (ap (λ (k : List ℕ). get_or k 0 0) e)))

-- no list has one number and none
none-one : (n : ℕ) → [] ≡ n ∷ [] → ⊥
none-one n e = apart 0 1 refl (ap (λ (k : List ℕ). length k) e)

-- keys of lines of builds, of which the rest is equal where the test holds
same_lines : (b l c k : ℕ) (test : Bool) (ks ls : List ℕ) → (test ≡ true → ks ≡ ls) → (ks ≡ ls → test ≡ true)
    → IsTrue ((b == c) && ((l == k) && test)) ↔ ((2 ∷ b ∷ l ∷ ks) ≡ (2 ∷ c ∷ k ∷ ls))
same_lines b l c k test ks ls to from = (
  (λ e. let build = and_parts (b == c) ((l == k) && test) e in let line = and_parts (l == k) test build.1 in
      ap (λ x. 2 ∷ x ∷ l ∷ ks) (eqb-true b c build.0)
      ∙ ap (λ x. 2 ∷ c ∷ x ∷ ks) (eqb-true l k line.0)
      ∙ ap (λ x. 2 ∷ c ∷ k ∷ x) (to line.1)),
  (λ e. and_both (b == c) ((l == k) && test) (eq-eqb b c (ap (λ (k : List ℕ). get_or k 1 0) e))
      (and_both (l == k) test (eq-eqb l k (ap (λ (k : List ℕ). get_or k 2 0) e)) (from (ap (drop 3) e)))),
)

pub share_exact : (a b : Share) → IsTrue (equality.ghosts.eq a b) ↔ (share_digits a ≡ share_digits b)
share_exact (Item m) (Item n) = (λ e. ap (λ k. 0 ∷ k ∷ []) (eqb-true m n e), λ e. eq-eqb m n (second 0 m n e))
share_exact (Item m) (SaleLine n) = differ 0 1 (m ∷ []) (n ∷ []) refl
share_exact (Item m) (BuildLine b l None) = differ 0 2 (m ∷ []) (b ∷ l ∷ []) refl
share_exact (Item m) (BuildLine b l (Some o)) = differ 0 2 (m ∷ []) (b ∷ l ∷ o ∷ []) refl
share_exact (SaleLine m) (Item n) = differ 1 0 (m ∷ []) (n ∷ []) refl
share_exact (SaleLine m) (SaleLine n) = (λ e. ap (λ k. 1 ∷ k ∷ []) (eqb-true m n e), λ e. eq-eqb m n (second 1 m n e))
share_exact (SaleLine m) (BuildLine b l None) = differ 1 2 (m ∷ []) (b ∷ l ∷ []) refl
share_exact (SaleLine m) (BuildLine b l (Some o)) = differ 1 2 (m ∷ []) (b ∷ l ∷ o ∷ []) refl
share_exact (BuildLine b l None) (Item n) = differ 2 0 (b ∷ l ∷ []) (n ∷ []) refl
share_exact (BuildLine b l (Some o)) (Item n) = differ 2 0 (b ∷ l ∷ o ∷ []) (n ∷ []) refl
share_exact (BuildLine b l None) (SaleLine n) = differ 2 1 (b ∷ l ∷ []) (n ∷ []) refl
share_exact (BuildLine b l (Some o)) (SaleLine n) = differ 2 1 (b ∷ l ∷ o ∷ []) (n ∷ []) refl
share_exact (BuildLine b l None) (BuildLine c k None) = same_lines b l c k true [] [] (λ e. refl) (λ e. refl)
share_exact (BuildLine b l None) (BuildLine c k (Some p)) =
    same_lines b l c k false [] (p ∷ []) (λ e. absurd (false≢true e)) (λ e. absurd (none-one p e))
share_exact (BuildLine b l (Some o)) (BuildLine c k None) =
    same_lines b l c k false (o ∷ []) [] (λ e. absurd (false≢true e)) (λ e. absurd (none-one o (sym e)))
share_exact (BuildLine b l (Some o)) (BuildLine c k (Some p)) =
    same_lines b l c k (o == p) (o ∷ []) (p ∷ [])
    (λ e. ap (λ x. x ∷ []) (eqb-true o p e)) (λ e. eq-eqb o p (ap (λ (k : List ℕ). get_or k 0 0) e))
