-- A text that is cut at its first ` / `.
use Rattle.std.proofs.Common.{◌≡◌, ◌∙◌, ◌≢◌, ℕ, suc, ◌<◌, ◌≤◌, ◌==◌, ◌&&◌, List, [], ◌∷◌, ◌++◌}
use Rattle.std.proofs.Common.{Some, None, ap, sym, refl, subst, codes, length, arith}
use Rattle.std.proofs.Common.{inl, inr}
use Rattle.std.proofs.lemmas.Bool.{and_parts, cases_Bool, eqb-true}
use Rattle.std.proofs.lemmas.List.{take-append-drop}
use Rattle.std.specs.Str.Pattern.{FindsText, LacksTextAt, SplitsAroundMatch}
use Rattle.std.specs.Prelude.{Option}
use Rattle.part_core.specs.declared.found.Found.TheVariants.{One}
use Rattle.desk_wire.specs.TextWays.{Tree, behind_stroke, cut_at_stroke, led_by}

-- no ` / ` stands at the front
behind_none : (bs : List ℕ) → ((rest : List ℕ) → bs ≢ codes " / " ++ rest) → behind_stroke bs ≡ None
behind_none [] h = refl
behind_none (a ∷ []) h = refl
behind_none (a ∷ b ∷ []) h = refl
behind_none (a ∷ b ∷ c ∷ bs) h = elim (cases_Bool (a == 32 && (b == 47 && c == 32))) [
  | inl t ↦
      let first = and_parts (a == 32) (b == 47 && c == 32) t in
      let others = and_parts (b == 47) (c == 32) first.1 in
      let is : a ∷ b ∷ c ∷ bs ≡ codes " / " ++ bs =
      ap (λ n. n ∷ b ∷ c ∷ bs) (eqb-true a 32 first.0)
      ∙ ap (λ n. 32 ∷ n ∷ c ∷ bs) (eqb-true b 47 others.0)
      ∙ ap (λ n. 32 ∷ 47 ∷ n ∷ bs) (eqb-true c 32 others.1) in
      absurd (h bs is)
  | inr f ↦ rw f refl
]

-- none stands anywhere
pub cut_none : (bs : List ℕ) → ((i : ℕ) → i ≤ length bs → LacksTextAt (codes " / ") bs i)
    → cut_at_stroke bs ≡ (bs, None)
cut_none [] h = refl
cut_none (b ∷ bs) h =
    let later = cut_none bs (λ i le. h (suc i) (omega (arith, le))) in
    let here = behind_none (b ∷ bs) (h 0 (omega arith)) in
    rw (here, later) refl

-- the first stands behind these bytes
pub cut_first : (xs bs : List ℕ)
    → ((i : ℕ) → i < length xs → LacksTextAt (codes " / ") (xs ++ (codes " / " ++ bs)) i)
    → cut_at_stroke (xs ++ (codes " / " ++ bs)) ≡ (xs, Some bs)
cut_first [] bs h = refl
cut_first (x ∷ xs) bs h =
    let later = cut_first xs bs (λ i lt. h (suc i) (omega (arith, lt))) in
    let here = behind_none (x ∷ (xs ++ (codes " / " ++ bs))) (h 0 (omega arith)) in
    rw (here, later) refl

-- what a cut text gives
pub cut_some : (bs front back : List ℕ) → SplitsAroundMatch (FindsText (codes " / ")) bs front back
    → cut_at_stroke bs ≡ (front, Some back)
cut_some bs front back (i, j, found, is_front, is_back, le, long, more) =
    let whole : bs ≡ front ++ (codes " / " ++ back) =
    sym (take-append-drop i bs) ∙ (λ k. sym is_front k ++ (found.1.split ∙ ap (λ r. codes " / " ++ r) (sym is_back)) k) in
    let first : (k : ℕ) → k < length front → LacksTextAt (codes " / ") (front ++ (codes " / " ++ back)) k =
    λ k lt. subst (λ all. LacksTextAt (codes " / ") all k) whole (found.0 k (omega (arith, lt, long))) in
    ap cut_at_stroke whole ∙ cut_first front back first

-- the row that was found leads on, with what is left
pub led_on : (child : Tree) (steps : ℕ) (parent : Option ℕ) (text rest : List ℕ) (n : ℕ)
    → child parent (cut_at_stroke text).0 ≡ One n → (cut_at_stroke text).1 ≡ Some rest
    → led_by child (suc steps) parent text ≡ led_by child steps (Some n) rest
led_on child steps parent text rest n found more = rw (found, more) refl
