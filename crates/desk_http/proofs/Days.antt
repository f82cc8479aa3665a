-- Days as parts of a path.
use Rattle.std.proofs.Common.{◌≡◌, ℕ, zero, suc, ◌+◌, ◌<◌, ◌≤◌, slice_index, List, [], ◌∷◌, Option}
use Rattle.std.proofs.Common.{Some, None, Bool, true, false, cond, refl, sym, ap, ◌∙◌, arith, ◌==◌}
use Rattle.std.specs.Prelude.{option_map, codes, ◌&&◌, not, nat_lt, nat_le}
use Rattle.std.specs.List.{list_all}
use Rattle.std.specs.Str.{IsUtf8, IsAscii}
use Rattle.std.proofs.lemmas.Str.{IsUtf8-from_ascii}
use Rattle.std.proofs.lemmas.Bool.Decides.{nat_tests}
use Rattle.word_core.specs.Pattern.{fits_pattern, is_digit_or}
use Rattle.word_core.specs.Day.{day_of}
use Rattle.desk_http.specs.Targets.{place_in}

no : (c : Bool) → (c && false) ≡ false
no true = refl
no false = refl

-- a text with a slash doesn't fit a pattern without one
unslashed : (ws s : List ℕ) (i : ℕ) → list_all (λ w. not (is_digit_or w 47)) ws ≡ true → place_in 47 s ≡ Some i
    → fits_pattern ws s ≡ false
unfolding place_in
unslashed [] [] i h e = absurd (cc)
unslashed [] (b ∷ s) i h e = refl
unslashed (w ∷ ws) [] i h e = refl
unslashed (w ∷ ws) (b ∷ s) i h e = by (is_digit_or w 47) refl (b == 47) refl (place_in 47 s) refl h e (unslashed ws s)
  where
    by : (d : Bool) → is_digit_or w 47 ≡ d → (c : Bool) → (b == 47) ≡ c → (o : Option ℕ) → place_in 47 s ≡ o
        → (not d && list_all (λ w. not (is_digit_or w 47)) ws) ≡ true
        → cond c (Some 0) (option_map (λ n. n + 1) o) ≡ Some i
        → ((j : ℕ) → list_all (λ w. not (is_digit_or w 47)) ws ≡ true → place_in 47 s ≡ Some j → fits_pattern ws s ≡ false)
        → (is_digit_or w b && fits_pattern ws s) ≡ false
    by true p c q o r h' e' ih = absurd (cc)
    by false p true q o r h' e' ih =
        let is : b ≡ 47 = grind (arith, nat_tests) in
        ap (λ v. is_digit_or w v && fits_pattern ws s) is ∙ ap (λ v. v && fits_pattern ws s) p
    by false p false q None r h' e' ih = absurd (cc)
    by false p false q (Some j) r h' e' ih = ap (λ v. is_digit_or w b && v) (ih j h' r) ∙ no (is_digit_or w b)

unfit : (s : List ℕ) → fits_pattern (codes "0000-00-00") s ≡ false → day_of s ≡ None
unfit s e = rw e refl

pub no_slash : (s : List ℕ) (i : ℕ) → place_in 47 s ≡ Some i → day_of s ≡ None
no_slash s i e = unfit s (unslashed (codes "0000-00-00") s i refl e)

ascii_digit : (w b : ℕ) → w < 128 → is_digit_or w b ≡ true → b < 128
ascii_digit w b h e = by (w == 48) refl e
  where
    low : (c : Bool) → nat_le b 57 ≡ c → (d : Bool) → (d && c) ≡ true → b < 128
    low true q d e' = let k : b ≤ 57 = grind (arith, nat_tests) in omega arith
    low false q true e' = absurd (cc)
    low false q false e' = absurd (cc)

    same : (c : Bool) → (b == w) ≡ c → c ≡ true → b < 128
    same true q e' = let k : b ≡ w = grind (arith, nat_tests) in omega (arith, k)
    same false q e' = absurd (cc)

    by : (c : Bool) → (w == 48) ≡ c → cond c (nat_le 48 b && nat_le b 57) (b == w) ≡ true → b < 128
    by true q e' = low (nat_le b 57) refl (nat_le 48 b) e'
    by false q e' = same (b == w) refl e'

-- a text that fits a pattern of ASCII is ASCII
ascii : (ws s : List ℕ) → list_all (λ w. nat_lt w 128) ws ≡ true → fits_pattern ws s ≡ true → IsAscii s
ascii [] [] h e i = omega arith
ascii [] (b ∷ s) h e i = absurd (cc)
ascii (w ∷ ws) [] h e i = absurd (cc)
ascii (w ∷ ws) (b ∷ s) h e i = by (nat_lt w 128) refl h (is_digit_or w b) refl e (ascii ws s) i
  where
    by : (c : Bool) → nat_lt w 128 ≡ c → (c && list_all (λ w. nat_lt w 128) ws) ≡ true → (d : Bool)
        → is_digit_or w b ≡ d → (d && fits_pattern ws s) ≡ true
        → (list_all (λ w. nat_lt w 128) ws ≡ true → fits_pattern ws s ≡ true → IsAscii s) → (i : ℕ)
        → slice_index (b ∷ s) i < 128
    by false q h' d r e' ih i = absurd (cc)
    by true q h' false r e' ih i = absurd (cc)
    by true q h' true r e' ih zero = let k : w < 128 = grind (arith, nat_tests) in ascii_digit w b k r
    by true q h' true r e' ih (suc i) = ih h' e' i

pub no_text : (s : List ℕ) → (IsUtf8 s → ⊥) → None ≡ day_of s
no_text s n = by (fits_pattern (codes "0000-00-00") s) refl
  where
    by : (c : Bool) → fits_pattern (codes "0000-00-00") s ≡ c → None ≡ day_of s
    by true q = absurd (n (IsUtf8-from_ascii s (ascii (codes "0000-00-00") s refl q)))
    by false q = sym (unfit s q)
