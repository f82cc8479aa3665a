-- A word in a text.
use Rattle.std.proofs.Common.{◌≡◌, ◌++◌, ◌∷◌, ℕ, List, [], true, ap, drop, length, refl, inl, inr}
use Rattle.std.specs.Bool.{Decides}
use Rattle.std.specs.Str.Iter.{HasSubslice}
use Rattle.std.proofs.lemmas.Bool.{or_cases, or_left, or_right}
use Rattle.std.proofs.lemmas.Bool.Decides.{Decides-eqb}
use Rattle.std.proofs.lemmas.Slice.Eq.{starts_is}
use Rattle.list_core.specs.FindList.{begins_with, has_word}

-- a text begins with the word where the word and a rest make it up
begins : (word text : List ℕ) → begins_with word text ≡ true → text ≡ word ++ drop (length word) text
begins word text = (starts_is Decides-eqb text word (begins_with word text) refl).0

begins_from : (word text rest : List ℕ) → text ≡ word ++ rest → begins_with word text ≡ true
begins_from word text = (starts_is Decides-eqb text word (begins_with word text) refl).1

stands : (word text : List ℕ) → has_word word text ≡ true → HasSubslice text word
stands word [] told = ([], drop (length word) [], begins word [] told)
stands word (c ∷ cs) told =
    elim (or_cases (begins_with word (c ∷ cs)) (has_word word cs) told) [
      | inl here ↦ ([], drop (length word) (c ∷ cs), begins word (c ∷ cs) here)
      | inr later ↦ let found : HasSubslice cs word = stands word cs later in
          (c ∷ found.0, found.1, ap (λ l. c ∷ l) found.2)
    ]

stands_from : (word text before rest : List ℕ) → text ≡ before ++ (word ++ rest) → has_word word text ≡ true
stands_from word [] [] rest same = begins_from word [] rest same
stands_from word [] (x ∷ xs) rest same = cc
stands_from word (c ∷ cs) [] rest same =
    or_left (begins_with word (c ∷ cs)) (has_word word cs) (begins_from word (c ∷ cs) rest same)
stands_from word (c ∷ cs) (x ∷ xs) rest same =
    or_right (begins_with word (c ∷ cs)) (has_word word cs) (stands_from word cs xs rest (cc))

-- the test is whether something before the word and something behind it make up the text
pub has_word_tells : (word text : List ℕ) → Decides (has_word word text) (HasSubslice text word)
has_word_tells word text = (stands word text, λ found. stands_from word text found.0 found.1 found.2)
