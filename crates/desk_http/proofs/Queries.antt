-- The words of a query, one after another.
use Rattle.std.proofs.Common.{◌≡◌, ◌∙◌, ℕ, ◌+◌, ◌<◌, List, length, map, drop, get_or, ap, sym, Option, Some, None}
use Rattle.std.specs.Iterator.{Yields}
use Rattle.std.proofs.lemmas.Iterator.{YieldsList}
use Rattle.std.proofs.lemmas.Iterator.Consumers.{YieldsList-turn, YieldsList-end}
use Rattle.std.proofs.lemmas.List.{at_drop_more}
use Rattle.desk_http.specs.Targets.{◌then◌, word_said, words_said}
use Rattle.desk_http.specs.declared.query.Query.{Query}

-- a word's turn
pub word_turn : (said : Query) (parts : List (List ℕ)) (i : ℕ) (word : List ℕ)
    → (i < length parts) × (word ≡ get_or parts i word)
    → words_said said (drop i parts) ≡ (word_said said word then λ more. words_said more (drop (i + 1) parts))
word_turn said parts i word h =
    at_drop_more (words_said said) parts i word h.0
    ∙ ap (λ w. word_said said w then λ more. words_said more (drop (i + 1) parts)) (sym h.1)

-- where a word stands in the list of them, and that all came, by what came before
module _ {S A B : Type 0} {steps : S → Option A → S → Type 0} {v : A → B} {s : S} {all : List B} (xs : List A) (t : S)
    (y : Yields steps s xs t) (r : Option A) (u : S) where
  pub comes_next : (x : A) → r ≡ Some x → steps t r u → YieldsList steps v s all
      → (length xs < length all) × (v x ≡ get_or all (length xs) (v x))
  comes_next x is goes e = YieldsList-turn e xs t y r u x is goes

  pub all_came : r ≡ None → steps t r u → YieldsList steps v s all → (map v xs ≡ all) × (length xs ≡ length all)
  all_came is goes e = YieldsList-end e xs t y r u is goes
