-- Words without names.
use Rattle.std.proofs.Common.{◌≡◌, ℕ, refl}
use Rattle.std.specs.Prelude.{Option, Some, None}
use Rattle.desk_wire.specs.Numbers.{number_in}
use Rattle.desk_wire.specs.RowWords.{WordsAreNumbers, number_of, row_at_word}

pub words_are_numbers : WordsAreNumbers
words_are_numbers table field word = go (number_in word) refl
  where
    go : (o : Option ℕ) → number_in word ≡ o → row_at_word None table field word ≡ number_of word
    go None e = rw e refl
    go (Some n) e = rw e refl
