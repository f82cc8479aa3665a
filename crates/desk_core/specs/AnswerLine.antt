-- Answers as text.
use Rattle.std.specs.Prelude.{◌≡◌, ℕ, ◌+◌, ◌-◌, ◌*◌, ◌%◌, ◌^◌, ◌&&◌, nat_le, List, [], ◌∷◌, ◌++◌}
use Rattle.std.specs.Prelude.{Bool, true, false, if◌then◌else◌, Option, Some, None, decimal, codes}
use Rattle.std.specs.Str.{bytes_eq}
use Rattle.sheet_core.specs.Columns.{◌>>=◌, must}
use Rattle.word_core.specs.declared.answer.Answer.{Answer}
use Rattle.desk_core.specs.CommandText.{AreFit, Fits}

-- numbers with a comma between two
abbrev pub numbers_text : Bool → List ℕ → List ℕ
numbers_text later [] = []
numbers_text later (n ∷ ns) = (if later then 44 ∷ [] else []) ++ (decimal n ++ numbers_text true ns)

-- the line that tells an answer, without its LF
abbrev pub answer_line : Answer → List ℕ
answer_line answer =
    codes "{\"entries\":" ++ decimal answer.entries ++ codes ",\"ids\":[" ++ numbers_text false answer.ids ++ codes "]}"

-- ---- read again

abbrev pub is_digit : ℕ → Bool
is_digit b = nat_le 48 b && nat_le b 57

-- a number whose digits so far are those of n, where one has begun, with one digit more, in 64 bits
abbrev pub with_digit : Option ℕ → ℕ → ℕ
with_digit None b = b - 48
with_digit (Some n) b = (n * 10 + (b - 48)) % (2 ^ 64)

abbrev pub before : Option ℕ → List ℕ → List ℕ
before None ns = ns
before (Some n) ns = n ∷ ns

-- the numbers whose digits stand in a text, in order; of the first some digits may be known
abbrev pub numbers_in : Option ℕ → List ℕ → List ℕ
numbers_in begun [] = before begun []
numbers_in begun (b ∷ bs) =
    if is_digit b then numbers_in (Some (with_digit begun b)) bs else before begun (numbers_in None bs)

-- the first number tells the entries, the others are the ids
abbrev pub answer_of_numbers : List ℕ → Option Answer
answer_of_numbers [] = None
answer_of_numbers (n ∷ ns) = Some (record { ids = ns; entries = n })

-- the answer that a text tells: none where the text isn't an answer's line
abbrev pub answer_told : List ℕ → Option Answer
answer_told text = do
  answer ← answer_of_numbers (numbers_in None text)
  same ← must (bytes_eq (answer_line answer) text)
  Some answer

-- an answer is read again from its line
abbrev pub LinesTellAnswers : Type 0
LinesTellAnswers =
    (answer : Answer) → Fits answer.entries → AreFit answer.ids → answer_told (answer_line answer) ≡ Some answer
