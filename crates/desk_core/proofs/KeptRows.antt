-- An answer is read again from its line, and a kept answer from its columns, and from no others.
use Rattle.std.proofs.Common.{◌≡◌, ℕ, zero, suc, ◌+◌, ◌/◌, ◌%◌, ◌<◌, ◌≤◌, ◌^◌, Bool, true, false, cond, List, []}
use Rattle.std.proofs.Common.{◌∷◌, ◌++◌, Option, Some, None, refl, sym, ap, ◌∙◌, arith, get_or, Fits as In, w64}
use Rattle.std.specs.Prelude.{codes, decimal, nat_lt, slice_get}
use Rattle.std.specs.Str.{bytes_eq}
use Rattle.std.proofs.lemmas.List.{append_assoc}
use Rattle.std.proofs.lemmas.Bool.Decides.{nat_tests}
use Rattle.std.proofs.lemmas.Fmt.{decimal_digit, decimal_step}
use Rattle.std.proofs.lemmas.Slice.Eq.{bytes_eq-Decides}
use Rattle.word_core.specs.declared.answer.Answer.{Answer}
use Rattle.sheet_core.specs.declared.column.Column.{Column}
use Rattle.sheet_core.specs.declared.column.Column.TheVariants.{Text}
use Rattle.sheet_core.specs.Columns.{has, must, text_at}
use Rattle.sheet_core.proofs.ColumnLemmas.{bound, found, has-is, text_at-is, fitting-is, same_columns}
use Rattle.desk_core.specs.AnswerLine.{LinesTellAnswers, answer_line, answer_of_numbers, answer_told}
use Rattle.desk_core.specs.AnswerLine.{before, is_digit, numbers_in, numbers_text, with_digit}
use Rattle.desk_core.specs.CommandText.{AreFit, Fits}
use Rattle.desk_core.specs.Key.{is_key}
use Rattle.desk_core.specs.KeptColumns.{answer_at, kept_columns, kept_from, key_at}
use Rattle.desk_core.specs.declared.kept.Kept.{Kept}

-- ---- numbers

digit_is : (d : ℕ) → d < 10 → is_digit (48 + d) ≡ true
digit_is d low = grind (arith, nat_tests, low)

-- a digit goes on with the number that has begun
goes_on : (begun : Option ℕ) (d : ℕ) (rest : List ℕ) → d < 10
    → numbers_in begun ((48 + d) ∷ rest) ≡ numbers_in (Some (with_digit begun (48 + d))) rest
goes_on begun d rest low =
    ap (λ b. cond b (numbers_in (Some (with_digit begun (48 + d))) rest) (before begun (numbers_in None rest)))
    (digit_is d low)

-- a digit, at the start of what is left
digit_read : (n : ℕ) (rest : List ℕ) → n < 10 → numbers_in None (decimal n ++ rest) ≡ numbers_in (Some n) rest
digit_read n rest low =
    ap (λ ds. numbers_in None (ds ++ rest)) (decimal_digit n low)
    ∙ goes_on None n rest low
    ∙ ap (λ m. numbers_in (Some m) rest) (omega arith)

-- one digit more behind those of a tenth
step_read : (n : ℕ) (rest : List ℕ) → 10 ≤ n → n < 2 ^ 64
    → ((more : List ℕ) → numbers_in None (decimal (n / 10) ++ more) ≡ numbers_in (Some (n / 10)) more)
    → numbers_in None (decimal n ++ rest) ≡ numbers_in (Some n) rest
step_read n rest high fits tenth =
    ap (λ ds. numbers_in None (ds ++ rest)) (decimal_step n high fits)
    ∙ ap (numbers_in None) (append_assoc (decimal (n / 10)) ((48 + n % 10) ∷ []) rest)
    ∙ tenth ((48 + n % 10) ∷ rest)
    ∙ goes_on (Some (n / 10)) (n % 10) rest (omega arith)
    ∙ ap (λ m. numbers_in (Some m) rest) (omega (arith, fits))

-- the digits of a number, at the start of what is left
digits_read : (most n : ℕ) → n ≤ most → n < 2 ^ 64 → (rest : List ℕ)
    → numbers_in None (decimal n ++ rest) ≡ numbers_in (Some n) rest
digits_read zero n le fits rest = digit_read n rest (omega (arith, le))
digits_read (suc most) n le fits rest =
    by_size (nat_lt n 10) refl (λ high. digits_read most (n / 10) (omega (arith, le, high)) (omega (arith, fits)))
  where
    by_size : (b : Bool) → nat_lt n 10 ≡ b
        → (10 ≤ n → (more : List ℕ) → numbers_in None (decimal (n / 10) ++ more) ≡ numbers_in (Some (n / 10)) more)
        → numbers_in None (decimal n ++ rest) ≡ numbers_in (Some n) rest
    by_size true e tenth = digit_read n rest (grind (arith, nat_tests, e))
    by_size false e tenth = let high : 10 ≤ n = grind (arith, nat_tests, e) in step_read n rest high fits (tenth high)

number_read : (n : ℕ) → Fits n → (rest : List ℕ) → numbers_in None (decimal n ++ rest) ≡ numbers_in (Some n) rest
number_read n fits rest = digits_read n n (omega arith) fits rest

-- numbers that are of 64 bits, each
pub fit_each : (ns : List ℕ) → ((i : ℕ) → In w64 (get_or ns i 0)) → AreFit ns
fit_each [] each = tt
fit_each (n ∷ ns) each = (omega (arith, each zero), fit_each ns (λ i. each (suc i)))

-- ---- answers

-- the numbers behind one whose digits were read
later_read : (m : ℕ) (ids : List ℕ) → AreFit ids → numbers_in (Some m) (numbers_text true ids ++ codes "]}") ≡ m ∷ ids
later_read m [] fit = refl
later_read m (n ∷ ns) fit =
    ap (λ rest. m ∷ rest)
    (ap (numbers_in None) (append_assoc (decimal n) (numbers_text true ns) (codes "]}"))
    ∙ number_read n fit.0 (numbers_text true ns ++ codes "]}")
    ∙ later_read n ns fit.1)

ids_read : (ids : List ℕ) → AreFit ids → numbers_in None (numbers_text false ids ++ codes "]}") ≡ ids
ids_read [] fit = refl
ids_read (n ∷ ns) fit =
    ap (numbers_in None) (append_assoc (decimal n) (numbers_text true ns) (codes "]}"))
    ∙ number_read n fit.0 (numbers_text true ns ++ codes "]}")
    ∙ later_read n ns fit.1

line_shape : (answer : Answer)
    → answer_line answer ≡ codes "{\"entries\":"
    ++ (decimal answer.entries ++ (codes ",\"ids\":[" ++ (numbers_text false answer.ids ++ codes "]}")))
line_shape answer =
    let start = codes "{\"entries\":" in
    let entries = decimal answer.entries in
    let middle = codes ",\"ids\":[" in
    let ids = numbers_text false answer.ids in
    append_assoc (start ++ entries ++ middle) ids (codes "]}")
    ∙ append_assoc (start ++ entries) middle (ids ++ codes "]}")
    ∙ append_assoc start entries (middle ++ (ids ++ codes "]}"))

line_numbers : (answer : Answer) → Fits answer.entries → AreFit answer.ids
    → numbers_in None (answer_line answer) ≡ answer.entries ∷ answer.ids
line_numbers answer entries ids =
    ap (numbers_in None) (line_shape answer)
    ∙ number_read answer.entries entries (codes ",\"ids\":[" ++ (numbers_text false answer.ids ++ codes "]}"))
    ∙ ap (λ ns. answer.entries ∷ ns) (ids_read answer.ids ids)

same_text : (text : List ℕ) → bytes_eq text text ≡ true
same_text text = (bytes_eq-Decides text text).1 refl

pub lines_tell_answers : LinesTellAnswers
lines_tell_answers answer entries ids = rw (line_numbers answer entries ids, same_text (answer_line answer)) refl

-- an answer's line is the text that it was read from
told_line : (text : List ℕ) (answer : Answer) → answer_told text ≡ Some answer → answer_line answer ≡ text
told_line text answer e =
    let read = bound (answer_of_numbers (numbers_in None text)) _ answer e in
    let same = bound (must (bytes_eq (answer_line read.0) text)) _ answer read.2 in
    found answer_line read.0 answer same.2 ∙ written read.0 same.0 same.1
  where
    written : (one : Answer) (u : Unit {0}) → must (bytes_eq (answer_line one) text) ≡ Some u → answer_line one ≡ text
    written one u = held (bytes_eq (answer_line one) text) refl
      where
        held : (b : Bool) → bytes_eq (answer_line one) text ≡ b → must b ≡ Some u → answer_line one ≡ text
        held true p h = (bytes_eq-Decides (answer_line one) text).0 p
        held false p h = cc

-- ---- kept answers

pub kept_read : (row : Kept) → is_key row.word ≡ true → Fits row.answer.entries → AreFit row.answer.ids
    → kept_from (kept_columns row) ≡ Some row
kept_read row word entries ids = rw (word, lines_tell_answers row.answer entries ids) refl

key_at-is : (i : ℕ) (cs : List Column) (word : List ℕ) → key_at i cs ≡ Some word → slice_get cs i ≡ Some (Text word)
key_at-is i cs word e =
    let text = bound (text_at i cs) _ word e in
    text_at-is i cs text.0 text.1 ∙ ap (λ (t : List ℕ). Some (Text t)) (fitting-is is_key text.0 word text.2)

answer_at-is : (i : ℕ) (cs : List Column) (answer : Answer) → answer_at i cs ≡ Some answer
    → slice_get cs i ≡ Some (Text (answer_line answer))
answer_at-is i cs answer e =
    let text = bound (text_at i cs) _ answer e in
    text_at-is i cs text.0 text.1 ∙ ap (λ (t : List ℕ). Some (Text t)) (sym (told_line text.0 answer text.2))

pub kept_told : (cs : List Column) (word command : List ℕ) (answer : Answer)
    → has 3 cs ≡ Some tt → key_at 0 cs ≡ Some word → text_at 1 cs ≡ Some command → answer_at 2 cs ≡ Some answer
    → kept_columns (record { word = word; command = command; answer = answer }) ≡ cs
kept_told cs word command answer all c0 c1 c2 =
    let one : Kept = record { word = word; command = command; answer = answer } in
    same_columns cs (kept_columns one) (has-is 3 cs tt all)
    (key_at-is 0 cs word c0, (text_at-is 1 cs command c1, (answer_at-is 2 cs answer c2, tt)))
