-- Rows of a dump, read again.
use Rattle.std.proofs.Common.{◌≡◌, ◌∙◌, ℕ, ◌+◌, ◌*◌, ◌/◌, ◌%◌, ◌-◌, ◌^◌, ◌<◌, ◌≤◌, Bool, true, false, List, [], ◌∷◌, ◌++◌, length}
use Rattle.std.proofs.Common.{ap, refl, sym, subst, arith, append_assoc, suc, zero, codes, rules}
use Rattle.std.specs.Prelude.{◌==◌, flat_map, decimal, Option, Some, None, option_map, if◌then◌else◌}
use Rattle.std.specs.List.{AllByRecursion, list_all}
use Rattle.std.proofs.lemmas.Fmt.{decimal_by_steps}
use Rattle.table_store.specs.Schema.{name_of}
use Rattle.word_core.specs.Text.{is_plain}
use Rattle.sheet_core.specs.declared.column.Column.{Column}
use Rattle.sheet_core.specs.declared.column.Column.TheVariants.{Whole, Text, Absent}
use Rattle.desk_store.specs.Dumps.{quoted_bytes, quoted_byte, hex_bytes, hex_byte, hex_digit, literal_of, values_text, text_literal}
use Rattle.desk_store.specs.Dumps.{insert_line}
use Rattle.desk_store.specs.DumpLaws.{behind, quoted, with_byte, hex_read, hex_value, digits_read, is_digit, number_read, literal_at}
use Rattle.desk_store.specs.DumpLaws.{IsTold, literals_at, row_at, RowsAreRead}

behind_front : (front text : List ℕ) → behind front (front ++ text) ≡ Some text
behind_front [] text = refl
behind_front (p ∷ ps) text = grind (arith, behind_front ps text)

-- ---- texts

quoted_read : (text : List ℕ) (c : ℕ) (rest : List ℕ) → (c == 39) ≡ false
    → quoted false (quoted_bytes text ++ 39 ∷ c ∷ rest) ≡ Some (text, c ∷ rest)
quoted_read [] c rest h = grind arith
quoted_read (b ∷ text) c rest h = grind (arith, quoted_read text c rest h)

no_quote : (n : ℕ) → (hex_digit n == 39) ≡ false
no_quote n = grind arith

value_read : (n : ℕ) → n < 16 → hex_value (hex_digit n) ≡ n
value_read n lt = grind arith

byte_read : (b : ℕ) → b < 256 → hex_value (hex_digit (b / 16)) * 16 + hex_value (hex_digit (b % 16)) ≡ b
byte_read b lt =
    let high : hex_value (hex_digit (b / 16)) ≡ b / 16 = value_read (b / 16) (omega arith) in
    let low : hex_value (hex_digit (b % 16)) ≡ b % 16 = value_read (b % 16) (omega arith) in
    omega (arith, high, low)

hex_digits_read : (text : List ℕ) (c : ℕ) (rest : List ℕ) → AllByRecursion (λ b. b < 256) text
    → hex_read (hex_bytes text ++ 39 ∷ c ∷ rest) ≡ Some (text, c ∷ rest)
hex_digits_read [] c rest h = refl
hex_digits_read (b ∷ text) c rest h =
    let all = hex_bytes text ++ 39 ∷ c ∷ rest in
    let value = hex_value (hex_digit (b / 16)) * 16 + hex_value (hex_digit (b % 16)) in
    ap
    (λ (t : Bool). if t then Some ([], hex_digit (b % 16) ∷ all) else option_map (with_byte value) (hex_read all))
    (no_quote (b / 16))
    ∙ ap (option_map (with_byte value)) (hex_digits_read text c rest h.1)
    ∙ ap (λ v. Some (v ∷ text, c ∷ rest)) (byte_read b h.0)

-- ---- numbers

abbrev BeginsNumber : List ℕ → Type 0
BeginsNumber [] = ⊥
BeginsNumber (b ∷ bs) = is_digit b ≡ true

record AreDigits (n : ℕ) (digits : List ℕ) : Type 0 where
  pub read : (rest : List ℕ) → digits_read 0 (digits ++ rest) ≡ digits_read n rest
  pub begins : BeginsNumber digits

one_digit : (n : ℕ) → n < 10 → AreDigits n ((48 + n) ∷ [])
one_digit n lt = record {
  read = λ rest. grind arith;
  begins = grind arith;
}

begins_more : (digits : List ℕ) (d : ℕ) → BeginsNumber digits → BeginsNumber (digits ++ d ∷ [])
begins_more [] d h = absurd h
begins_more (b ∷ bs) d h = h

more_digits : (n : ℕ) (digits : List ℕ) → 10 ≤ n → AreDigits (n / 10) digits → AreDigits n (digits ++ (48 + n % 10) ∷ [])
more_digits n digits le it = record {
  read = λ rest.
      ap (digits_read 0) (append_assoc digits ((48 + n % 10) ∷ []) rest)
      ∙ it.read ((48 + n % 10) ∷ rest)
      ∙ last rest;
  begins = begins_more digits (48 + n % 10) it.begins;
}
  where
    last : (rest : List ℕ) → digits_read (n / 10) ((48 + n % 10) ∷ rest) ≡ digits_read n rest
    last rest =
        let d : is_digit (48 + n % 10) ≡ true = grind arith in
        let value : 10 * (n / 10) + (48 + n % 10 - 48) ≡ n = omega arith in
        ap (λ (t : Bool). if t then digits_read (10 * (n / 10) + (48 + n % 10 - 48)) rest else (n / 10, (48 + n % 10) ∷ rest)) d
        ∙ ap (λ m. digits_read m rest) value

are_digits : (n : ℕ) → n < 2 ^ 64 → AreDigits n (decimal n)
are_digits n lt = decimal_by_steps AreDigits one_digit more_digits n lt

ended : (n c : ℕ) (rest : List ℕ) → is_digit c ≡ false → digits_read n (c ∷ rest) ≡ (n, c ∷ rest)
ended n c rest h = ap (λ (t : Bool). if t then digits_read (10 * n + (c - 48)) rest else (n, c ∷ rest)) h

-- ---- literals

number_literal : (n : ℕ) (digits : List ℕ) (c : ℕ) (rest : List ℕ) → is_digit c ≡ false → AreDigits n digits
    → literal_at (digits ++ c ∷ rest) ≡ Some (Whole n, c ∷ rest)
unfolding literal_at
number_literal n [] c rest h it = absurd it.begins
number_literal n (b ∷ bs) c rest h it =
    let read = it.read (c ∷ rest) ∙ ended n c rest h in
    grind (arith, read, it.begins)

plain_literal : (text : List ℕ) (c : ℕ) (rest : List ℕ) → (c == 39) ≡ false
    → literal_at ((39 ∷ (quoted_bytes text ++ 39 ∷ [])) ++ c ∷ rest) ≡ Some (Text text, c ∷ rest)
unfolding literal_at
plain_literal text c rest h =
    let read : quoted false ((quoted_bytes text ++ 39 ∷ []) ++ c ∷ rest) ≡ Some (text, c ∷ rest) =
    ap (quoted false) (append_assoc (quoted_bytes text) (39 ∷ []) (c ∷ rest)) ∙ quoted_read text c rest h in
    grind (arith, read)

cast_literal : (text : List ℕ) (c : ℕ) (rest : List ℕ) → AllByRecursion (λ b. b < 256) text
    → literal_at ((codes "CAST(X'" ++ (hex_bytes text ++ codes "' AS TEXT)")) ++ c ∷ rest) ≡ Some (Text text, c ∷ rest)
unfolding literal_at
cast_literal text c rest h =
    let read : hex_read ((hex_bytes text ++ codes "' AS TEXT)") ++ c ∷ rest) ≡ Some (text, codes " AS TEXT)" ++ c ∷ rest) =
    ap hex_read (append_assoc (hex_bytes text) (codes "' AS TEXT)") (c ∷ rest))
    ∙ hex_digits_read text 32 (codes "AS TEXT)" ++ c ∷ rest) h in
    grind (arith, read)

text_read : (text : List ℕ) (plain : Bool) (c : ℕ) (rest : List ℕ) → list_all is_plain text ≡ plain → (c == 39) ≡ false
    → AllByRecursion (λ b. b < 256) text → literal_at (text_literal text ++ c ∷ rest) ≡ Some (Text text, c ∷ rest)
text_read text true c rest e h told =
    ap (λ (t : Bool). literal_at ((if t then 39 ∷ (quoted_bytes text ++ 39 ∷ [])
    else codes "CAST(X'" ++ (hex_bytes text ++ codes "' AS TEXT)")) ++ c ∷ rest)) e
    ∙ plain_literal text c rest h
text_read text false c rest e h told =
    ap (λ (t : Bool). literal_at ((if t then 39 ∷ (quoted_bytes text ++ 39 ∷ [])
    else codes "CAST(X'" ++ (hex_bytes text ++ codes "' AS TEXT)")) ++ c ∷ rest)) e
    ∙ cast_literal text c rest told

absent_literal : (c : ℕ) (rest : List ℕ) → literal_at (codes "NULL" ++ c ∷ rest) ≡ Some (Absent, c ∷ rest)
unfolding literal_at
absent_literal c rest = refl

-- no byte that a literal goes on with
abbrev IsEnd : ℕ → Type 0
IsEnd c = ((c == 39) ≡ false) × (is_digit c ≡ false)

literal_read : (column : Column) (c : ℕ) (rest : List ℕ) → IsEnd c → IsTold column
    → literal_at (literal_of column ++ c ∷ rest) ≡ Some (column, c ∷ rest)
literal_read (Whole n) c rest h told = number_literal n (decimal n) c rest h.1 (are_digits n told)
literal_read (Text text) c rest h told = text_read text _ c rest refl h.0 told
literal_read Absent c rest h told = absent_literal c rest

-- ---- rows

abbrev comma : Bool → List ℕ
comma later = if later then 44 ∷ [] else []

-- what stands behind a literal: a comma and the next, or the end
behind_literal : (columns : List Column) (rest : List ℕ) → (c : ℕ) × (left : List ℕ) × IsEnd c
    × (values_text true columns ++ 41 ∷ rest ≡ c ∷ left)
behind_literal [] rest = (41, rest, (refl, refl), refl)
behind_literal (column ∷ columns) rest =
    (44, (literal_of column ++ values_text true columns) ++ 41 ∷ rest, (refl, refl), refl)

first_read : (column : Column) (columns : List Column) (rest : List ℕ) → IsTold column
    → literal_at (literal_of column ++ (values_text true columns ++ 41 ∷ rest))
    ≡ Some (column, values_text true columns ++ 41 ∷ rest)
first_read column columns rest told = go (behind_literal columns rest)
  where
    go : (c : ℕ) × (left : List ℕ) × IsEnd c × (values_text true columns ++ 41 ∷ rest ≡ c ∷ left)
        → literal_at (literal_of column ++ (values_text true columns ++ 41 ∷ rest))
        ≡ Some (column, values_text true columns ++ 41 ∷ rest)
    go (c, left, end, same) =
        subst (λ (l : List ℕ). literal_at (literal_of column ++ l) ≡ Some (column, l)) (sym same)
        (literal_read column c left end told)

literals_read : (later : Bool) (columns : List Column) (rest : List ℕ) → AllByRecursion IsTold columns
    → literals_at later (length columns) (values_text later columns ++ 41 ∷ rest) ≡ Some (columns, 41 ∷ rest)
literals_read later [] rest told = refl
literals_read later (column ∷ columns) rest told =
    let after = values_text true columns ++ 41 ∷ rest in
    let text : (comma later ++ (literal_of column ++ values_text true columns)) ++ 41 ∷ rest
    ≡ comma later ++ (literal_of column ++ after) =
    append_assoc (comma later) (literal_of column ++ values_text true columns) (41 ∷ rest)
    ∙ ap (λ l. comma later ++ l) (append_assoc (literal_of column) (values_text true columns) (41 ∷ rest)) in
    let front = ap (behind (comma later)) text ∙ behind_front (comma later) (literal_of column ++ after) in
    grind (arith, front, first_read column columns rest told.0, literals_read true columns rest told.1)

joined : (table values rest : List ℕ)
    → (codes "INSERT INTO " ++ (table ++ (codes " VALUES(" ++ (values ++ codes ");\n")))) ++ rest
    ≡ (codes "INSERT INTO " ++ (table ++ codes " VALUES(")) ++ (values ++ (codes ");\n" ++ rest))
joined table values rest =
    let first : List ℕ = codes "INSERT INTO " in
    let middle : List ℕ = codes " VALUES(" in
    let last : List ℕ = codes ");\n" in
    append_assoc first (table ++ (middle ++ (values ++ last))) rest
    ∙ ap (λ l. first ++ l)
    (append_assoc table (middle ++ (values ++ last)) rest
    ∙ ap (λ l. table ++ l) (append_assoc middle (values ++ last) rest ∙ ap (λ l. middle ++ l) (append_assoc values last rest)))
    ∙ sym (append_assoc first (table ++ middle) (values ++ (last ++ rest))
    ∙ ap (λ l. first ++ l) (append_assoc table middle (values ++ (last ++ rest))))

pub rows_are_read : RowsAreRead
rows_are_read table columns rest told =
    let name = name_of table in
    let values = values_text false columns in
    let front = ap (behind (codes "INSERT INTO " ++ (name ++ codes " VALUES("))) (joined name values rest)
    ∙ behind_front (codes "INSERT INTO " ++ (name ++ codes " VALUES(")) (values ++ (codes ");\n" ++ rest)) in
    let read = literals_read false columns (codes ";\n" ++ rest) told in
    grind (arith, front, read)
