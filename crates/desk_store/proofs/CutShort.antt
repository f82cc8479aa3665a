-- Dumps that were cut short.
use Rattle.std.proofs.Common.{◌≡◌, ◌∙◌, ℕ, ◌+◌, ◌-◌, ◌%◌, ◌/◌, ◌<◌, ◌≤◌, Bool, true, false, List, [], ◌∷◌, ◌++◌, length, take, inl, inr}
use Rattle.std.proofs.Common.{ap, refl, sym, subst, arith, append_assoc, suc, zero, codes, length-append, drop, ◌⊎◌}
use Rattle.std.specs.Prelude.{◌==◌, ◌&&◌, not, flat_map, decimal, Option, Some, None, if◌then◌else◌}
use Rattle.std.specs.List.{list_all}
use Rattle.std.specs.Fmt.{digits, digits_onto, digit_glyph}
use Rattle.std.proofs.lemmas.List.{take-append-le}
use Rattle.word_core.specs.Text.{is_plain}
use Rattle.sheet_core.specs.declared.column.Column.{Column}
use Rattle.sheet_core.specs.declared.column.Column.TheVariants.{Whole, Text, Absent}
use Rattle.desk_store.specs.Dumps.{quoted_bytes, quoted_byte, hex_bytes, hex_byte, hex_digit, literal_of, values_text, text_literal}
use Rattle.desk_store.specs.Dumps.{create_line, dump_text, insert_line, table_lines, tables_lines}
use Rattle.desk_store.specs.Exports.{table_rows}
use Rattle.desk_core.specs.Machine.{State}
use Rattle.table_store.specs.Schema.{all_names, name_of}
use Rattle.table_store.specs.Texts.{create_text}
use Rattle.table_store.specs.declared.name.TableName.{TableName}
use Rattle.table_store.specs.declared.name.TableName.TheVariants.{Kept}
use Rattle.desk_store.specs.DumpLaws.{CutDumpsCommitNothing, behind, commits}

-- ---- texts without a line break

abbrev is_within : ℕ → Bool
is_within b = not (b == 10)

-- no byte is a line break
abbrev IsWithin : List ℕ → Type 0
IsWithin text = list_all is_within text ≡ true

within_append : (s t : List ℕ) → IsWithin s → IsWithin t → IsWithin (s ++ t)
within_append [] t h k = k
within_append (b ∷ s) t h k = grind (arith, within_append s t)

quoted_within : (text : List ℕ) → list_all is_plain text ≡ true → IsWithin (quoted_bytes text)
quoted_within [] h = refl
quoted_within (b ∷ text) h = grind (arith, quoted_within text)

hex_within : (text : List ℕ) → IsWithin (hex_bytes text)
hex_within [] = refl
hex_within (b ∷ text) = grind (arith, hex_within text)

-- the digits of a number are none
glyph_within : (n : ℕ) (rest : List ℕ) → IsWithin rest → IsWithin (digit_glyph false (n % 10) ∷ rest)
glyph_within n rest h = grind (arith, h)

either_within : (is_last : Bool) (s t : List ℕ) → IsWithin s → IsWithin t → IsWithin (if is_last then s else t)
either_within true s t h k = h
either_within false s t h k = k

digits_within : (k n : ℕ) (rest : List ℕ) → IsWithin rest → IsWithin (digits_onto k 10 false n rest)
digits_within zero n rest h = h
digits_within (suc k) n rest h =
    let more = glyph_within n rest h in
    either_within (n / 10 == 0) (digit_glyph false (n % 10) ∷ rest)
    (digits_onto k 10 false (n / 10) (digit_glyph false (n % 10) ∷ rest)) more
    (digits_within k (n / 10) (digit_glyph false (n % 10) ∷ rest) more)

decimal_within : (n : ℕ) → IsWithin (decimal n)
unfolding digits
decimal_within n = digits_within 64 n [] refl

text_within : (text : List ℕ) (plain : Bool) → list_all is_plain text ≡ plain → IsWithin (text_literal text)
text_within text true e =
    ap (λ (t : Bool). list_all is_within (if t then 39 ∷ (quoted_bytes text ++ 39 ∷ [])
    else codes "CAST(X'" ++ (hex_bytes text ++ codes "' AS TEXT)"))) e
    ∙ within_append (39 ∷ quoted_bytes text) (39 ∷ []) (quoted_within text e) refl
text_within text false e =
    ap (λ (t : Bool). list_all is_within (if t then 39 ∷ (quoted_bytes text ++ 39 ∷ [])
    else codes "CAST(X'" ++ (hex_bytes text ++ codes "' AS TEXT)"))) e
    ∙ within_append (codes "CAST(X'") (hex_bytes text ++ codes "' AS TEXT)") refl
    (within_append (hex_bytes text) (codes "' AS TEXT)") (hex_within text) refl)

literal_within : (column : Column) → IsWithin (literal_of column)
literal_within (Whole n) = decimal_within n
literal_within (Text text) = text_within text _ refl
literal_within Absent = refl

comma_within : (later : Bool) → IsWithin (if later then 44 ∷ [] else [])
comma_within true = refl
comma_within false = refl

values_within : (later : Bool) (columns : List Column) → IsWithin (values_text later columns)
values_within later [] = refl
values_within later (column ∷ columns) =
    within_append (if later then 44 ∷ [] else []) (literal_of column ++ values_text true columns) (comma_within later)
    (within_append (literal_of column) (values_text true columns) (literal_within column) (values_within true columns))

-- ---- lines that begin with no COMMIT

commits_within : (body rest : List ℕ) → IsWithin body → commits false (body ++ rest) ≡ commits false rest
commits_within [] rest h = refl
commits_within (b ∷ body) rest h = grind (arith, commits_within body rest)

commits_amid : (body : List ℕ) (n : ℕ) → IsWithin body → commits false (take n (body ++ 10 ∷ [])) ≡ false
commits_amid [] zero h = refl
commits_amid [] (suc zero) h = refl
commits_amid [] (suc (suc n)) h = refl
commits_amid (b ∷ body) zero h = refl
commits_amid (b ∷ body) (suc n) h = grind (arith, commits_amid body n)

-- whole lines, none of which begins with COMMIT
record AreQuiet (text : List ℕ) : Type 0 where
  pub passed : (rest : List ℕ) → commits true (text ++ rest) ≡ commits true rest
  pub cut : (n : ℕ) → commits true (take n text) ≡ false

nothing_quiet : AreQuiet []
nothing_quiet = record { passed = λ rest. refl; cut = λ n. cut_of n }
  where
    cut_of : (n : ℕ) → commits true (take n []) ≡ false
    cut_of zero = refl
    cut_of (suc n) = refl

take_onto : (s t : List ℕ) (n : ℕ) → take (length s + n) (s ++ t) ≡ s ++ take n t
take_onto [] t n =
    let e : length {A = ℕ} [] + n ≡ n = omega arith in
    ap (λ k. take k t) e
take_onto (x ∷ s) t n =
    let e : length (x ∷ s) + n ≡ suc (length s + n) = omega arith in
    ap (λ k. take k (x ∷ (s ++ t))) e ∙ ap (λ l. x ∷ l) (take_onto s t n)

-- a front of one text and then another
cut_either : (s : List ℕ) (n : ℕ) → (n ≤ length s) ⊎ ((k : ℕ) × (n ≡ length s + k))
cut_either [] n = inr (n, omega arith)
cut_either (x ∷ s) zero = inl (omega arith)
cut_either (x ∷ s) (suc n) = elim (cut_either s n) [
  | inl le ↦ inl (omega (arith, le))
  | inr more ↦ inr (more.0, omega (arith, more.1))
]

quiet_append : (s t : List ℕ) → AreQuiet s → AreQuiet t → AreQuiet (s ++ t)
quiet_append s t p q = record {
  passed = λ rest. ap (commits true) (append_assoc s t rest) ∙ p.passed (t ++ rest) ∙ q.passed rest;
  cut = λ n. elim (cut_either s n) [
    | inl le ↦ ap (commits true) (take-append-le n s t le) ∙ p.cut n
    | inr more ↦ ap (λ m. commits true (take m (s ++ t))) more.1
        ∙ ap (commits true) (take_onto s t more.0) ∙ p.passed (take more.0 t) ∙ q.cut more.0
  ];
}

quiet_all : {X : Type 0} (f : X → List ℕ) → ((x : X) → AreQuiet (f x)) → (xs : List X) → AreQuiet (flat_map f xs)
quiet_all f h [] = nothing_quiet
quiet_all f h (x ∷ xs) = quiet_append (f x) (flat_map f xs) (h x) (quiet_all f h xs)

-- a line that begins with other letters
line_quiet : (c d : ℕ) (body : List ℕ) → IsWithin (c ∷ d ∷ body) → ((c == 67) && (d == 79)) ≡ false
    → AreQuiet ((c ∷ d ∷ body) ++ 10 ∷ [])
line_quiet c d body h other = record {
  passed = λ rest.
      let body_is = ap (commits false) (append_assoc body (10 ∷ []) rest) ∙ commits_within body (10 ∷ rest) (after h) in
      grind (arith, body_is);
  cut = λ n. cut_of n;
}
  where
    after : IsWithin (c ∷ d ∷ body) → IsWithin body
    after k = grind arith

    cut_of : (n : ℕ) → commits true (take n ((c ∷ d ∷ body) ++ 10 ∷ [])) ≡ false
    cut_of zero = refl
    cut_of (suc zero) = grind arith
    cut_of (suc (suc n)) = let amid = commits_amid body n (after h) in grind (arith, amid)

-- ---- the lines of a dump

name_within : (table : TableName) → IsWithin (name_of table)
name_within Kept = refl
name_within _ = refl

insert_quiet : (table : TableName) (columns : List Column) → AreQuiet (insert_line table columns)
insert_quiet table columns =
    let name = name_of table in
    let values = values_text false columns in
    let first : List ℕ = codes "INSERT INTO " in
    let middle : List ℕ = codes " VALUES(" in
    let last : List ℕ = codes ");" in
    let within =
    within_append first (name ++ (middle ++ (values ++ last))) refl
    (within_append name (middle ++ (values ++ last)) (name_within table)
    (within_append middle (values ++ last) refl (within_append values last (values_within false columns) refl))) in
    let same : (first ++ (name ++ (middle ++ (values ++ last)))) ++ 10 ∷ [] ≡ insert_line table columns =
    append_assoc first (name ++ (middle ++ (values ++ last))) (10 ∷ [])
    ∙ ap (λ l. first ++ l)
    (append_assoc name (middle ++ (values ++ last)) (10 ∷ [])
    ∙ ap (λ l. name ++ l)
    (append_assoc middle (values ++ last) (10 ∷ []) ∙ ap (λ l. middle ++ l) (append_assoc values last (10 ∷ [])))) in
    subst AreQuiet same
    (line_quiet 73 78 (codes "SERT INTO " ++ (name ++ (middle ++ (values ++ last)))) within refl)

create_quiet : (table : TableName) → AreQuiet (create_line table)
create_quiet Kept = line_quiet 67 82 (drop 2 (create_text Kept) ++ 59 ∷ []) refl refl
create_quiet table = line_quiet 67 82 (drop 2 (create_text table) ++ 59 ∷ []) refl refl

table_quiet : (s : State) (table : TableName) → AreQuiet (table_lines table s)
table_quiet s table =
    quiet_append (create_line table) (flat_map (insert_line table) (table_rows table s)) (create_quiet table)
    (quiet_all (insert_line table) (λ columns. insert_quiet table columns) (table_rows table s))

tables_quiet : (s : State) (tables : List TableName) → AreQuiet (tables_lines tables s)
tables_quiet s tables = quiet_all (λ table. table_lines table s) (table_quiet s) tables

-- ---- the last line

last_cut : (n : ℕ) → n < 6 → commits true (take n (codes "COMMIT;\n")) ≡ false
last_cut zero lt = refl
last_cut (suc zero) lt = refl
last_cut (suc (suc zero)) lt = refl
last_cut (suc (suc (suc zero))) lt = refl
last_cut (suc (suc (suc (suc zero)))) lt = refl
last_cut (suc (suc (suc (suc (suc zero))))) lt = refl
last_cut (suc (suc (suc (suc (suc (suc n)))))) lt = absurd (omega (arith, lt))

cut_short : (text : List ℕ) (n : ℕ) → AreQuiet text → n + 2 < length (text ++ codes "COMMIT;\n")
    → commits true (take n (text ++ codes "COMMIT;\n")) ≡ false
cut_short text n quiet lt = elim (cut_either text n) [
  | inl le ↦ ap (commits true) (take-append-le n text (codes "COMMIT;\n") le) ∙ quiet.cut n
  | inr more ↦
      ap (λ m. commits true (take m (text ++ codes "COMMIT;\n"))) more.1
      ∙ ap (commits true) (take_onto text (codes "COMMIT;\n") more.0)
      ∙ quiet.passed (take more.0 (codes "COMMIT;\n"))
      ∙ last_cut more.0 (omega (arith, lt, more.1, length-append text (codes "COMMIT;\n")))
]

begun_quiet : AreQuiet (codes "BEGIN;\n")
begun_quiet = line_quiet 66 69 (codes "GIN;") refl refl

pub cut_dumps_commit_nothing : CutDumpsCommitNothing
unfolding dump_text
cut_dumps_commit_nothing s n lt =
    let first : List ℕ = codes "BEGIN;\n" in
    let tables = tables_lines all_names s in
    let same : (first ++ tables) ++ codes "COMMIT;\n" ≡ first ++ (tables ++ codes "COMMIT;\n") =
    append_assoc first tables (codes "COMMIT;\n") in
    let quiet = quiet_append first tables begun_quiet (tables_quiet s all_names) in
    ap (λ text. commits true (take n text)) (sym same)
    ∙ cut_short (first ++ tables) n quiet (subst (λ text. n + 2 < length text) (sym same) lt)
