-- The line of a record has no float.
use Rattle.std.proofs.Common.{◌≡◌, ℕ, ◌||◌, true, false, List, [], ◌∷◌, map, refl, inl, inr, codes}
use Rattle.std.proofs.Common.{Ordering, Less, Equal, Greater, nat_cmp}
use Rattle.std.specs.Prelude.{Option, Some, None, Result, Ok, Err}
use Rattle.std.specs.Ordering.{match_ordering}
use Rattle.std.specs.Str.{bytes_eq}
use Rattle.std.specs.Cmp.Lexicographic.{slice_cmp}
use Rattle.std.proofs.lemmas.Bool.{cases_Bool, or_parts}
use Rattle.serde_json.specs.Data.{Data, Members, no_members, member, put, string}
use Rattle.serde_json.specs.View.{items_of}
use Rattle.serde_json.specs.Written.{has_float, items_have_float, members_have_float}
use Rattle.word_core.specs.declared.field.FieldKind.{FieldKind}
use Rattle.word_core.specs.declared.field.FieldKind.TheVariants as kind
use Rattle.desk_wire.specs.declared.fault.What.{What}
use Rattle.desk_wire.specs.Numbers.{number_in}
use Rattle.desk_wire.specs.RowWords.{is_json, json_of}
use Rattle.desk_wire.specs.Records.{Fields}
use Rattle.desk_wire.specs.Sheets.{FieldPlace, SheetColumns, cell, is_given, json_or_text, key_of, line_data, number_or_text}
use Rattle.desk_wire.specs.Sheets.{or_else, row_or_text, value_of, with_cells, words_from, yes_or_text}

-- ---- members

by_order : (o : Ordering) (a b c : Members) → members_have_float a ≡ false → members_have_float b ≡ false
    → members_have_float c ≡ false → members_have_float (match_ordering o a b c) ≡ false
by_order Less a b c ha hb hc = ha
by_order Equal a b c ha hb hc = hb
by_order Greater a b c ha hb hc = hc

put-no-float : (k : List ℕ) (d : Data) (ms : Members) → has_float d ≡ false → members_have_float ms ≡ false
    → members_have_float (put k d ms) ≡ false
put-no-float k d no_members h m = rw h refl
put-no-float k d (member l e ms) h m =
    let parts = or_parts (has_float e) (members_have_float ms) m in
    by_order (slice_cmp nat_cmp k l) (member k d (member l e ms)) (member l d ms) (member l e (put k d ms))
    (rw (h, m) refl) (rw (h, parts.1) refl) (rw (parts.0, put-no-float k d ms h parts.1) refl)

-- ---- values

number-no-float : (text : List ℕ) (o : Option ℕ) → number_in text ≡ o → has_float (number_or_text text) ≡ false
number-no-float text None e = rw e refl
number-no-float text (Some n) e = rw e refl

json-read : (text : List ℕ) (r : Result Data What) → is_json text ≡ true → json_of text ≡ r
    → has_float (json_or_text text) ≡ false
json-read text (Err what) is e = rw (is, e) refl
json-read text (Ok d) is e = elim (cases_Bool (has_float d)) [
  | inl t ↦ rw (is, e, t) refl
  | inr f ↦ rw (is, e, f) f
]

json-no-float : (text : List ℕ) → has_float (json_or_text text) ≡ false
json-no-float text = elim (cases_Bool (is_json text)) [
  | inl t ↦ json-read text (json_of text) t refl
  | inr f ↦ rw f refl
]

row-no-float : (text : List ℕ) (o : Option ℕ) → number_in text ≡ o → has_float (row_or_text text) ≡ false
row-no-float text None e = rw e (json-no-float text)
row-no-float text (Some n) e = rw e refl

yes-no-float : (text : List ℕ) → has_float (yes_or_text text) ≡ false
yes-no-float text = elim (cases_Bool (bytes_eq text (codes "yes") || bytes_eq text (codes "true"))) [
  | inl t ↦ rw t refl
  | inr f ↦ elim (cases_Bool (bytes_eq text (codes "no") || bytes_eq text (codes "false"))) [
    | inl t ↦ rw (f, t) refl
    | inr g ↦ rw (f, g) refl
  ]
]

texts-no-float : (ts : List (List ℕ)) → items_have_float (items_of (map string ts)) ≡ false
texts-no-float [] = refl
texts-no-float (t ∷ ts) = texts-no-float ts

value-no-float : (k : FieldKind) (text : List ℕ) → has_float (value_of k text) ≡ false
value-no-float kind.Number text = number-no-float text (number_in text) refl
value-no-float (kind.Row table) text = row-no-float text (number_in text) refl
value-no-float (kind.MaybeRow table) text = row-no-float text (number_in text) refl
value-no-float (kind.Rows table) text = json-no-float text
value-no-float kind.Yes text = yes-no-float text
value-no-float kind.Flags text = texts-no-float (words_from [] text)
value-no-float kind.Text text = refl
value-no-float kind.MaybeText text = refl
value-no-float kind.Status text = refl
value-no-float kind.Side text = refl
value-no-float kind.Serials text = refl
value-no-float kind.MaybeSerials text = refl

-- ---- a line

cells-no-float : (places : List FieldPlace) (fields : Fields) (ms : Members) → members_have_float ms ≡ false
    → members_have_float (with_cells places fields ms) ≡ false
cells-no-float [] fields ms h = h
cells-no-float (f ∷ fs) fields ms h = elim (cases_Bool (is_given f.kind (cell f.place fields))) [
  | inl t ↦ rw t
      (cells-no-float fs fields (put f.name (value_of f.kind (cell f.place fields)) ms)
      (put-no-float f.name (value_of f.kind (cell f.place fields)) ms (value-no-float f.kind (cell f.place fields)) h))
  | inr g ↦ rw g (cells-no-float fs fields ms h)
]

pub line_is_whole : (verb document told : List ℕ) (columns : SheetColumns) (n : ℕ) (fields : Fields)
    → has_float (line_data verb document told columns n fields) ≡ false
unfolding line_data
line_is_whole verb document told columns n fields =
    let verb_member = put (codes "do") (string verb) no_members in
    let day = string (or_else (cell columns.day fields) told) in
    let key = string (key_of verb document columns n fields) in
    cells-no-float columns.fields fields (put (codes "key") key (put (codes "day") day verb_member))
    (put-no-float (codes "key") key (put (codes "day") day verb_member) refl
    (put-no-float (codes "day") day verb_member refl refl))
