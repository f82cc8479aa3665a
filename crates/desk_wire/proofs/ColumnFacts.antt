-- The columns of a header, and the records that are arranged by them.
use Rattle.std.proofs.Common.{◌≡◌, ℕ, zero, suc, ◌<◌, ◌+◌, ◌++◌, true, false, List, [], ◌∷◌, length, drop, map, get_or}
use Rattle.std.proofs.Common.{arith, cond, refl, sym, ap, ◌∙◌, append_assoc}
use Rattle.std.proofs.lemmas.List.{length-map}
use Rattle.std.proofs.lemmas.Str.{IsUtf8-from_ascii, is_utf8-from_IsUtf8}
use Rattle.std.specs.Borrow.{Bor}
use Rattle.std.specs.Prelude.{Option, Some, None, is_some, option_map}
use Rattle.std.specs.Str.{bytes_eq, is_utf8}
use Rattle.std.proofs.lemmas.Bool.{and_parts, true≢false}
use Rattle.csv.specs.Records.{field_at}
use Rattle.desk_wire.specs.Imports.{Columns, arranged, column_by, columns_at, columns_of, field, field_at_place}
use Rattle.desk_wire.specs.Imports.{may_lack, names_of, places_from, places_of}
use Rattle.desk_wire.specs.Layouts.{place_list}
use Rattle.desk_wire.specs.Records.{Fields, are_texts}
use Rattle.desk_wire.specs.Sheets.{one_of}
use Rattle.desk_wire.specs.declared.kind.ImportKind.{ImportKind}
use Rattle.desk_wire.proofs.Rows.{drop-field, field-name}

-- ---- the column of a name

pub place-here : (name : List ℕ) (fields : Fields) (i : ℕ) → i < length fields → bytes_eq name (field i fields) ≡ true
    → places_from i name (drop i fields) ≡ i ∷ places_from (i + 1) name (drop (i + 1) fields)
place-here name fields i h same = ap (places_from i name) (drop-field fields i h) ∙ rw same refl

pub place-on : (name : List ℕ) (fields : Fields) (i : ℕ) → i < length fields → bytes_eq name (field i fields) ≡ false
    → places_from i name (drop i fields) ≡ places_from (i + 1) name (drop (i + 1) fields)
place-on name fields i h differ = ap (places_from i name) (drop-field fields i h) ∙ rw differ refl

-- its first place
pub first-place : (column : Option ℕ) (i : ℕ) (more : List ℕ) → is_some column ≡ false
    → place_list column ++ i ∷ more ≡ place_list (Some i) ++ more
first-place None i more h = refl
first-place (Some j) i more h = absurd (true≢false h)

-- by the column of a name, if there is one: what has one has it, ...
pub column_one : (name places : List ℕ) (i : ℕ) → one_of places ≡ Some (Some i) → column_by name places ≡ Some (Some i)
column_one name [] i e = absurd (cc)
column_one name (j ∷ []) i e = e
column_one name (j ∷ k ∷ ks) i e = absurd (cc)

-- ... what has none may lack it or not, ...
pub column_none : (name places : List ℕ) → one_of places ≡ Some None
    → column_by name places ≡ cond (may_lack name) (Some None) None
column_none name [] e = refl
column_none name (j ∷ []) e = absurd (cc)
column_none name (j ∷ k ∷ ks) e = absurd (cc)

-- ... and a name that stands twice has no column
pub column_twice : (name places : List ℕ) → one_of places ≡ None → column_by name places ≡ None
column_twice name [] e = absurd (cc)
column_twice name (j ∷ []) e = absurd (cc)
column_twice name (j ∷ k ∷ ks) e = refl

-- ---- the columns of all names

abbrev texts_of : List (Bor (List ℕ)) → Fields
texts_of names = map (λ name. name.now) names

name-at : (names : List (Bor (List ℕ))) (i : ℕ) (d : Bor (List ℕ)) → i < length names
    → drop i (texts_of names) ≡ (get_or names i d).now ∷ drop (i + 1) (texts_of names)
name-at names i d h =
    let long : length (texts_of names) ≡ length names = length-map names (λ name. name.now) in
    drop-field (texts_of names) i (omega (arith, long))
    ∙ ap (λ v. v ∷ drop (i + 1) (texts_of names)) (field-name names i d h)

-- these places, and then those of the names that are left
abbrev pub after : List (Option ℕ) → Option (List (Option ℕ)) → Option (List (Option ℕ))
after done o = option_map (λ rest. done ++ rest) o

after-next : (done : List (Option ℕ)) (place : Option ℕ) (o : Option (List (Option ℕ)))
    → after done (option_map (λ places. place ∷ places) o) ≡ after (done ++ place ∷ []) o
after-next done place None = refl
after-next done place (Some rest) = ap Some (sym (append_assoc done (place ∷ []) rest))

pub columns-next : (names : List (Bor (List ℕ))) (header : Fields) (done : List (Option ℕ)) (i : ℕ) (d : Bor (List ℕ))
    (place : Option ℕ) → i < length names
    → column_by (get_or names i d).now (places_from 0 (get_or names i d).now header) ≡ Some place
    → after done (places_of (drop i (texts_of names)) header)
    ≡ after (done ++ place ∷ []) (places_of (drop (i + 1) (texts_of names)) header)
columns-next names header done i d place h e =
    ap (λ ns. after done (places_of ns header)) (name-at names i d h)
    ∙ rw e (after-next done place (places_of (drop (i + 1) (texts_of names)) header))

pub columns-lack : (names : List (Bor (List ℕ))) (header : Fields) (done : List (Option ℕ)) (i : ℕ) (d : Bor (List ℕ))
    → i < length names
    → column_by (get_or names i d).now (places_from 0 (get_or names i d).now header) ≡ None
    → after done (places_of (drop i (texts_of names)) header) ≡ None
columns-lack names header done i d h e =
    ap (λ ns. after done (places_of ns header)) (name-at names i d h) ∙ rw e refl

pub columns-are : (kind : ImportKind) (header : Fields) (places : List (Option ℕ)) → are_texts header ≡ true
    → places_of (names_of kind) header ≡ Some places
    → columns_of kind header ≡ Some (columns_at kind header places)
columns-are kind header places t e = rw (t, e) refl

pub columns-none : (kind : ImportKind) (header : Fields) → are_texts header ≡ true
    → places_of (names_of kind) header ≡ None → columns_of kind header ≡ None
columns-none kind header t e = rw (t, e) refl

-- ---- texts

empty-text : is_utf8 [] ≡ true
empty-text = is_utf8-from_IsUtf8 [] (IsUtf8-from_ascii [] (λ i. omega arith))

field-text : (fields : Fields) (i : ℕ) → are_texts fields ≡ true → is_utf8 (field i fields) ≡ true
unfolding field_at
field-text [] i t = empty-text
field-text (f ∷ fs) zero t = (and_parts (is_utf8 f) (are_texts fs) t).0
field-text (f ∷ fs) (suc i) t = field-text fs i (and_parts (is_utf8 f) (are_texts fs) t).1

place-text : (fields : Fields) (place : Option ℕ) → are_texts fields ≡ true → is_utf8 (field_at_place place fields) ≡ true
place-text fields None t = empty-text
place-text fields (Some i) t = field-text fields i t

texts-arranged : (fields : Fields) (places : List (Option ℕ)) → are_texts fields ≡ true
    → are_texts (map (λ place. field_at_place place fields) places) ≡ true
texts-arranged fields [] t = refl
texts-arranged fields (place ∷ places) t = rw (place-text fields place t) (texts-arranged fields places t)

pub arranged-texts : (columns : Columns) (fields : Fields) → are_texts fields ≡ true
    → are_texts (arranged columns fields) ≡ true
arranged-texts columns fields t = texts-arranged fields columns.places t
