-- Records and their headers.
use Rattle.std.proofs.Common.{◌≡◌, ◌≢◌, ℕ, zero, suc, ◌<◌, ◌+◌, true, false, Bool, ◌&&◌, List, [], ◌∷◌, length}
use Rattle.std.proofs.Common.{drop, map, get_or, arith, refl, sym, ap, ◌∙◌, inl, inr}
use Rattle.std.specs.Borrow.{Bor}
use Rattle.std.proofs.lemmas.List.{length-map}
use Rattle.std.proofs.lemmas.Str.{IsUtf8-from_ascii, is_utf8-from_IsUtf8}
use Rattle.std.specs.Prelude.{nat_lt, slice_index}
use Rattle.std.specs.List.{list_all}
use Rattle.std.specs.Str.{bytes_eq, is_utf8}
use Rattle.std.specs.Cmp.Lexicographic.{pointwise}
use Rattle.std.proofs.lemmas.Bool.{and_parts, cases_Bool, false≢true, ltb-true}
use Rattle.std.proofs.lemmas.Slice.Eq.{bytes_eq-Decides}
use Rattle.csv.specs.Records.{field_at}
use Rattle.desk_wire.specs.Records.{Fields, are_texts}
use Rattle.desk_wire.specs.Imports.{field, names_of}
use Rattle.desk_wire.specs.declared.kind.ImportKind.{ImportKind}
use Rattle.desk_wire.specs.declared.kind.ImportKind.TheVariants.{Receipts, Counts}

-- ---- the header

pub not-as-long : (xs ys : Fields) → length xs ≢ length ys → pointwise bytes_eq xs ys ≡ false
not-as-long [] [] h = absurd (h refl)
not-as-long [] (y ∷ ys) h = refl
not-as-long (x ∷ xs) [] h = refl
not-as-long (x ∷ xs) (y ∷ ys) h = elim (cases_Bool (bytes_eq x y)) [
  | inl t ↦ rw t (not-as-long xs ys (λ e. h (ap suc e)))
  | inr f ↦ rw f refl
]

drop-next : (xs : Fields) (i : ℕ) → i < length xs → drop i xs ≡ field i xs ∷ drop (suc i) xs
unfolding field_at
drop-next [] i h = absurd (omega arith)
drop-next (x ∷ xs) zero h = refl
drop-next (x ∷ xs) (suc i) h = drop-next xs i (omega arith)

pub drop-field : (xs : Fields) (i : ℕ) → i < length xs → drop i xs ≡ field i xs ∷ drop (i + 1) xs
drop-field xs i h = let e : suc i ≡ i + 1 = omega arith in drop-next xs i h ∙ ap (λ j. field i xs ∷ drop j xs) e

pub field-name : (names : List (Bor (List ℕ))) (i : ℕ) (d : Bor (List ℕ)) → i < length names
    → field i (map (λ name. name.now) names) ≡ (get_or names i d).now
unfolding field_at
field-name [] i d h = absurd (omega arith)
field-name (n ∷ ns) zero d h = refl
field-name (n ∷ ns) (suc i) d h = field-name ns i d (omega arith)

-- of two lists that are equally long, the places from the i-th on
pub names-step : (names : List (Bor (List ℕ))) (fields : Fields) (i : ℕ) (d : Bor (List ℕ))
    → length names ≡ length fields → i < length names
    → pointwise bytes_eq (drop i (map (λ name. name.now) names)) (drop i fields)
    ≡ (bytes_eq (get_or names i d).now (field i fields)
    && pointwise bytes_eq (drop (i + 1) (map (λ name. name.now) names)) (drop (i + 1) fields))
names-step names fields i d e h =
    let long : length (map (λ (name : Bor (List ℕ)). name.now) names) ≡ length names =
    length-map names (λ name. name.now) in
    let a = drop-field (map (λ name. name.now) names) i (omega (arith, long)) in
    let b = drop-field fields i (omega arith) in
    ap (λ v. pointwise bytes_eq v (drop i fields)) a ∙ ap
    (λ v. pointwise bytes_eq (field i (map (λ name. name.now) names) ∷ drop (i + 1) (map (λ name. name.now) names)) v) b
    ∙ ap (λ v. bytes_eq v (field i fields)
    && pointwise bytes_eq (drop (i + 1) (map (λ name. name.now) names)) (drop (i + 1) fields))
    (field-name names i d h)

pub names-same : (names : List (Bor (List ℕ))) (fields : Fields) (i : ℕ) (d : Bor (List ℕ))
    → length names ≡ length fields → i < length names
    → bytes_eq (get_or names i d).now (field i fields) ≡ true
    → pointwise bytes_eq (drop i (map (λ name. name.now) names)) (drop i fields)
    ≡ pointwise bytes_eq (drop (i + 1) (map (λ name. name.now) names)) (drop (i + 1) fields)
names-same names fields i d e h same =
    names-step names fields i d e h
    ∙ ap (λ b. b && pointwise bytes_eq (drop (i + 1) (map (λ name. name.now) names)) (drop (i + 1) fields)) same

pub names-differ : (names : List (Bor (List ℕ))) (fields : Fields) (i : ℕ) (d : Bor (List ℕ))
    → length names ≡ length fields → i < length names
    → bytes_eq (get_or names i d).now (field i fields) ≡ false
    → pointwise bytes_eq (drop i (map (λ name. name.now) names)) (drop i fields) ≡ false
names-differ names fields i d e h differ =
    names-step names fields i d e h
    ∙ ap (λ b. b && pointwise bytes_eq (drop (i + 1) (map (λ name. name.now) names)) (drop (i + 1) fields)) differ

-- names that are text
pub same-texts : (names fields : Fields) → are_texts names ≡ true → pointwise bytes_eq names fields ≡ true
    → are_texts fields ≡ true
same-texts [] [] t e = refl
same-texts [] (f ∷ fs) t e = absurd (false≢true e)
same-texts (n ∷ ns) [] t e = absurd (false≢true e)
same-texts (n ∷ ns) (f ∷ fs) t e =
    let was = and_parts (is_utf8 n) (are_texts ns) t in
    let now = and_parts (bytes_eq n f) (pointwise bytes_eq ns fs) e in
    ap (λ b. b && are_texts fs) (ap is_utf8 (sym ((bytes_eq-Decides n f).0 now.0)) ∙ was.0)
    ∙ same-texts ns fs was.1 now.1

abbrev is_ascii : List ℕ → Bool
is_ascii text = list_all (λ b. nat_lt b 128) text

ascii : (text : List ℕ) → is_ascii text ≡ true → (i : ℕ) → slice_index text i < 128
ascii [] h i = omega arith
ascii (b ∷ bs) h zero = ltb-true b 128 (and_parts (nat_lt b 128) (is_ascii bs) h).0
ascii (b ∷ bs) h (suc i) = ascii bs (and_parts (nat_lt b 128) (is_ascii bs) h).1 i

ascii-texts : (names : Fields) → list_all is_ascii names ≡ true → are_texts names ≡ true
ascii-texts [] h = refl
ascii-texts (n ∷ ns) h =
    let q = and_parts (is_ascii n) (list_all is_ascii ns) h in
    ap (λ b. b && are_texts ns) (is_utf8-from_IsUtf8 n (IsUtf8-from_ascii n (ascii n q.0))) ∙ ascii-texts ns q.1

pub names-texts : (kind : ImportKind) → are_texts (names_of kind) ≡ true
names-texts Receipts = ascii-texts (names_of Receipts) refl
names-texts Counts = ascii-texts (names_of Counts) refl

-- a first record that isn't all text is no header
pub no-header : (kind : ImportKind) (fields : Fields) → are_texts fields ≡ false
    → pointwise bytes_eq (names_of kind) fields ≡ false
no-header kind fields h = elim (cases_Bool (pointwise bytes_eq (names_of kind) fields)) [
  | inl t ↦ absurd (false≢true (sym h ∙ same-texts (names_of kind) fields (names-texts kind) t))
  | inr f ↦ f
]
