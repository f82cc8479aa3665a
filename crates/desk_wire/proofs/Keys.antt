-- The keys of rows.
use Rattle.std.proofs.Common.{◌≡◌, ℕ, ◌<◌, ◌≤◌, true, Bool, ◌&&◌, List, [], ◌∷◌, ◌++◌, length}
use Rattle.std.proofs.Common.{arith, nat_lt, nat_le, refl, ap, ◌∙◌, length-append, sym}
use Rattle.std.specs.Prelude.{codes}
use Rattle.std.specs.Char.{is_ascii_digit}
use Rattle.std.specs.List.{list_all}
use Rattle.std.specs.Str.Parse.{digits_value}
use Rattle.std.proofs.lemmas.Bool.{and_parts, leb-true}
use Rattle.std.proofs.lemmas.Bool.Decides.{nat_tests}
use Rattle.std.proofs.lemmas.List.Folds.{list_all-append}
use Rattle.desk_core.specs.Key.{is_key, is_visible}
use Rattle.desk_wire.specs.Documents.{is_document, is_document_byte}
use Rattle.desk_wire.specs.Numbers.{is_row_number}
use Rattle.desk_wire.specs.Kinds.{import_kind_name}
use Rattle.desk_wire.specs.Imports.{key_of}
use Rattle.desk_wire.specs.declared.kind.ImportKind.{ImportKind}
use Rattle.desk_wire.specs.declared.kind.ImportKind.TheVariants.{Receipts, Counts}
use Rattle.desk_wire.proofs.Numbers.{row_number_digits, row_number_decimal}

document-visible : (b : ℕ) → is_document_byte b ≡ true → is_visible b ≡ true
document-visible b h = grind arith

digit-visible : (b : ℕ) → is_ascii_digit b ≡ true → is_visible b ≡ true
digit-visible b h = grind arith

all-visible : (p : ℕ → Bool) → ((b : ℕ) → p b ≡ true → is_visible b ≡ true) → (xs : List ℕ) → list_all p xs ≡ true
    → list_all is_visible xs ≡ true
all-visible p w [] h = refl
all-visible p w (x ∷ xs) h =
    let q = and_parts (p x) (list_all p xs) h in
    ap (λ b. b && list_all is_visible xs) (w x q.0) ∙ all-visible p w xs q.1

name-short : (kind : ImportKind) → (0 < length (import_kind_name kind)) × (length (import_kind_name kind) ≤ 8)
    × (list_all is_visible (import_kind_name kind) ≡ true)
name-short Receipts = (omega arith, omega arith, refl)
name-short Counts = (omega arith, omega arith, refl)

both : (a b : Bool) → a ≡ true → b ≡ true → (a && b) ≡ true
both a b p q = ap (λ v. v && b) p ∙ q

visible-append : (xs ys : List ℕ) → list_all is_visible xs ≡ true → list_all is_visible ys ≡ true
    → list_all is_visible (xs ++ ys) ≡ true
visible-append xs ys p q = list_all-append is_visible xs ys ∙ both _ _ p q

-- a name, a document and a number, with a slash between them
abbrev pub slashed : List ℕ → List ℕ → List ℕ → List ℕ
slashed name document number = name ++ codes "/" ++ document ++ codes "/" ++ number

fits : (w d n : List ℕ) → 0 < length w → length w ≤ 8 → list_all is_visible w ≡ true → length d ≤ 32
    → list_all is_visible d ≡ true → length n ≤ 9 → list_all is_visible n ≡ true
    → is_key (slashed w d n) ≡ true
fits w d n some few plain few-d plain-d few-n plain-n =
    let size-1 = length-append w (codes "/") in
    let size-2 = length-append (w ++ codes "/") d in
    let size-3 = length-append (w ++ codes "/" ++ d) (codes "/") in
    let size-4 = length-append (w ++ codes "/" ++ d ++ codes "/") n in
    let one : nat_lt 0 (length (slashed w d n)) ≡ true = grind (arith, nat_tests) in
    let most : nat_le (length (slashed w d n)) 80 ≡ true = grind (arith, nat_tests) in
    let before = visible-append (w ++ codes "/") d (visible-append w (codes "/") plain refl) plain-d in
    let all =
    visible-append (w ++ codes "/" ++ d ++ codes "/") n
    (visible-append (w ++ codes "/" ++ d) (codes "/") before refl) plain-n in
    both _ _ (both _ _ one most) all

-- a row's key, with the number as it is written
pub key_decimal : (kind : ImportKind) (document number : List ℕ) → is_row_number number ≡ true
    → slashed (import_kind_name kind) document number ≡ key_of kind document (digits_value 10 number)
key_decimal kind document number n = ap (slashed (import_kind_name kind) document) (sym (row_number_decimal number n))

pub key_fits : (kind : ImportKind) (document number : List ℕ) → is_document document ≡ true
    → is_row_number number ≡ true
    → is_key (slashed (import_kind_name kind) document number) ≡ true
key_fits kind document number d n =
    let name = name-short kind in
    let q =
    and_parts (nat_lt 0 (length document) && nat_le (length document) 32) (list_all is_document_byte document) d in
    let few =
    leb-true (length document) 32 (and_parts (nat_lt 0 (length document)) (nat_le (length document) 32) q.0).1 in
    let digits = row_number_digits number n in
    fits (import_kind_name kind) document number name.0 name.1 name.2 few
    (all-visible is_document_byte document-visible document q.1) digits.few
    (all-visible is_ascii_digit digit-visible number digits.digits)
