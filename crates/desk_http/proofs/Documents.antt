-- The name of a document is text, and so are those of a command and of a list.
use Rattle.std.proofs.Common.{◌≡◌, ℕ, zero, suc, ◌<◌, slice_index, List}
use Rattle.std.proofs.Common.{[], ◌∷◌, Bool, true, false, refl, arith, length}
use Rattle.std.specs.Prelude.{◌&&◌, nat_lt, nat_le}
use Rattle.std.specs.List.{list_all}
use Rattle.std.specs.Str.{IsUtf8, IsAscii}
use Rattle.std.proofs.lemmas.Str.{IsUtf8-from_ascii}
use Rattle.std.proofs.lemmas.Bool.Decides.{nat_tests}
use Rattle.desk_http.specs.Targets.{is_document_byte, is_document, is_name, is_name_byte, is_list_byte, is_list_name}

low : (b : ℕ) → is_document_byte b ≡ true → b < 128
low b h = grind (arith, nat_tests)

low_name : (b : ℕ) → is_name_byte b ≡ true → b < 128
low_name b h = grind (arith, nat_tests)

low_list : (b : ℕ) → is_list_byte b ≡ true → b < 128
low_list b h = grind (arith, nat_tests)

-- bytes of which each passes a test that none but those of ASCII passes
ascii : (test : ℕ → Bool) → ((b : ℕ) → test b ≡ true → b < 128) → (s : List ℕ) → list_all test s ≡ true → IsAscii s
ascii test few [] h i = omega arith
ascii test few (b ∷ s) h i = by (test b) refl h (ascii test few s) i
  where
    by : (c : Bool) → test b ≡ c → (c && list_all test s) ≡ true → (list_all test s ≡ true → IsAscii s) → (i : ℕ)
        → slice_index (b ∷ s) i < 128
    by false q h' ih i = absurd (cc)
    by true q h' ih zero = few b q
    by true q h' ih (suc i) = ih h' i

pub is_text : (s : List ℕ) → is_document s ≡ true → IsUtf8 s
is_text s h = IsUtf8-from_ascii s (ascii is_document_byte low s (by (nat_lt 0 (length s)) (nat_le (length s) 32) h))
  where
    by : (c d : Bool) → (c && d && list_all is_document_byte s) ≡ true → list_all is_document_byte s ≡ true
    by true true e = e
    by true false e = absurd (cc)
    by false d e = absurd (cc)

pub name_is_text : (s : List ℕ) → is_name s ≡ true → IsUtf8 s
name_is_text s h = IsUtf8-from_ascii s (ascii is_name_byte low_name s (by (nat_lt 0 (length s)) h))
  where
    by : (c : Bool) → (c && list_all is_name_byte s) ≡ true → list_all is_name_byte s ≡ true
    by true e = e
    by false e = absurd (cc)

pub list_name_is_text : (s : List ℕ) → is_list_name s ≡ true → IsUtf8 s
list_name_is_text s h = IsUtf8-from_ascii s (ascii is_list_byte low_list s (by (nat_lt 0 (length s)) h))
  where
    by : (c : Bool) → (c && list_all is_list_byte s) ≡ true → list_all is_list_byte s ≡ true
    by true e = e
    by false e = absurd (cc)
