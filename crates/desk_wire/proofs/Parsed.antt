-- A text, parsed.
use Rattle.std.proofs.Common.{◌≡◌, ℕ, List, Bool, true, false, refl, Some, None}
use Rattle.std.specs.Str.{IsUtf8, is_utf8}
use Rattle.std.proofs.lemmas.Str.{IsUtf8-from_is_utf8, is_utf8-from_IsUtf8}
use Rattle.serde_json.specs.Data.{Data}
use Rattle.serde_json.specs.Read.{read}
use Rattle.desk_wire.specs.Values.{parsed}

pub parsed_ok : (t : List ℕ) (d : Data) → IsUtf8 t → read t ≡ Some d → parsed t ≡ Some d
parsed_ok t d u e = rw (is_utf8-from_IsUtf8 t u) e

pub parsed_none : (t : List ℕ) → (IsUtf8 t → read t ≡ None) → parsed t ≡ None
parsed_none t f = cases (is_utf8 t) refl
  where
    cases : (b : Bool) → is_utf8 t ≡ b → parsed t ≡ None
    cases true e = rw e (f (IsUtf8-from_is_utf8 t e))
    cases false e = rw e refl
