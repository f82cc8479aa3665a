-- The names of an object's members, as the keys of its map.
use Rattle.std.proofs.Common.{◌≡◌, ℕ, List, [], ◌∷◌, ◌++◌, Bool, true, false, ◌&&◌, ◌||◌, refl, ap, Some}
use Rattle.std.specs.Str.{bytes_eq}
use Rattle.std.specs.Prelude.{String, string_bytes}
use Rattle.std.specs.declared.alloc.Global.{Global}
use Rattle.std.specs.Map.{keys_of}
use Rattle.serde_json.specs.Data.{Data}
use Rattle.serde_json.specs.Find.{as_object}
use Rattle.serde_json.specs.declared.value.Value.{Value}
use Rattle.serde_json.specs.View.{members_view}
use Rattle.word_core.specs.Forms.{is_among}
use Rattle.desk_wire.specs.Members.{all_known, knows_all}

abbrev pub all_keys : List (List ℕ) → List (String Global) → Bool
all_keys names [] = true
all_keys names (k ∷ ks) = is_among (string_bytes k) names && all_keys names ks

pub all_known-members_view : (names : List (List ℕ)) (es : List (String Global × Value))
    → all_known names (members_view es) ≡ all_keys names (keys_of es)
all_known-members_view names [] = refl
all_known-members_view names (e ∷ es) =
    ap (λ b. is_among (string_bytes e.0) names && b) (all_known-members_view names es)

-- at the `Some` of `as_object`
pub knows_all_members : (names : List (List ℕ)) (d : Data) (es : List (String Global × Value))
    → Some (members_view es) ≡ as_object d → knows_all names d ≡ all_keys names (keys_of es)
knows_all_members names d es e = rw (← e) (all_known-members_view names es)

-- a name stands in the first list or in the second
pub is_among_both : (name : List ℕ) (ms ns : List (List ℕ))
    → is_among name (ms ++ ns) ≡ (is_among name ms || is_among name ns)
is_among_both name [] ns = refl
is_among_both name (m ∷ ms) ns = go (bytes_eq name m) (is_among_both name ms ns)
  where
    go : (b : Bool) → is_among name (ms ++ ns) ≡ (is_among name ms || is_among name ns)
        → (b || is_among name (ms ++ ns)) ≡ ((b || is_among name ms) || is_among name ns)
    go true later = refl
    go false later = later
