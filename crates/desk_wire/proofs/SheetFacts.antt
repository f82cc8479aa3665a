-- The columns of a sheet.
use Rattle.std.proofs.Common.{◌≡◌, ℕ, ◌++◌, true, List, ◌∷◌, refl}
use Rattle.std.specs.Prelude.{Option, Some, None, is_some, option_map}
use Rattle.std.proofs.lemmas.Bool.{false≢true}
use Rattle.desk_wire.specs.Layouts.{place_list}
use Rattle.desk_wire.specs.Sheets.{FieldPlace, one_of}

-- a name that stands twice has no column
pub not-one : (column : Option ℕ) (i : ℕ) (more : List ℕ) → is_some column ≡ true
    → one_of (place_list column ++ i ∷ more) ≡ None
not-one None i more h = absurd (false≢true h)
not-one (Some j) i more h = refl

-- these places, and then those of the fields that are left
abbrev pub after : List FieldPlace → Option (List FieldPlace) → Option (List FieldPlace)
after done o = option_map (λ rest. done ++ rest) o
