-- The fields of a head, by their names.
use Rattle.std.specs.Prelude.{ℕ, Bool, List, [], ◌∷◌, map, Option, Some, None}
use Rattle.std.specs.Borrow.{Bor}
use Rattle.std.specs.List.{filter}
use Rattle.std.specs.Str.{str_eq_ignore_ascii_case}
use Rattle.desk_http.specs.declared.field.FieldValue.{FieldValue}
use Rattle.desk_http.specs.declared.field.FieldValue.TheVariants as value

-- the field has this name, whatever its case
abbrev pub is_named : List ℕ → List ℕ × List ℕ → Bool
is_named name field = str_eq_ignore_ascii_case field.0 name

abbrev pub values : List ℕ → List (List ℕ × List ℕ) → List (List ℕ)
values name fields = map (λ f. f.1) (filter (is_named name) fields)

-- what all the fields of one name say
pub data Said : Type 0 where
  Nothing : Said
  One : List ℕ → Said
  Several : Said

abbrev pub said_by : List (List ℕ) → Said
said_by [] = Nothing
said_by (v ∷ []) = One v
said_by (v ∷ w ∷ more) = Several

-- what the fields of this name say
abbrev pub said : List ℕ → List (List ℕ × List ℕ) → Said
said name fields = said_by (values name fields)

-- ---- the same as code has it

abbrev pub said_in : FieldValue → Said
said_in value.Missing = Nothing
said_in (value.One v) = One v.now
said_in value.Several = Several

abbrev pub found_so_far : Option (Bor (List ℕ)) → List (List ℕ)
found_so_far None = []
found_so_far (Some value) = value.now ∷ []
