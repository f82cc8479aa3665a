-- A new category of parts, under a parent or at the top.
use Rattle.std.specs.Prelude.{ℕ, List, [], ◌∷◌, Option}
use Rattle.std.specs.FinMap as table
use Rattle.part_core.specs.Catalogue.{Parts, Register, category_in, is_missing}
use Rattle.word_core.specs.Checks.{Check}
use Rattle.word_core.specs.Counter.{drawn, passes_limit}
use Rattle.part_core.specs.NamedRows.{is_named}
use Rattle.word_core.specs.declared.refusal.Refusal.TheVariants.{NoSuch, NameTaken, Full}

-- the catalogue with a category under that number
abbrev pub with_category : ℕ → List ℕ → Option ℕ → Parts → Parts
with_category n name parent s =
    record s { categories = table.insert s.categories (n ∷ []) (record { number = n; name = name; parent = parent }) }

-- a category under the next number
abbrev pub add_category : List ℕ → Option ℕ → Register → Register
add_category name parent r =
    record { parts = with_category r.counter.next name parent r.parts; counter = drawn 1 r.counter }

-- why it is refused, in the order of checks
abbrev pub add_category_checks : List ℕ → Option ℕ → Register → List Check
add_category_checks name parent r =
    (is_missing parent (λ n. category_in n r.parts), NoSuch)
    ∷ (is_named name parent r.parts.categories, NameTaken)
    ∷ (passes_limit (add_category name parent r).counter, Full)
    ∷ []
