-- A way that is written as one text, as lists show it: names from the top of a tree, with ` / ` between two.
use Rattle.std.specs.Prelude.{ℕ, zero, suc, ◌==◌, ◌&&◌, List, [], ◌∷◌, length, Option, Some, None, if◌then◌else◌}
use Rattle.part_core.specs.declared.found.Found.{Found}
use Rattle.part_core.specs.declared.found.Found.TheVariants.{Nothing, One, Several}

-- what stands behind the ` / ` with which a text begins
abbrev pub behind_stroke : List ℕ → Option (List ℕ)
behind_stroke (a ∷ b ∷ c ∷ bs) = if a == 32 && (b == 47 && c == 32) then Some bs else None
behind_stroke _ = None

-- a text whose first ` / ` has this behind it, or that has none
abbrev pub cut_before : List ℕ × Option (List ℕ) → ℕ → Option (List ℕ) → List ℕ × Option (List ℕ)
cut_before later b (Some rest) = ([], Some rest)
cut_before later b None = (b ∷ later.0, later.1)

-- what stands before the first ` / ` of a text, and what behind it: the whole text, where it has none
abbrev pub cut_at_stroke : List ℕ → List ℕ × Option (List ℕ)
cut_at_stroke [] = ([], None)
cut_at_stroke (b ∷ bs) = cut_before (cut_at_stroke bs) b (behind_stroke (b ∷ bs))

-- a tree: the row of that name under a parent, or at its top
abbrev pub Tree : Type 0
Tree = Option ℕ → List ℕ → Found

-- a row is the end of a way of which nothing is left
abbrev pub further : (ℕ → List ℕ → Found) → ℕ → Option (List ℕ) → Found
further on n None = One n
further on n (Some rest) = on n rest

-- what is left of the way leads on from the one row that was found
abbrev pub from_row : (ℕ → List ℕ → Found) → Option (List ℕ) → Found → Found
from_row on rest Nothing = Nothing
from_row on rest (One n) = further on n rest
from_row on rest Several = Several

-- The row to which the names of a text lead from there on, by so many steps at most. A text has fewer names than bytes.
abbrev pub led_by : Tree → ℕ → Option ℕ → List ℕ → Found
led_by child zero parent text = Nothing
led_by child (suc steps) parent text =
    from_row (λ n rest. led_by child steps (Some n) rest) (cut_at_stroke text).1 (child parent (cut_at_stroke text).0)

-- what is found of the name at the top; where nothing is, what the way leads to
abbrev pub or_led : Tree → List ℕ → Found → Found
or_led child text Nothing = led_by child (length text) None text
or_led child text found = found

-- a text is the name of a row at the top, or else a way
abbrev pub by_text_way : Tree → List ℕ → Found
by_text_way child text = or_led child text (child None text)
