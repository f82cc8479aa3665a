-- Substitutes come onto lines and go: add_substitute and drop_substitute.
use Rattle.std.specs.Prelude.{ℕ, Bool, ◌&&◌, ◌||◌, not, List, [], ◌∷◌, ◌++◌}
use Rattle.std.specs.FinMap as table
use Rattle.part_core.specs.Catalogue.{Parts, is_retired, part_in}
use Rattle.word_core.specs.Checks.{Check}
use Rattle.word_core.specs.Counter.{drawn, passes_limit}
use Rattle.word_core.specs.declared.refusal.Refusal.TheVariants.{NoSuch, WrongFlag, Retired, InUse, Cycle, Full}
use Rattle.bom_core.specs.Bills.{Bills, fits}
use Rattle.bom_core.specs.Changes.{BillBooks, has_row, is_component, is_line_open, is_virtual, row_is}
use Rattle.bom_core.specs.Walks.{contains_itself}
use Rattle.bom_core.specs.declared.substitute.Substitute.{Substitute}

-- ---- add_substitute

-- the row of a new substitute
abbrev pub new_substitute : ℕ → ℕ → ℕ → Substitute
new_substitute n line part = record { number = n; line = line; part = part }

-- the bills with the substitute
abbrev pub with_substitute : Substitute → Bills → Bills
with_substitute s bills = record bills { substitutes = table.insert bills.substitutes (s.number ∷ []) s }

-- a substitute under the next number
abbrev pub add_substitute : ℕ → ℕ → BillBooks → BillBooks
add_substitute line part b =
    record { bills = with_substitute (new_substitute b.counter.next line part) b.bills; counter = drawn 1 b.counter }

-- the line fits the part already
abbrev pub is_fitting : Parts → Bills → ℕ → ℕ → Bool
is_fitting parts bills n p = row_is (λ l. fits parts bills l p) bills.lines n

-- what is checked of a new substitute by itself, in the order of checks
abbrev pub substitute_row_checks : ℕ → ℕ → List ℕ → Parts → Bills → List Check
substitute_row_checks line part open_parts parts bills =
    (not (has_row bills.lines line && has_row parts.parts part), NoSuch)
    ∷ (not (is_component parts part) || is_virtual parts part, WrongFlag)
    ∷ (is_retired (part_in part parts), Retired)
    ∷ (is_line_open parts bills open_parts line || is_fitting parts bills line part, InUse)
    ∷ []

-- why it is refused, in the order of checks
abbrev pub add_substitute_checks : ℕ → ℕ → List ℕ → Parts → BillBooks → List Check
add_substitute_checks line part open_parts parts b =
    substitute_row_checks line part open_parts parts b.bills
    ++ ((contains_itself parts (add_substitute line part b).bills, Cycle)
    ∷ (passes_limit (add_substitute line part b).counter, Full) ∷ [])

-- ---- drop_substitute

-- the bills without the substitute
abbrev pub without_substitute : ℕ → Bills → Bills
without_substitute n bills = record bills { substitutes = table.remove bills.substitutes (n ∷ []) }

-- why it is refused, in the order of checks
abbrev pub drop_substitute_checks : ℕ → List ℕ → Parts → Bills → List Check
drop_substitute_checks n open_parts parts bills =
    (not (has_row bills.substitutes n), NoSuch)
    ∷ (row_is (λ s. is_line_open parts bills open_parts s.line) bills.substitutes n, InUse) ∷ []
