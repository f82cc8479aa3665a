-- Lines come into bills and go: add_line and drop_line.
use Rattle.std.specs.Prelude.{ℕ, ◌==◌, ◌&&◌, ◌||◌, not, List, [], ◌∷◌, ◌++◌, map, filter}
use Rattle.std.specs.FinMap as table
use Rattle.sheet_core.specs.Sheet.{Table}
use Rattle.part_core.specs.Catalogue.{Parts, is_retired, part_in}
use Rattle.word_core.specs.Checks.{Check}
use Rattle.word_core.specs.Counter.{drawn, passes_limit}
use Rattle.word_core.specs.Quantity.{is_bad_quantity}
use Rattle.word_core.specs.declared.refusal.Refusal.TheVariants.{NoSuch, BadNumber, WrongFlag}
use Rattle.word_core.specs.declared.refusal.Refusal.TheVariants.{Retired, InUse, Cycle, Full}
use Rattle.bom_core.specs.Bills.{Bills, substitute_rows}
use Rattle.bom_core.specs.Changes.{BillBooks, has_row, is_assembly, is_component, is_line_open, is_open, is_virtual}
use Rattle.bom_core.specs.Walks.{contains_itself}
use Rattle.bom_core.specs.declared.line.Line.{Line}
use Rattle.bom_core.specs.declared.line.NewLine.{NewLine}

-- ---- add_line

-- the row of a new line
abbrev pub new_line : ℕ → NewLine → Line
new_line n new = record {
  number = n;
  assembly = new.assembly;
  component = new.component;
  quantity = new.quantity;
  flags = new.flags;
}

-- the bills with the line
abbrev pub with_line : Line → Bills → Bills
with_line l bills = record bills { lines = table.insert bills.lines (l.number ∷ []) l }

-- a line under the next number
abbrev pub add_line : NewLine → BillBooks → BillBooks
add_line new b = record { bills = with_line (new_line b.counter.next new) b.bills; counter = drawn 1 b.counter }

-- what is checked of a new line by itself, in the order of checks
abbrev pub line_row_checks : NewLine → List ℕ → Parts → List Check
line_row_checks new open_parts parts =
    (not (has_row parts.parts new.assembly && has_row parts.parts new.component), NoSuch)
    ∷ (is_bad_quantity new.quantity, BadNumber)
    ∷ (
      not (is_assembly parts new.assembly)
          || (not (is_component parts new.component) || (is_virtual parts new.component && not new.flags.consumable)),
      WrongFlag,
    )
    ∷ (is_retired (part_in new.assembly parts) || is_retired (part_in new.component parts), Retired)
    ∷ (is_open parts open_parts new.assembly, InUse)
    ∷ []

-- why it is refused, in the order of checks
abbrev pub add_line_checks : NewLine → List ℕ → Parts → BillBooks → List Check
add_line_checks new open_parts parts b =
    line_row_checks new open_parts parts
    ++ ((contains_itself parts (add_line new b).bills, Cycle) ∷ (passes_limit (add_line new b).counter, Full) ∷ [])

-- ---- drop_line

-- the table without the rows of these numbers
abbrev pub removed_all : {X : Type 0} → List ℕ → Table X → Table X
removed_all [] m = m
removed_all (n ∷ ns) m = removed_all ns (table.remove m (n ∷ []))

-- the numbers of a line's substitutes
abbrev pub substitutes_of : ℕ → Bills → List ℕ
substitutes_of n bills = map (λ s. s.number) (filter (λ s. s.line == n) (substitute_rows bills))

-- the bills without the line and its substitutes
abbrev pub without_line : ℕ → Bills → Bills
without_line n bills = record {
  lines = table.remove bills.lines (n ∷ []);
  substitutes = removed_all (substitutes_of n bills) bills.substitutes;
}

-- why it is refused, in the order of checks
abbrev pub drop_line_checks : ℕ → List ℕ → Parts → Bills → List Check
drop_line_checks n open_parts parts bills =
    (not (has_row bills.lines n), NoSuch) ∷ (is_line_open parts bills open_parts n, InUse) ∷ []
