-- The ledger of a part: its number and name, and its sums.
use Rattle.std.specs.Prelude.{ℕ, List, [], ◌∷◌, decimal, codes, Option, option_map}
use Rattle.part_core.specs.Catalogue.{part_in}
use Rattle.yard_core.specs.declared.sums.Sums.{Sums}
use Rattle.yard_core.specs.Sums.{sums_of}
use Rattle.desk_core.specs.Machine.{State}
use Rattle.report_core.specs.Lines.{Lines}

-- a line of a name and an amount
abbrev pub amount_line : List ℕ → ℕ → List (List ℕ)
amount_line name amount = name ∷ decimal amount ∷ []

abbrev pub ledger_of : ℕ → List ℕ → Sums → Lines
ledger_of number name sums =
    (codes "ledger" ∷ decimal number ∷ name ∷ [])
    ∷ amount_line (codes "received") sums.received
    ∷ amount_line (codes "found") sums.found
    ∷ amount_line (codes "built") sums.built
    ∷ amount_line (codes "returned") sums.returned
    ∷ amount_line (codes "consumed") sums.consumed
    ∷ amount_line (codes "shipped") sums.shipped
    ∷ amount_line (codes "written") sums.written
    ∷ amount_line (codes "present") sums.present
    ∷ amount_line (codes "sent") sums.sent
    ∷ amount_line (codes "used") sums.used
    ∷ []

-- none where there is no such part
abbrev pub ledger_lines : ℕ → State → Option Lines
ledger_lines number s =
    option_map (λ part. ledger_of number part.name (sums_of number s.stock)) (part_in number s.parts)
