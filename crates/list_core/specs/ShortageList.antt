-- The list of what all open builds together still want.
use Rattle.std.specs.Prelude.{ℕ, ◌-◌, ◌==◌, nat_lt, if◌then◌else◌, List, [], ◌∷◌, map, filter, flat_map, sum_by}
use Rattle.std.specs.Prelude.{decimal, codes}
use Rattle.std.specs.FinMap as table
use Rattle.part_core.specs.declared.part.Part.{Part}
use Rattle.bom_core.specs.Bills.{part_rows}
use Rattle.build_core.specs.declared.shortage.Shortage.{Shortage}
use Rattle.desk_core.specs.Machine.{State}
use Rattle.list_core.specs.Amounts.{free_amount}
use Rattle.report_core.specs.Shortage.{wants_of}
use Rattle.report_core.specs.Lines.{Lines}

abbrev pub wants_header : List (List ℕ)
wants_header =
    codes "part" ∷ codes "name" ∷ codes "required" ∷ codes "allocated" ∷ codes "missing" ∷ codes "free" ∷ codes "buy"
    ∷ []

-- what every build wants, line by line; one that isn't open wants nothing
abbrev pub all_wants : State → List Shortage
all_wants s = flat_map (λ b. wants_of b.number s) (table.values s.builds)

-- an amount of the lines whose component is the part
abbrev pub wanted_of : ℕ → (Shortage → ℕ) → List Shortage → ℕ
wanted_of part amount rows = sum_by (λ r. if r.component == part then amount r else 0) rows

-- a part: what is required, allocated and missing of it over all these lines, what is free of it, and how many have to
-- be had besides
abbrev pub want_row : State → List Shortage → Part → List (List ℕ)
want_row s rows part =
    decimal part.number
    ∷ part.name
    ∷ decimal (wanted_of part.number (λ r. r.required) rows)
    ∷ decimal (wanted_of part.number (λ r. r.allocated) rows)
    ∷ decimal (wanted_of part.number (λ r. r.missing) rows)
    ∷ decimal (free_amount part.number s)
    ∷ decimal (wanted_of part.number (λ r. r.missing) rows - free_amount part.number s)
    ∷ []

-- each part of which something is missing, by number
abbrev pub shortage_list : State → Lines
shortage_list s =
    wants_header
    ∷ map (want_row s (all_wants s))
    (filter (λ p. nat_lt 0 (wanted_of p.number (λ r. r.missing) (all_wants s))) (part_rows s.parts))
