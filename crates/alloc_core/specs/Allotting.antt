-- Automatic allocation: what is missing for lines of a build is shared out over the items that may serve each.
use Rattle.std.specs.Prelude.{ℕ, Bool, ◌==◌, ◌-◌, if◌then◌else◌, List, [], ◌∷◌, map, min, None}
use Rattle.std.specs.FinMap as table
use Rattle.part_core.specs.Catalogue.{Parts}
use Rattle.word_core.specs.Counter.{Numbering, drawn}
use Rattle.sheet_core.specs.Sheet.{Table}
use Rattle.bom_core.specs.Bills.{Bills}
use Rattle.bom_core.specs.declared.line.Line.{Line}
use Rattle.yard_core.specs.Stock.{Stock}
use Rattle.alloc_core.specs.Allocations.{free}
use Rattle.alloc_core.specs.Automatic.{shares}
use Rattle.alloc_core.specs.Candidates.{candidate_numbers}
use Rattle.alloc_core.specs.declared.allocation.Allocation.{Allocation}
use Rattle.alloc_core.specs.declared.purpose.Purpose.{Purpose}
use Rattle.alloc_core.specs.declared.purpose.Purpose.TheVariants.{Build}

-- what an allocation changes: the rows, and the counter that they draw their numbers from
pub record Allotments : Type 0 where
  pub allocations : Table Allocation
  pub counter : Numbering

-- the row of a new allocation
abbrev pub new_allocation : ℕ → Purpose → ℕ → ℕ → Allocation
new_allocation n purpose item quantity = record { number = n; item = item; quantity = quantity; purpose = purpose }

-- a row under the next number
abbrev pub allocate : Purpose → ℕ → ℕ → Allotments → Allotments
allocate purpose item quantity b = record {
  allocations = table.insert b.allocations (b.counter.next ∷ []) (new_allocation b.counter.next purpose item quantity);
  counter = drawn 1 b.counter;
}

-- a row for an amount, none for an amount of 0
abbrev pub allocate_some : Purpose → ℕ → ℕ → Allotments → Allotments
allocate_some purpose item quantity b = if quantity == 0 then b else allocate purpose item quantity b

-- of each item its amount, in order
abbrev pub allocate_each : Purpose → List ℕ → List ℕ → Allotments → Allotments
allocate_each purpose [] amounts b = b
allocate_each purpose (n ∷ ns) [] b = b
allocate_each purpose (n ∷ ns) (q ∷ qs) b = allocate_each purpose ns qs (allocate_some purpose n q b)

-- a line, and what is missing for it
pub record Need : Type 0 where
  pub line : Line
  pub missing : ℕ

-- what is missing for a line is shared out over the items that may serve it, by what is free of each
abbrev pub allot_line : Bool → Parts → Bills → Stock → ℕ → Need → Allotments → Allotments
allot_line with_substitutes parts bills s build need b =
    let items = candidate_numbers with_substitutes parts bills need.line s in
    allocate_each (Build build need.line.number None) items
    (shares need.missing (map (λ n. free n b.allocations s) items)) b

-- each line in order, with what the lines before it left free
abbrev pub allot_lines : Bool → Parts → Bills → Stock → ℕ → List Need → Allotments → Allotments
allot_lines with_substitutes parts bills s build [] b = b
allot_lines with_substitutes parts bills s build (need ∷ needs) b =
    allot_lines with_substitutes parts bills s build needs (allot_line with_substitutes parts bills s build need b)

-- ---- the same item by item, as code goes

-- each item in order gives what is free of it by then, up to what is still missing
abbrev pub allot_in_turn : Purpose → List ℕ → ℕ → Stock → Allotments → Allotments
allot_in_turn purpose [] missing s b = b
allot_in_turn purpose (n ∷ ns) missing s b =
    let amount = min (free n b.allocations s) missing in
    allot_in_turn purpose ns (missing - amount) s (allocate_some purpose n amount b)
