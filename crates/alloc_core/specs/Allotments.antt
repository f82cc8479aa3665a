-- What the stores hold that an allotment changes.
use Rattle.std.specs.Prelude.{ℕ, None}
use Rattle.word_core.specs.Counter.{Counting, numbering_of, resumed}
use Rattle.alloc_core.specs.AllocationsView.{allocations_now}
use Rattle.alloc_core.specs.Allotting.{Allotments}
use Rattle.alloc_core.specs.declared.allocations.Allocations.{Allocations}
use Rattle.alloc_core.specs.declared.purpose.Purpose.{Purpose}
use Rattle.alloc_core.specs.declared.purpose.Purpose.TheVariants.{Build}

abbrev pub allotments_of : Allocations → Counting → Allotments
allotments_of a c = record { allocations = allocations_now a; counter = numbering_of c }

-- the same, while rows are made and their numbers aren't drawn yet: the next of them is this one
abbrev pub allotments_at : ℕ → Allocations → Counting → Allotments
allotments_at next a c = record { allocations = allocations_now a; counter = resumed c.limits next }

-- for a line of the build, and for no output
abbrev pub for_line : ℕ → ℕ → Purpose
for_line build line = Build build line None
