-- Row numbers and limits.
use Rattle.std.specs.Prelude.{ℕ, ◌+◌, ◌-◌, ◌≤◌, Bool, nat_lt, List}
use Rattle.std.specs.List.{range_with_len}
use Rattle.word_core.specs.declared.limits.Limits.{Limits}

abbrev pub IsLimit : ℕ → Type 0
IsLimit n = (1 ≤ n) × (n ≤ 10000000000)

-- the number that is drawn next, and the limits
pub record Numbering : Type 0 where
  pub next : ℕ
  pub limits : Limits

-- nothing is drawn yet
abbrev pub start : Limits → Numbering
start limits = record { next = 1; limits = limits }

-- the number may be drawn next: all below it are drawn, which the limit allows
abbrev pub IsNext : Limits → ℕ → Type 0
IsNext limits next = (1 ≤ next) × (next ≤ limits.numbers + 1)

-- the numbers below the next are drawn
abbrev pub resumed : Limits → ℕ → Numbering
resumed limits next = record { next = next; limits = limits }

-- so many numbers are drawn
abbrev pub drawn : ℕ → Numbering → Numbering
drawn count c = record { next = c.next + count; limits = c.limits }

-- more numbers are drawn than the limit allows
abbrev pub passes_limit : Numbering → Bool
passes_limit c = nat_lt (c.limits.numbers + 1) c.next

-- so many numbers more would pass the limit
abbrev pub lacks : ℕ → Numbering → Bool
lacks count c = passes_limit (drawn count c)

-- the numbers that were drawn from the one to the other, in order
abbrev pub numbers_between : Numbering → Numbering → List ℕ
numbers_between old new = range_with_len old.next (new.next - old.next)

-- ---- what a contract sees of a counter

-- the number that is drawn next, now and before the request, and the limits
pub record Counting : Type 0 where
  pub next : ℕ
  pub before : ℕ
  pub limits : Limits

abbrev pub numbering_of : Counting → Numbering
numbering_of c = record { next = c.next; limits = c.limits }

abbrev pub numbering_before : Counting → Numbering
numbering_before c = record { next = c.before; limits = c.limits }
