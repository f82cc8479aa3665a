-- Row numbers, and those that may be absent.
use Rattle.std.specs.Prelude.{ℕ, Bool, true, false, ◌==◌, ◌&&◌, nat_lt, Option, Some, None}

-- the number was drawn, where those below the next were
abbrev pub is_drawn : ℕ → ℕ → Bool
is_drawn next n = nat_lt 0 n && nat_lt n next

-- whether the numbers are the same, or both are absent
abbrev pub is_same_number : Option ℕ → Option ℕ → Bool
is_same_number None None = true
is_same_number None (Some n) = false
is_same_number (Some m) None = false
is_same_number (Some m) (Some n) = m == n

-- the number that is given passes the test, where one is
abbrev pub passes_where_named : (ℕ → Bool) → Option ℕ → Bool
passes_where_named test None = true
passes_where_named test (Some n) = test n
