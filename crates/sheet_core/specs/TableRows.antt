-- Tables of which some rows go, and tables of which each row changes.
use Rattle.std.specs.Prelude.{not, Bool, filter, map}
use Rattle.std.specs.FinMap as table
use Rattle.sheet_core.specs.Sheet.{Table}

-- the table without the rows that pass
abbrev pub without_rows : {X : Type 0} → (X → Bool) → Table X → Table X
without_rows test t = table.from_entries (filter (λ e. not (test e.1)) (table.entries t))

-- each row changed, under its key
abbrev pub mapped : {X : Type 0} → (X → X) → Table X → Table X
mapped change t = table.from_entries (map (λ e. (e.0, change e.1)) (table.entries t))
