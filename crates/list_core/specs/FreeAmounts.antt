-- What is free of parts, as a table.
use Rattle.std.specs.Prelude.{◌≡◌, ℕ, [], ◌∷◌, Some}
use Rattle.std.specs.FinMap as table
use Rattle.sheet_core.specs.Sheet.{Table}
use Rattle.desk_core.specs.Machine.{State}
use Rattle.list_core.specs.Amounts.{free_amount}
use Rattle.list_core.specs.declared.free_amounts.FreeAmount.{FreeAmount}

-- each row has what is free of the part whose number it stands under
abbrev pub AreFree : State → Table FreeAmount → Type 0
AreFree s t = (part : ℕ) (row : FreeAmount) → table.get t (part ∷ []) ≡ Some row → row.amount ≡ free_amount part s
