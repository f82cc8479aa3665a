use Rattle.std.proofs.Common.{◌≡◌, drop}
use Rattle.std.specs.FinMap as table
use Rattle.sheet_core.specs.Sheet.{now_of}
use Rattle.desk_core.specs.ShopView.{state_of}
use Rattle.list_core.specs.Past.{gathered_days, number_of}
use Rattle.list_core.proofs.past.last_days.Given as goal

-- what is gathered so far, with what is left, is what all entries give
abbrev pub invariant-loop-entry : goal.invariant-loop-entry
invariant-loop-entry l = let number = number_of l.subject (state_of l.shop) (now_of l.origins) in
    gathered_days number (drop l.entry-index l.entries) (now_of l.days) ≡ gathered_days number l.entries table.empty
