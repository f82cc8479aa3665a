use Rattle.sheet_core.specs.Sheet.{now_of}
use Rattle.desk_core.specs.ShopView.{state_of}
use Rattle.list_core.specs.FreeAmounts.{AreFree}
use Rattle.list_core.proofs.free_amounts.free_amounts.Given as goal

-- what was found so far is free
abbrev pub invariant-loop-part : goal.invariant-loop-part
invariant-loop-part l = AreFree (state_of l.shop) (now_of l.found)
