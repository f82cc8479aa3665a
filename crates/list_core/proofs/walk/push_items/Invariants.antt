use Rattle.std.proofs.Common.{◌≡◌, ◌++◌, drop}
use Rattle.desk_core.specs.ShopView.{state_of}
use Rattle.list_core.specs.Trace.{item_children}
use Rattle.list_core.proofs.walk.push_items.Given as goal

-- what was found so far and the items of what is left are all
abbrev pub invariant-loop-number : goal.invariant-loop-number
invariant-loop-number l =
    l.found.items ++ item_children (state_of l.shop) l.how (drop l.number-index l.numbers)
    ≡ l.initial.found.items ++ item_children (state_of l.shop) l.how l.numbers
