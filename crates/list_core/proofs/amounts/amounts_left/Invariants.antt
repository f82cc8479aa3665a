use Rattle.std.proofs.Common.{◌≡◌, ◌+◌, ◌≤◌, not, drop, filter, length, map, sum_by}
use Rattle.yard_core.specs.Stock.{is_gone}
use Rattle.desk_core.specs.ShopView.{state_of}
use Rattle.list_core.specs.Amounts.{allocated_of, free_of, present_of}
use Rattle.list_core.proofs.amounts.amounts_left.Given as goal

-- the amounts so far and those of what is left are those of all
abbrev pub invariant-loop-item : goal.invariant-loop-item
invariant-loop-item l =
    let s = state_of l.shop in
    let all = filter (λ i. not (is_gone i.place)) (map (λ i. i.now) l.items) in
    let left = filter (λ i. not (is_gone i.place)) (map (λ i. i.now) (drop l.item-index l.items)) in
    record {
      present : l.amounts.present + sum_by (present_of s) left ≡ sum_by (present_of s) all;
      free : l.amounts.free + sum_by (free_of s) left ≡ sum_by (free_of s) all;
      allocated : l.amounts.allocated + sum_by (allocated_of s) left ≡ sum_by (allocated_of s) all;
      items : l.amounts.items + length left ≡ length all;
      within : l.amounts.items ≤ l.item-index;
    }
