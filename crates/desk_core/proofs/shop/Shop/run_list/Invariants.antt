use Rattle.std.proofs.Common.{◌≡◌, ◌≤◌, length, take, vec_capacity}
use Rattle.desk_core.specs.Machine.{run, answered, told, IsSoundState}
use Rattle.desk_core.specs.ShopView.{state_of}
use Rattle.desk_core.proofs.shop.Shop.run_list.Given as goal

abbrev pub invariant-loop-request : goal.invariant-loop-request
invariant-loop-request l =
    record {
      ran :
          run (state_of l.fn.self) (answered (take l.request-index l.requests) l.outcomes.items)
          ≡ (state_of l.self, told l.outcomes.items);
      count : length l.outcomes.items ≡ l.request-index;
      room : length l.requests ≤ vec_capacity l.outcomes;
      sound : IsSoundState (state_of l.self);
    }
