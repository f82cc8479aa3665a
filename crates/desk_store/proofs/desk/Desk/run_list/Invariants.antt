use Rattle.std.specs.Prelude.{IfSome}
use Rattle.std.proofs.Common.{◌≡◌, ◌≤◌, None, is_some, length, take, vec_capacity}
use Rattle.sqlite.specs.Held.{state}
use Rattle.sqlite.specs.State.{HasCleanDisk}
use Rattle.sqlite.specs.Tree.{Trees}
use Rattle.desk_core.specs.Machine.{IsAnew, run}
use Rattle.desk_core.specs.ShopView.{state_of}
use Rattle.desk_store.specs.Desks.{IsDesk}
use Rattle.desk_store.specs.Outcomes.{AreLeft, Closes, answered, stopped_at, told}
use Rattle.desk_store.proofs.desk.Desk.run_list.Given as goal

abbrev pub invariant-loop-request : goal.invariant-loop-request
invariant-loop-request g l =
    let requests = take l.request-index l.requests in
    let outcomes = l.outcomes.items in
    record {
      desk : IsDesk g.S.Store l.self;
      ran : run (state_of l.fn.self.shop) (answered requests outcomes) ≡ (state_of l.self.shop, told outcomes);
      stopped : IfSome (stopped_at requests outcomes) (IsAnew (state_of l.self.shop));
      count : length outcomes ≡ l.request-index;
      room : length l.requests ≤ vec_capacity l.outcomes;
      closes : Closes (is_some l.fn.self.failed) outcomes (is_some l.self.failed);
      left : l.fn.self.failed ≡ None → HasCleanDisk (state g.S.Store l.self.conn) → (trees : Trees)
          → (state g.S.Store l.self.conn).may_leave trees
          → AreLeft (state_of l.self.shop) (stopped_at requests outcomes) trees;
    }
