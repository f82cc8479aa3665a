use Rattle.desk_core.specs.ShopView.{state_of}
use Rattle.invdesk.proofs.look.look_at_none.Goals as goal

pub returns-in-Ok-clause-looks : goal.returns-in-Ok-clause-looks
returns-in-Ok-clause-looks c = record {
  books = state_of c.in-Ok.desk.shop;
  empty = c.in-Ok.ensures.new c.in_ok-conn.ensures.empty.2;
  prints = c.print_out.ensures;
}
