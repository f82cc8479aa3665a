use Rattle.std.proofs.Common.{◌≤◌, length}
use Rattle.desk_http.specs.Paces.{HaveGone}
use Rattle.desk_http.proofs.loopback.next_client.Given as goal

abbrev pub invariant-rounds : goal.invariant-rounds
invariant-rounds g l = record {
  last : l.clients.accepted ≤ l.last;
  gone :
      HaveGone 0 l.initial.clients.accepted (length l.initial.aside.silent.items) l.clients.accepted
      (length l.aside.silent.items);
}
