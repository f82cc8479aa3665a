use Rattle.std.proofs.Common.{◌≡◌}
use Rattle.desk_http.proofs.loopback.Clients.accept_patiently.Given as goal

abbrev pub invariant-tries : goal.invariant-tries
invariant-tries g l = l.self.accepted ≡ l.initial.self.accepted
