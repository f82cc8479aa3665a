use Rattle.std.proofs.Common.{◌+◌, ◌≤◌, length}
use Rattle.desk_http.specs.Services.{Performs}
use Rattle.desk_http.specs.Serving.{AreSteps, IsOneStep, IsTaken}
use Rattle.desk_http.proofs.loopback.serve_clients.Given as goal

abbrev pub invariant-loop-done : goal.invariant-loop-done
invariant-loop-done g l = record {
  kept : g.S.Service.is_kept l.service;
  steps :
      AreSteps
      (IsTaken g.S.Service.over
      (IsOneStep (Performs g.S.Service.state g.S.Service.machine g.S.Service.left g.S.Service.relates) l.site)) l.done
      l.initial.service l.service;
  last : l.clients.accepted ≤ l.initial.clients.accepted + l.count;
  gone : length l.aside.silent.items + l.initial.clients.accepted + l.done ≤ l.clients.accepted;
}
