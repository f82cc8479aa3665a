use Rattle.std.proofs.Common.{◌∙◌, arith, refl, sym}
use Rattle.desk_http.specs.Services.{Performs}
use Rattle.desk_http.specs.Serving.{IsOneStep, IsTaken}
use Rattle.desk_http.proofs.Connections.{one_more}
use Rattle.desk_http.proofs.loopback.serve_clients.Goals as goal

pub loop-done-init : goal.loop-done-init
loop-done-init g c = record { kept = c.requires.kept; steps = refl; last = omega arith; gone = grind arith }

pub loop-done-preserved : goal.loop-done-preserved
loop-done-preserved g c = record {
  kept = c.answer.ensures.kept;
  steps =
      one_more
      (IsTaken g.S.Service.over
      (IsOneStep (Performs g.S.Service.state g.S.Service.machine g.S.Service.left g.S.Service.relates)
      c.args.site.now)) c.loop-done.done c.args.service.now c.loop-done.service c.answer.new.service
      c.loop-done.invariant.steps (sym c.is_over.ensures ∙ c.if-is_over.false, c.answer.ensures.step);
  last = grind arith;
  gone = grind arith;
}
