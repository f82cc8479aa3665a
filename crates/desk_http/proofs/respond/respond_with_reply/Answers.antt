use Rattle.std.proofs.Common.{◌∙◌, ap, subst}
use Rattle.std.specs.Prelude.{Err}
use Rattle.desk_http.specs.Responses.{failure_response, reply_response}
use Rattle.desk_http.specs.Services.{Performs, heard, operation, reply_view}
use Rattle.desk_http.specs.Serving.{Sends}
use Rattle.desk_http.specs.Targets.{resource, some_text}
use Rattle.desk_http.proofs.Serving.{told, failed}
use Rattle.desk_http.proofs.respond.respond_with_reply.Goals as goal

pub returns-in-Ok-clause-sends : goal.returns-in-Ok-clause-sends
returns-in-Ok-clause-sends g c =
    let performs = Performs g.S.Service.state g.S.Service.machine g.S.Service.left g.S.Service.relates in
    let asked = operation (resource c.args.target.now) (some_text c.args.known) c.args.body.now in
    told performs c.args.site.now c.args.service.now asked
    c.perform.new.service (reply_view c.in-Ok.reply)
    (g.W.Write.contents c.args.writer.now) (g.W.Write.contents c.tell.new.writer) c.tell.result
    (subst (λ o. performs c.args.service.now asked (heard o) c.perform.new.service) c.in-Ok.is
    c.in_ok-outcome.ensures.performs)
    (subst (λ site. Sends (reply_response site.page (reply_view c.in-Ok.reply)) (g.W.Write.contents c.args.writer.now)
    (g.W.Write.contents c.tell.new.writer) c.tell.result) c.site.view_is c.tell.ensures)

pub returns-in-Failed-clause-sends : goal.returns-in-Failed-clause-sends
returns-in-Failed-clause-sends g c =
    let performs = Performs g.S.Service.state g.S.Service.machine g.S.Service.left g.S.Service.relates in
    let asked = operation (resource c.args.target.now) (some_text c.args.known) c.args.body.now in
    failed performs c.args.site.now c.args.service.now asked c.perform.new.service c.in-Failed.failure
    (g.W.Write.contents c.args.writer.now) (g.W.Write.contents c.tell_failure.new.writer) c.tell_failure.result
    (subst (λ o. performs c.args.service.now asked (heard o) c.perform.new.service)
    (c.in-Err.is ∙ ap Err c.in-Failed.is) c.in_ok-outcome.ensures.performs)
    (subst (λ site. Sends (failure_response site.page c.in-Failed.failure) (g.W.Write.contents c.args.writer.now)
    (g.W.Write.contents c.tell_failure.new.writer) c.tell_failure.result) c.site.view_is c.tell_failure.ensures)
