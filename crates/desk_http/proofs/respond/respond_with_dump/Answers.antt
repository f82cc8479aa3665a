use Rattle.std.proofs.Common.{◌∙◌, ap, refl, subst}
use Rattle.std.specs.Prelude.{Err}
use Rattle.desk_http.specs.Responses.{dump_response, failure_response}
use Rattle.desk_http.specs.Services.{Performs, ShowDump, why_none}
use Rattle.desk_http.specs.Serving.{Sends}
use Rattle.desk_http.specs.declared.service.Outcome.TheVariants.{Dumped}
use Rattle.desk_http.proofs.Serving.{told, failed}
use Rattle.desk_http.proofs.respond.respond_with_dump.Goals as goal

pub returns-in-Ok : goal.returns-in-Ok
returns-in-Ok g c =
    let performs = Performs g.S.Service.state g.S.Service.machine g.S.Service.left g.S.Service.relates in
    let text = g.S.Service.machine.show_dump (g.S.Service.state c.args.service.now) in
    told performs c.args.site.now c.args.service.now ShowDump c.args.service.now (Dumped, text)
    (g.W.Write.contents c.args.writer.now) (g.W.Write.contents c.tell_dump.new.writer) c.tell_dump.result (
      refl,
      subst (λ r. g.S.Service.relates c.args.service.now ShowDump (why_none r) c.args.service.now) c.in-Ok.is
          c.may_dump.ensures,
    )
    (subst (λ site. Sends (dump_response site.page text) (g.W.Write.contents c.args.writer.now)
    (g.W.Write.contents c.tell_dump.new.writer) c.tell_dump.result) c.site.view_is c.tell_dump.ensures)

pub returns-in-Err-Failed : goal.returns-in-Err-Failed
returns-in-Err-Failed g c =
    let performs = Performs g.S.Service.state g.S.Service.machine g.S.Service.left g.S.Service.relates in
    failed performs c.args.site.now c.args.service.now ShowDump c.args.service.now c.in-Err-Failed.failure
    (g.W.Write.contents c.args.writer.now) (g.W.Write.contents c.tell_failure.new.writer) c.tell_failure.result (
      refl,
      subst (λ r. g.S.Service.relates c.args.service.now ShowDump (why_none r) c.args.service.now)
          (c.in-Err-Failed.is ∙ ap Err c.in-Err-Failed.field-0-is) c.may_dump.ensures,
    )
    (subst (λ site. Sends (failure_response site.page c.in-Err-Failed.failure) (g.W.Write.contents c.args.writer.now)
    (g.W.Write.contents c.tell_failure.new.writer) c.tell_failure.result) c.site.view_is c.tell_failure.ensures)
