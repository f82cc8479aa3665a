use Rattle.std.proofs.Common.{◌≡◌, ◌∙◌, ap, sym, subst, take, drop, length, arith, ◌+◌, ◌-◌}
use Rattle.std.specs.Prelude.{Ok, nat_lt, ◌&&◌}
use Rattle.desk_http.specs.Plans.{expects_continue, plan, plan_of}
use Rattle.desk_http.specs.Services.{Performs}
use Rattle.desk_http.specs.Proofs.{proof_of}
use Rattle.desk_http.specs.Responses.{proof_response, rejection_response}
use Rattle.desk_http.specs.Serving.{Sends}
use Rattle.desk_http.specs.Sites.{page_view}
use Rattle.desk_http.specs.Spans.{class_of}
use Rattle.desk_http.specs.Targets.{resource, some_text}
use Rattle.desk_http.proofs.Waiting.{rejected_one, shown_one, proved_one, ended_one, performed_one}
use Rattle.desk_http.proofs.Waiting.{stopped_one}
use Rattle.desk_http.proofs.serve.serve_head.Goals as goal

pub returns-in-Err-clause-serves : goal.returns-in-Err-clause-serves
returns-in-Err-clause-serves g c =
    rejected_one (Performs g.S.Service.state g.S.Service.machine g.S.Service.left g.S.Service.relates) c.args.site.now
    (g.R.Read.remaining c.args.reader.now) c.args.input.now.bytes.items c.deref-2.result.now c.args.n
    (class_of c.deref-2.result.now c.read_head-class.new.spans c.read_head-class.result) c.requires.inside c.requires.head
    (c.deref-2.ensures.value ∙ c.in_ok-head.ensures ∙ ap (take c.args.n) c.deref.ensures.value)
    c.read_head-class.ensures.head c.in-Err.rejection c.args.service.now (g.W.Write.contents c.args.writer.now)
    (g.W.Write.contents c.reject.new.writer) c.reject.result
    (sym (ap plan c.in-Err.is)
    ∙ c.make_plan.ensures.value
    ∙ ap (λ v. plan_of c.args.site.now (class_of v c.read_head-class.new.spans c.read_head-class.result))
    (c.deref-3.ensures.value ∙ sym c.deref-2.ensures.value))
    (subst (λ site. Sends (rejection_response site.page c.in-Err.rejection) (g.W.Write.contents c.args.writer.now)
    (g.W.Write.contents c.reject.new.writer) c.reject.result) c.site.view_is c.reject.ensures)

pub returns-in-ShowPage-clause-serves : goal.returns-in-ShowPage-clause-serves
returns-in-ShowPage-clause-serves g c =
    shown_one (Performs g.S.Service.state g.S.Service.machine g.S.Service.left g.S.Service.relates) c.args.site.now
    (g.R.Read.remaining c.args.reader.now) c.args.input.now.bytes.items c.deref-2.result.now c.args.n
    (class_of c.deref-2.result.now c.read_head-class.new.spans c.read_head-class.result) c.requires.inside c.requires.head
    (c.deref-2.ensures.value ∙ c.in_ok-head.ensures ∙ ap (take c.args.n) c.deref.ensures.value)
    c.read_head-class.ensures.head (page_view c.in-ShowPage.page) c.args.service.now (g.W.Write.contents c.args.writer.now)
    (g.W.Write.contents c.show_page.new.writer) c.show_page.result
    (sym (ap plan (c.in-Ok.is ∙ ap Ok c.in-ShowPage.is))
    ∙ c.make_plan.ensures.value
    ∙ ap (λ v. plan_of c.args.site.now (class_of v c.read_head-class.new.spans c.read_head-class.result))
    (c.deref-3.ensures.value ∙ sym c.deref-2.ensures.value))
    c.show_page.ensures

pub returns-in-Prove-clause-serves : goal.returns-in-Prove-clause-serves
returns-in-Prove-clause-serves g c =
    proved_one (Performs g.S.Service.state g.S.Service.machine g.S.Service.left g.S.Service.relates) c.args.site.now
    (g.R.Read.remaining c.args.reader.now) c.args.input.now.bytes.items c.deref-2.result.now c.args.n
    (class_of c.deref-2.result.now c.read_head-class.new.spans c.read_head-class.result) c.requires.inside c.requires.head
    (c.deref-2.ensures.value ∙ c.in_ok-head.ensures ∙ ap (take c.args.n) c.deref.ensures.value)
    c.read_head-class.ensures.head c.in-Prove.nonce.now c.args.service.now (g.W.Write.contents c.args.writer.now)
    (g.W.Write.contents c.prove.new.writer) c.prove.result
    (sym (ap plan (c.in-Ok.is ∙ ap Ok c.in-Prove.is))
    ∙ c.make_plan.ensures.value
    ∙ ap (λ v. plan_of c.args.site.now (class_of v c.read_head-class.new.spans c.read_head-class.result))
    (c.deref-3.ensures.value ∙ sym c.deref-2.ensures.value))
    (subst (λ site. Sends (proof_response site.page (proof_of site.access c.in-Prove.nonce.now))
    (g.W.Write.contents c.args.writer.now) (g.W.Write.contents c.prove.new.writer) c.prove.result) c.site.view_is
    c.prove.ensures)

pub returns-in_err-receive_body-in-Ask-clause-serves : goal.returns-in_err-receive_body-in-Ask-clause-serves
returns-in_err-receive_body-in-Ask-clause-serves g c =
    let all : c.len.result ≡ length c.args.input.now.bytes.items =
    omega (arith, c.len.ensures, c.args.input.now.bytes.ok.0) in
    stopped_one (Performs g.S.Service.state g.S.Service.machine g.S.Service.left g.S.Service.relates) c.args.site.now
    (g.R.Read.remaining c.args.reader.now) c.args.input.now.bytes.items c.deref-2.result.now c.args.n
    (class_of c.deref-2.result.now c.read_head-class.new.spans c.read_head-class.result) c.requires.inside c.requires.head
    (c.deref-2.ensures.value ∙ c.in_ok-head.ensures ∙ ap (take c.args.n) c.deref.ensures.value)
    c.read_head-class.ensures.head c.in-Ask.len (resource c.in-Ask.target) (some_text c.in-Ask.known)
    (sym (ap plan (c.in-Ok.is ∙ ap Ok c.in-Ask.is))
    ∙ c.make_plan.ensures.value
    ∙ ap (λ v. plan_of c.args.site.now (class_of v c.read_head-class.new.spans c.read_head-class.result))
    (c.deref-3.ensures.value ∙ sym c.deref-2.ensures.value))
    c.is_waiting-waits.result
    (c.is_waiting-waits.ensures
    ∙ ap (λ k. nat_lt (k - c.args.n) c.in-Ask.len
    && expects_continue (class_of c.deref-in-Ask.result.now c.read_head-class.new.spans c.read_head-class.result)) all
    ∙ ap (λ v. nat_lt (length c.args.input.now.bytes.items - c.args.n) c.in-Ask.len
    && expects_continue (class_of v c.read_head-class.new.spans c.read_head-class.result))
    (c.deref-in-Ask.ensures.value ∙ sym c.deref-2.ensures.value)) c.args.service.now
    (g.W.Write.contents c.args.writer.now) (g.W.Write.contents c.send_interim.new.writer)
    c.in_ok-send_interim-in-Ask.ensures c.receive_body.new.self.bytes.items
    c.from_residual-in_err-receive_body-in-Ask.result c.in_err-receive_body-in-Ask.field-0.0
    c.from_residual-in_err-receive_body-in-Ask.ensures.1 c.in_err-receive_body-in-Ask.ensures.failed

pub returns-then-not-branch-clause-serves : goal.returns-then-not-branch-clause-serves
returns-then-not-branch-clause-serves g c =
    let all : c.len.result ≡ length c.args.input.now.bytes.items =
    omega (arith, c.len.ensures, c.args.input.now.bytes.ok.0) in
    let late = c.in_ok-receive_body-in-Ask.ensures.short c.if-not-branch.true in
    ended_one (Performs g.S.Service.state g.S.Service.machine g.S.Service.left g.S.Service.relates) c.args.site.now
    (g.R.Read.remaining c.args.reader.now) c.args.input.now.bytes.items c.deref-2.result.now c.args.n
    (class_of c.deref-2.result.now c.read_head-class.new.spans c.read_head-class.result) c.requires.inside c.requires.head
    (c.deref-2.ensures.value ∙ c.in_ok-head.ensures ∙ ap (take c.args.n) c.deref.ensures.value)
    c.read_head-class.ensures.head c.in-Ask.len (resource c.in-Ask.target) (some_text c.in-Ask.known)
    (sym (ap plan (c.in-Ok.is ∙ ap Ok c.in-Ask.is))
    ∙ c.make_plan.ensures.value
    ∙ ap (λ v. plan_of c.args.site.now (class_of v c.read_head-class.new.spans c.read_head-class.result))
    (c.deref-3.ensures.value ∙ sym c.deref-2.ensures.value))
    c.is_waiting-waits.result
    (c.is_waiting-waits.ensures
    ∙ ap (λ k. nat_lt (k - c.args.n) c.in-Ask.len
    && expects_continue (class_of c.deref-in-Ask.result.now c.read_head-class.new.spans c.read_head-class.result)) all
    ∙ ap (λ v. nat_lt (length c.args.input.now.bytes.items - c.args.n) c.in-Ask.len
    && expects_continue (class_of v c.read_head-class.new.spans c.read_head-class.result))
    (c.deref-in-Ask.ensures.value ∙ sym c.deref-2.ensures.value)) c.args.service.now
    (g.W.Write.contents c.args.writer.now) (g.W.Write.contents c.send_interim.new.writer)
    c.in_ok-send_interim-in-Ask.ensures (g.R.Read.remaining c.receive_body.new.reader)
    c.receive_body.new.self.bytes.items c.in_ok-receive_body-in-Ask.ensures.bytes late.0
    c.in_ok-receive_body-in-Ask.ensures.more late.1

pub returns-clause-serves : goal.returns-clause-serves
returns-clause-serves g c =
    let all : c.len.result ≡ length c.args.input.now.bytes.items =
    omega (arith, c.len.ensures, c.args.input.now.bytes.ok.0) in
    let body = take (c.args.n + c.in-Ask.len - c.args.n) (drop c.args.n c.deref-in-Ask-2.result.now) in
    let same : c.args.n + c.in-Ask.len - c.args.n ≡ c.in-Ask.len = omega arith in
    performed_one (Performs g.S.Service.state g.S.Service.machine g.S.Service.left g.S.Service.relates) c.args.site.now
    (g.R.Read.remaining c.args.reader.now) c.args.input.now.bytes.items c.deref-2.result.now c.args.n
    (class_of c.deref-2.result.now c.read_head-class.new.spans c.read_head-class.result) c.requires.inside c.requires.head
    (c.deref-2.ensures.value ∙ c.in_ok-head.ensures ∙ ap (take c.args.n) c.deref.ensures.value)
    c.read_head-class.ensures.head c.in-Ask.len (resource c.in-Ask.target) (some_text c.in-Ask.known)
    (sym (ap plan (c.in-Ok.is ∙ ap Ok c.in-Ask.is))
    ∙ c.make_plan.ensures.value
    ∙ ap (λ v. plan_of c.args.site.now (class_of v c.read_head-class.new.spans c.read_head-class.result))
    (c.deref-3.ensures.value ∙ sym c.deref-2.ensures.value))
    c.is_waiting-waits.result
    (c.is_waiting-waits.ensures
    ∙ ap (λ k. nat_lt (k - c.args.n) c.in-Ask.len
    && expects_continue (class_of c.deref-in-Ask.result.now c.read_head-class.new.spans c.read_head-class.result)) all
    ∙ ap (λ v. nat_lt (length c.args.input.now.bytes.items - c.args.n) c.in-Ask.len
    && expects_continue (class_of v c.read_head-class.new.spans c.read_head-class.result))
    (c.deref-in-Ask.ensures.value ∙ sym c.deref-2.ensures.value)) c.args.service.now c.respond.new.service
    (g.W.Write.contents c.args.writer.now) (g.W.Write.contents c.send_interim.new.writer)
    c.in_ok-send_interim-in-Ask.ensures (g.R.Read.remaining c.receive_body.new.reader)
    c.receive_body.new.self.bytes.items body (g.W.Write.contents c.respond.new.writer) c.respond.result
    c.in_ok-receive_body-in-Ask.ensures.bytes c.in_ok-receive_body-in-Ask.ensures.more
    (c.in_ok-receive_body-in-Ask.ensures.whole c.if-not-branch.false)
    (ap (λ k. take k (drop c.args.n c.deref-in-Ask-2.result.now)) same
    ∙ ap (λ v. take c.in-Ask.len (drop c.args.n v)) c.deref-in-Ask-2.ensures.value)
    c.respond.ensures.sends
