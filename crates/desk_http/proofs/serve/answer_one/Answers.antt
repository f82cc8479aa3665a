use Rattle.std.proofs.Common.{false, refl, subst}
use Rattle.std.specs.Prelude.{Some, Err}
use Rattle.desk_http.specs.HeadEnds.{all_of}
use Rattle.desk_http.specs.Services.{Performs}
use Rattle.desk_http.specs.Responses.{rejection_response}
use Rattle.desk_http.specs.Serving.{AreReceived, IsReceived, Rejected, Sends, Waits, WaitsAt}
use Rattle.desk_http.specs.Serving as serving
use Rattle.desk_http.specs.declared.receive.HeadArrival.TheVariants.{Head, TooLong, Incomplete}
use Rattle.desk_http.specs.declared.rejection.Rejection.TheVariants.{HeadTooLarge}
use Rattle.desk_http.specs.declared.served.Stop.TheVariants.{Ended}
use Rattle.desk_http.proofs.Serving.{is_of_all, is_too_long, rejected, ended, read_too_long, read_incomplete}
use Rattle.desk_http.proofs.Waiting.{is_unfinished, moved_one, uninvited, waits_of_all, waits_of_read, waits_of_this}
use Rattle.desk_http.proofs.serve.answer_one.Goals as goal

pub returns-in-Incomplete-clause-serves : goal.returns-in-Incomplete-clause-serves
returns-in-Incomplete-clause-serves g c =
    let performs = Performs g.S.Service.state g.S.Service.machine g.S.Service.left g.S.Service.relates in
    let first = g.R.Read.remaining c.args.reader.now in
    let rest = g.R.Read.remaining c.receive_head.new.reader in
    let bytes = c.receive_head.new.self.bytes.items in
    uninvited performs c.args.site.now (Waits c.args.site.now first) (IsReceived c.args.site.now first) c.args.service.now
    c.args.service.now (g.W.Write.contents c.args.writer.now) (g.W.Write.contents c.args.writer.now) (Err Ended)
    (waits_of_all c.args.site.now first rest bytes Incomplete (rw c.requires.fresh at c.in_ok-receive_head.ensures.bytes)
    (rw c.in-Incomplete.is at c.in_ok-receive_head.ensures.head) (rw c.in-Incomplete.is at c.in_ok-receive_head.ensures.read)
    c.in_ok-receive_head.ensures.last false refl)
    (ended performs c.args.site.now (IsReceived c.args.site.now first) c.args.service.now (g.W.Write.contents c.args.writer.now)
    (is_of_all c.args.site.now first rest bytes Incomplete (rw c.requires.fresh at c.in_ok-receive_head.ensures.bytes)
    (rw c.in-Incomplete.is at c.in_ok-receive_head.ensures.head) serving.Incomplete
    (is_unfinished c.args.site.now (all_of rest bytes))))

pub returns-in-Incomplete-clause-read : goal.returns-in-Incomplete-clause-read
returns-in-Incomplete-clause-read g c =
    let performs = Performs g.S.Service.state g.S.Service.machine g.S.Service.left g.S.Service.relates in
    let bytes = c.receive_head.new.self.bytes.items in
    uninvited performs c.args.site.now (Waits c.args.site.now (Some bytes)) (IsReceived c.args.site.now (Some bytes))
    c.args.service.now c.args.service.now (g.W.Write.contents c.args.writer.now) (g.W.Write.contents c.args.writer.now) (Err Ended)
    (waits_of_this c.args.site.now bytes Incomplete (rw c.in-Incomplete.is at c.in_ok-receive_head.ensures.read)
    c.in_ok-receive_head.ensures.last refl)
    (ended performs c.args.site.now (IsReceived c.args.site.now (Some bytes)) c.args.service.now (g.W.Write.contents c.args.writer.now)
    (read_incomplete c.args.site.now bytes (rw c.in-Incomplete.is at c.in_ok-receive_head.ensures.read)))

pub returns-in-TooLong-clause-serves : goal.returns-in-TooLong-clause-serves
returns-in-TooLong-clause-serves g c =
    let performs = Performs g.S.Service.state g.S.Service.machine g.S.Service.left g.S.Service.relates in
    let first = g.R.Read.remaining c.args.reader.now in
    let rest = g.R.Read.remaining c.receive_head.new.reader in
    let bytes = c.receive_head.new.self.bytes.items in
    uninvited performs c.args.site.now (Waits c.args.site.now first) (IsReceived c.args.site.now first) c.args.service.now
    c.args.service.now (g.W.Write.contents c.args.writer.now) (g.W.Write.contents c.reject.new.writer) c.reject.result
    (waits_of_all c.args.site.now first rest bytes TooLong (rw c.requires.fresh at c.in_ok-receive_head.ensures.bytes)
    (rw c.in-TooLong.is at c.in_ok-receive_head.ensures.head) (rw c.in-TooLong.is at c.in_ok-receive_head.ensures.read)
    c.in_ok-receive_head.ensures.last false refl)
    (rejected performs c.args.site.now (IsReceived c.args.site.now first) HeadTooLarge c.args.service.now
    (g.W.Write.contents c.args.writer.now) (g.W.Write.contents c.reject.new.writer) c.reject.result
    (is_of_all c.args.site.now first rest bytes TooLong (rw c.requires.fresh at c.in_ok-receive_head.ensures.bytes)
    (rw c.in-TooLong.is at c.in_ok-receive_head.ensures.head) (Rejected HeadTooLarge)
    (is_too_long c.args.site.now (all_of rest bytes)))
    (subst (λ site. Sends (rejection_response site.page HeadTooLarge) (g.W.Write.contents c.args.writer.now)
    (g.W.Write.contents c.reject.new.writer) c.reject.result) c.site.view_is c.reject.ensures))

pub returns-in-TooLong-clause-read : goal.returns-in-TooLong-clause-read
returns-in-TooLong-clause-read g c =
    let performs = Performs g.S.Service.state g.S.Service.machine g.S.Service.left g.S.Service.relates in
    let bytes = c.receive_head.new.self.bytes.items in
    uninvited performs c.args.site.now (Waits c.args.site.now (Some bytes)) (IsReceived c.args.site.now (Some bytes))
    c.args.service.now c.args.service.now (g.W.Write.contents c.args.writer.now) (g.W.Write.contents c.reject.new.writer) c.reject.result
    (waits_of_this c.args.site.now bytes TooLong (rw c.in-TooLong.is at c.in_ok-receive_head.ensures.read)
    c.in_ok-receive_head.ensures.last refl)
    (rejected performs c.args.site.now (IsReceived c.args.site.now (Some bytes)) HeadTooLarge c.args.service.now
    (g.W.Write.contents c.args.writer.now) (g.W.Write.contents c.reject.new.writer) c.reject.result
    (read_too_long c.args.site.now bytes (rw c.in-TooLong.is at c.in_ok-receive_head.ensures.read))
    (subst (λ site. Sends (rejection_response site.page HeadTooLarge) (g.W.Write.contents c.args.writer.now)
    (g.W.Write.contents c.reject.new.writer) c.reject.result) c.site.view_is c.reject.ensures))

pub returns-clause-serves : goal.returns-clause-serves
returns-clause-serves g c =
    let performs = Performs g.S.Service.state g.S.Service.machine g.S.Service.left g.S.Service.relates in
    let first = g.R.Read.remaining c.args.reader.now in
    let rest = g.R.Read.remaining c.receive_head.new.reader in
    let bytes = c.receive_head.new.self.bytes.items in
    let all = c.serve_head.new.input.bytes.items in
    moved_one performs c.args.site.now (WaitsAt c.args.site.now (Head c.in-Head.n) bytes) (Waits c.args.site.now first)
    (waits_of_all c.args.site.now first rest bytes (Head c.in-Head.n) (rw c.requires.fresh at c.in_ok-receive_head.ensures.bytes)
    (rw c.in-Head.is at c.in_ok-receive_head.ensures.head) (rw c.in-Head.is at c.in_ok-receive_head.ensures.read)
    c.in_ok-receive_head.ensures.last)
    (AreReceived c.args.site.now (Head c.in-Head.n) (all_of rest bytes) all) (IsReceived c.args.site.now first)
    (λ q are.
    is_of_all c.args.site.now first rest bytes (Head c.in-Head.n) (rw c.requires.fresh at c.in_ok-receive_head.ensures.bytes)
    (rw c.in-Head.is at c.in_ok-receive_head.ensures.head) q are.0)
    c.args.service.now c.serve_head.new.service (g.W.Write.contents c.args.writer.now)
    (g.W.Write.contents c.serve_head.new.writer) c.serve_head.result c.serve_head.ensures.serves

pub returns-clause-read : goal.returns-clause-read
returns-clause-read g c =
    let performs = Performs g.S.Service.state g.S.Service.machine g.S.Service.left g.S.Service.relates in
    let first = g.R.Read.remaining c.args.reader.now in
    let rest = g.R.Read.remaining c.receive_head.new.reader in
    let bytes = c.receive_head.new.self.bytes.items in
    let all = c.serve_head.new.input.bytes.items in
    moved_one performs c.args.site.now (WaitsAt c.args.site.now (Head c.in-Head.n) bytes) (Waits c.args.site.now (Some all))
    (waits_of_read c.args.site.now bytes all c.in-Head.n c.serve_head.ensures.more (rw c.in-Head.is at c.in_ok-receive_head.ensures.read)
    c.in_ok-receive_head.ensures.last)
    (AreReceived c.args.site.now (Head c.in-Head.n) (all_of rest bytes) all) (IsReceived c.args.site.now (Some all))
    (λ q are. are.1) c.args.service.now c.serve_head.new.service (g.W.Write.contents c.args.writer.now)
    (g.W.Write.contents c.serve_head.new.writer) c.serve_head.result c.serve_head.ensures.serves
