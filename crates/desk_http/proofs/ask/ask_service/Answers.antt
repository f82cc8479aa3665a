use Rattle.std.proofs.Common.{◌∙◌, subst}
use Rattle.std.specs.Io.KnownBytes.{Appends}
use Rattle.desk_http.specs.Answering.{IsHeard}
use Rattle.desk_http.specs.Asking.{request_bytes}
use Rattle.desk_http.proofs.Answering.{heard}
use Rattle.desk_http.proofs.ask.ask_service.Goals as goal

pub returns : goal.returns
returns g c =
    heard (request_bytes c.args.access.now c.args.question c.args.body.now) (g.R.Read.remaining c.args.reader.now)
    (g.W.Write.contents c.args.writer.now) (g.W.Write.contents c.send_now.new.writer) c.in_ok-bytes.bytes.items
    c.read_answer.result
    (subst (Appends (g.W.Write.contents c.args.writer.now) (g.W.Write.contents c.send_now.new.writer))
    (c.deref.ensures.value ∙ c.in_ok-request.ensures) c.in-Ok.ensures) c.in_ok-bytes.ensures.bytes
    (subst (λ bytes. IsHeard bytes c.read_answer.result) c.deref-2.ensures.value c.read_answer.ensures)
