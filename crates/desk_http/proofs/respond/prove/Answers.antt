use Rattle.std.proofs.Common.{◌∙◌, ◌++◌, [], ap, subst}
use Rattle.desk_http.specs.Responses.{plain_text, response, response_bytes}
use Rattle.desk_http.specs.Serving.{Sends}
use Rattle.desk_http.specs.Sites.{some_page}
use Rattle.desk_http.proofs.respond.prove.Goals as goal

pub returns : goal.returns
returns g c =
    let body = c.as_bytes-body.ensures.value ∙ c.as_str.ensures.value ∙ c.in_ok-proof.ensures in
    subst (λ bytes. Sends (response 200 bytes) (g.W.Write.contents c.args.writer.now)
    (g.W.Write.contents c.send_response.new.writer) c.send_response.result)
    (ap (λ head. head ++ c.as_bytes-body.result.now) (c.as_str-2.ensures.value ∙ c.in_ok-head.ensures)
    ∙ ap (λ b. response_bytes (some_page c.args.page.now) 200 plain_text [] b) body)
    c.send_response.ensures
