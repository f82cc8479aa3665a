use Rattle.std.proofs.Common.{◌∙◌, ◌++◌, ap}
use Rattle.std.specs.Prelude.{codes}
use Rattle.desk_http.specs.Asking.{length_line, method_part, token_line}
use Rattle.desk_http.specs.Responses.{line}
use Rattle.desk_http.proofs.Asking.{eight}
use Rattle.desk_http.proofs.request.request_head.Goals as goal

pub returns : goal.returns
returns c =
    eight _ _ _ _ _ _ _ _ _ _ _ _ _ _ _ _ _ c.new-head.ensures.items
    (c.in_ok-extend_from_slice.ensures.items
    ∙ ap (λ v. c.new-head.result.items ++ v)
    (c.as_bytes.ensures.value ∙ c.method_part.ensures ∙ ap method_part c.is_done-is_done.ensures))
    (c.in_ok-extend_from_slice-2.ensures.items
    ∙ ap (λ v. c.extend_from_slice.new.self.items ++ v)
    (c.as_bytes-2.ensures.value ∙ c.as_str.ensures.value ∙ c.in_ok-target.ensures))
    c.in_ok-push_line.ensures
    (c.in_ok-push_line-2.ensures
    ∙ ap (λ v. c.push_line.new.head.items ++ line (codes "Host: 127.0.0.1") v)
    (c.as_bytes-3.ensures.value ∙ c.port_part.ensures))
    (c.in_ok-push_token.ensures
    ∙ ap (λ v. c.push_line-2.new.head.items ++ token_line v) c.token_text.ensures)
    (c.in_ok-push_length.ensures
    ∙ ap (λ v. c.push_token.new.head.items ++ length_line v c.args.count) c.is_done-is_done.ensures)
    c.in_ok-push_line-3.ensures c.in_ok-extend_from_slice-3.ensures.items
