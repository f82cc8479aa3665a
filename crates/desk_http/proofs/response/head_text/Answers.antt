use Rattle.std.proofs.Common.{◌∙◌, ◌++◌, ap, string_bytes}
use Rattle.std.specs.Prelude.{codes}
use Rattle.desk_http.specs.Responses.{line}
use Rattle.desk_http.proofs.Built.{built}
use Rattle.desk_http.proofs.response.head_text.Goals as goal

pub returns : goal.returns
returns c =
    built _ _ _ _ _ _ _ _ _ _ _ _ _ _ _ c.new-text.ensures.bytes
    (c.in_ok-push_line.ensures ∙ ap (λ v. string_bytes c.new-text.result ++ line (codes "HTTP/1.1 ") v)
    (c.as_str.ensures.value ∙ c.in_ok-status_words.ensures))
    c.in_ok-push_line-2.ensures
    (c.in_ok-push_line-3.ensures ∙ ap (λ v. string_bytes c.push_line-2.new.text ++ line (codes "Content-Length: ") v)
    (c.as_str-2.ensures.value ∙ c.in_ok-length.ensures))
    c.in_ok-push_str.ensures.bytes c.in_ok-push_guards.ensures c.in_ok-push_line-4.ensures
    c.in_ok-push_str-2.ensures.bytes
