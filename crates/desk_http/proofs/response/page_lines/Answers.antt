use Rattle.std.proofs.Common.{◌∙◌, ◌++◌, ap}
use Rattle.desk_http.specs.Responses.{page_fields}
use Rattle.desk_http.specs.Sites.{page_view}
use Rattle.desk_http.proofs.Built.{four_more}
use Rattle.desk_http.proofs.response.page_lines.Goals as goal

pub returns : goal.returns
returns c =
    four_more _ _ _ _ _ _ _ _ _ c.in_ok-push_line.ensures c.in_ok-push_line-2.ensures c.in_ok-push_line-3.ensures
    c.in_ok-push_line-4.ensures
    ∙ ap (λ v. v ++ page_fields (page_view c.args.page.now)) c.new-text.ensures.bytes
