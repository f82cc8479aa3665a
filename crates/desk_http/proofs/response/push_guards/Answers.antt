use Rattle.std.proofs.Common.{◌∙◌, ◌++◌, ap, string_bytes}
use Rattle.std.specs.Prelude.{not}
use Rattle.desk_http.proofs.Built.{guarded, three_more}
use Rattle.desk_http.proofs.response.push_guards.Goals as goal

pub returns : goal.returns
returns c =
    three_more _ _ _ _ _ _ _ c.in_ok-push_line.ensures c.in_ok-push_line-2.ensures c.in_ok-push_line-3.ensures
    ∙ ap (λ v. string_bytes c.args.text.now ++ v)
    (guarded c.args.page.now (c.is_none.ensures ∙ ap not c.if-is_none.false))
