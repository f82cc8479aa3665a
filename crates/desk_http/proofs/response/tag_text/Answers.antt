use Rattle.std.proofs.Common.{◌≡◌, ◌∙◌, ◌++◌, ◌∷◌, [], ap, append_assoc, sym, string_bytes}
use Rattle.std.specs.Prelude.{decimal}
use Rattle.std.proofs.lemmas.Result.{IfOk-weaker}
use Rattle.desk_http.specs.Services.{tag_text}
use Rattle.desk_http.proofs.response.tag_text.Goals as goal

pub returns : goal.returns
returns c =
    let began = decimal c.args.tag.began in
    let accepted = decimal c.args.tag.accepted in
    IfOk-weaker c.format.result (λ s. string_bytes s ≡ 34 ∷ (began ++ (45 ∷ (accepted ++ 34 ∷ []))))
    (λ s. string_bytes s ≡ tag_text c.args.tag)
    (λ s wrote. wrote ∙ ap (λ v. 34 ∷ v) (sym (append_assoc began (45 ∷ accepted) (34 ∷ []))))
    c.format.ensures.ok
