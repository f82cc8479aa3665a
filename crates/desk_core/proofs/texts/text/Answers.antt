use Rattle.std.proofs.Common.{ap, ◌∙◌, ◌++◌}
use Rattle.json.specs.Print.{print}
use Rattle.json.specs.Tree.{json_tokens}
use Rattle.serde_json.specs.Data.{object}
use Rattle.serde_json.specs.Written.{compact_text, outline}
use Rattle.serde_json.proofs.Texts.{print-outline}
use Rattle.sheet_core.proofs.SlotLemmas.{IfOk-map}
use Rattle.desk_core.specs.TextWriting.{in_order}
use Rattle.desk_core.proofs.texts.text.Goals as goal

-- the tokens are those of an object of the members, and their text is its text
pub returns : goal.returns
returns g c =
    let shown = object (in_order c.in_ok-members.members.entries) in
    let after_none = ap (λ ts. ts ++ json_tokens (outline shown)) c.new-out.ensures.tokens in
    let tokens = c.in_ok-write_members.ensures.tokens ∙ after_none in
    IfOk-map c.written.result c.written.ensures
    (λ text e. e ∙ ap print tokens ∙ print-outline shown ∙ ap compact_text c.in_ok-members.ensures)
