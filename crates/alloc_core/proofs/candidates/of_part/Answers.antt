use Rattle.std.proofs.Common.{map, ap, ◌∙◌, Bor}
use Rattle.std.proofs.lemmas.Result.{IfOk-weaker}
use Rattle.forest.specs.declared.item.Item.{Item}
use Rattle.yard_core.specs.YardView.{stock_of}
use Rattle.alloc_core.proofs.Finding.{part-found}
use Rattle.alloc_core.proofs.candidates.of_part.Goals as goal

pub returns : goal.returns
returns c =
    IfOk-weaker c.serving.result _ _
    (λ numbers h. h ∙ part-found c.args.part (stock_of c.args.yard.now) c.as_slice.result.now
    (ap (map (λ (r : Bor Item). r.now)) c.as_slice.ensures.value ∙ c.in_ok-items.ensures))
    c.serving.ensures
