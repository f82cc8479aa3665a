use Rattle.std.proofs.Common.{true, ◌∙◌, rules}
use Rattle.sheet_core.proofs.SlotLemmas.{IfOk-map}
use Rattle.sheet_core.proofs.Standing.{filter_all}
use Rattle.yard_core.proofs.opening.rows_in_order.Goals as goal

pub returns : goal.returns
returns g c = IfOk-map c.select.result c.select.ensures (λ rows e. e (λ _. true) (search rules) ∙ filter_all _)
