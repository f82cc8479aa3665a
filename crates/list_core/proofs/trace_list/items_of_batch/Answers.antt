use Rattle.std.proofs.Common.{◌∙◌, ap, filter, rules}
use Rattle.std.specs.FinMap as table
use Rattle.sheet_core.specs.Sheet.{now_of}
use Rattle.sheet_core.proofs.SlotLemmas.{IfOk-map}
use Rattle.forest.specs.declared.item.Item.{Item}
use Rattle.yard_core.specs.declared.yard.Yard.{Yard}
use Rattle.list_core.specs.Trace.{is_batch}
use Rattle.list_core.proofs.trace_list.items_of_batch.Goals as goal

pub returns : goal.returns
returns c =
    IfOk-map c.select.result c.select.ensures
    (λ rows told. told (λ (x : Item). is_batch c.args.batch.now x.lot.batch) (search rules)
    ∙ ap (λ s. filter (λ (x : Item). is_batch c.args.batch.now x.lot.batch) (table.values (now_of s)))
    (c.items.ensures ∙ ap (λ (y : Yard). y.items) c.yard.ensures))
