use Rattle.std.proofs.Common.{◌&&◌, ◌∙◌, ap, filter, not, rules}
use Rattle.std.specs.FinMap as table
use Rattle.sheet_core.specs.Sheet.{now_of}
use Rattle.sheet_core.proofs.SlotLemmas.{IfOk-map}
use Rattle.forest.specs.declared.item.Item.{Item}
use Rattle.yard_core.specs.Stock.{is_gone}
use Rattle.yard_core.specs.declared.yard.Yard.{Yard}
use Rattle.list_core.specs.SerialWords.{is_serial}
use Rattle.list_core.proofs.serial_words.items_called.Goals as goal

pub returns : goal.returns
returns c =
    let kept = λ (x : Item). is_serial c.args.word.now x.lot.serial && not (is_gone x.place) in
    IfOk-map c.select.result c.select.ensures
    (λ items told. told kept (search rules)
    ∙ ap (λ s. filter kept (table.values (now_of s)))
    (c.items.ensures ∙ ap (λ (y : Yard). y.items) c.yard.ensures))
