use Rattle.std.proofs.Common.{◌≡◌, Some, rules, string_bytes}
use Rattle.sheet_core.proofs.SlotLemmas.{IfOk-map}
use Rattle.part_core.specs.Catalogue.{part_in}
use Rattle.desk_core.specs.ShopView.{state_of}
use Rattle.report_core.specs.Fields.{name_of}
use Rattle.list_core.specs.Trace.{item_in}
use Rattle.list_core.proofs.ItemWords.{no_serial}
use Rattle.list_core.proofs.history_list.item_words.Goals as goal

pub returns : goal.returns
returns c =
    let s = state_of c.args.shop.now in
    let n = c.args.number in
    let x = c.in-Some.item.now in
    let there : item_in n s ≡ Some x = search rules in
    let named : string_bytes c.in_ok-name.name ≡ name_of (part_in x.part s.parts) = search rules in
    IfOk-map c.format-in-None.result c.format-in-None.ensures.ok
    (λ text wrote. no_serial s n x (string_bytes text) (string_bytes c.in_ok-name.name) there c.in-None.is named wrote)
