use Rattle.std.proofs.Common.{◌||◌, sym, ap, ◌∙◌, rules, tests}
use Rattle.std.specs.List.{list_any}
use Rattle.std.proofs.lemmas.Iterator.{YieldsList-from_slice}
use Rattle.std.proofs.lemmas.Iterator.Search.{any_from_yields_List}
use Rattle.yard_core.specs.YardView.{stock_of}
use Rattle.stock_core.specs.ItemTests.{is_no_item}
use Rattle.stock_core.proofs.commands.merge.is_one_missing.Goals as goal

pub returns-else-is_no_item : goal.returns-else-is_no_item
returns-else-is_no_item c =
    let s = stock_of c.args.yard.now in
    any_from_yields_List (λ n. is_no_item n s) _ _ _ c.any.ensures.ran (YieldsList-from_slice c.args.items.now cc)
    (λ x b q k. search (rules, tests))
    ∙ ap (λ b. b || list_any (λ n. is_no_item n s) c.args.items.now) (sym c.if-is_no_item.false ∙ c.is_no_item.ensures)
