use Rattle.std.proofs.Common.{◌||◌, sym, ap, ◌∙◌, rules, tests}
use Rattle.std.specs.List.{list_any}
use Rattle.std.specs.Prelude.{not}
use Rattle.std.proofs.lemmas.Iterator.{YieldsList-from_slice}
use Rattle.std.proofs.lemmas.Iterator.Search.{any_from_yields_List}
use Rattle.yard_core.specs.YardView.{stock_of}
use Rattle.stock_core.specs.ItemTests.{is_loose}
use Rattle.stock_core.proofs.commands.merge.is_one_fixed.Goals as goal

pub returns-else-not-is_loose : goal.returns-else-not-is_loose
returns-else-not-is_loose c =
    let s = stock_of c.args.yard.now in
    any_from_yields_List (λ n. not (is_loose n s)) _ _ _ c.any.ensures.ran (YieldsList-from_slice c.args.items.now cc)
    (λ x b q k. search (rules, tests))
    ∙ ap (λ b. b || list_any (λ n. not (is_loose n s)) c.args.items.now)
    (ap not (sym c.if-not-is_loose.false ∙ c.is_loose.ensures))
