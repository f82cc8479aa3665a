use Rattle.std.proofs.Common.{◌∙◌, ap}
use Rattle.yard_core.specs.YardView.{stock_of}
use Rattle.yard_core.specs.declared.yard.Yard.{Yard}
use Rattle.desk_core.specs.ShopView.{state_of}
use Rattle.list_core.specs.Used.{numbers_used, used_in}
use Rattle.list_core.proofs.UsedTold.{used_told}
use Rattle.list_core.proofs.trace_tables.trace_tables.Goals as goal

pub returns : goal.returns
returns c =
    let s = state_of c.args.shop.now in
    record {
      origins = c.in_ok-origins.ensures;
      used = λ build.
          ap (numbers_used build) (c.in_ok-used.ensures ∙ ap (λ (y : Yard). used_in (stock_of y)) c.yard.ensures)
          ∙ used_told s.stock c.requires.stock.items.stock.items.own build;
      lives = c.in_ok-lives.ensures;
    }
