use Rattle.std.proofs.Common.{◌≡◌, ◌==◌, ◌∙◌, ℕ, List, Bor, ap, filter, length, map, not}
use Rattle.std.specs.Prelude.{sum_by}
use Rattle.std.specs.FinMap as table
use Rattle.forest.specs.declared.item.Item.{Item}
use Rattle.sheet_core.proofs.SlotLemmas.{IfOk-map}
use Rattle.yard_core.specs.Stock.{is_gone}
use Rattle.yard_core.specs.YardView.{stock_of}
use Rattle.yard_core.specs.declared.yard.Yard.{Yard}
use Rattle.desk_core.specs.ShopView.{state_of}
use Rattle.desk_core.specs.declared.shop.Shop.{Shop}
use Rattle.list_core.specs.Amounts.{allocated_of, free_of, items_of, present_of}
use Rattle.report_core.proofs.Selected.{items_left}
use Rattle.list_core.proofs.amounts.amounts_of.Goals as goal

-- the items that aren't gone of those that the yard lent are the part's
left : (shop : Shop) (yard : Yard) (part : ℕ) (slice items : List (Bor Item)) → yard ≡ shop.floor.stock.yard
    → slice ≡ items
    → map (λ (i : Bor Item). i.now) items ≡ filter (λ (x : Item). x.part == part) (table.values (stock_of yard).items)
    → filter (λ (i : Item). not (is_gone i.place)) (map (λ (i : Bor Item). i.now) slice) ≡ items_of part (state_of shop)
left shop yard part slice items lent same found =
    items_left part (table.values (state_of shop).stock.items) slice items same
    (found ∙ ap (λ (y : Yard). filter (λ (x : Item). x.part == part) (table.values (stock_of y).items)) lent)

pub returns-clause-present : goal.returns-clause-present
returns-clause-present c =
    IfOk-map c.amounts_left.result c.amounts_left.ensures.present (λ a told. told
    ∙ ap (sum_by (present_of (state_of c.args.shop.now)))
    (left c.args.shop.now c.yard.result.now c.args.part c.as_slice.result.now c.in_ok-items.items.items c.yard.ensures
    c.as_slice.ensures.value c.in_ok-items.ensures))

pub returns-clause-free : goal.returns-clause-free
returns-clause-free c =
    IfOk-map c.amounts_left.result c.amounts_left.ensures.free (λ a told. told
    ∙ ap (sum_by (free_of (state_of c.args.shop.now)))
    (left c.args.shop.now c.yard.result.now c.args.part c.as_slice.result.now c.in_ok-items.items.items c.yard.ensures
    c.as_slice.ensures.value c.in_ok-items.ensures))

pub returns-clause-allocated : goal.returns-clause-allocated
returns-clause-allocated c =
    IfOk-map c.amounts_left.result c.amounts_left.ensures.allocated (λ a told. told
    ∙ ap (sum_by (allocated_of (state_of c.args.shop.now)))
    (left c.args.shop.now c.yard.result.now c.args.part c.as_slice.result.now c.in_ok-items.items.items c.yard.ensures
    c.as_slice.ensures.value c.in_ok-items.ensures))

pub returns-clause-items : goal.returns-clause-items
returns-clause-items c =
    IfOk-map c.amounts_left.result c.amounts_left.ensures.items (λ a told. told
    ∙ ap length
    (left c.args.shop.now c.yard.result.now c.args.part c.as_slice.result.now c.in_ok-items.items.items c.yard.ensures
    c.as_slice.ensures.value c.in_ok-items.ensures))
