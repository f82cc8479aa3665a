use Rattle.std.proofs.Common.{ap, ◌∙◌, ◌+◌, subst, sym}
use Rattle.sqlite.specs.Held.{state}
use Rattle.desk_core.specs.ShopView.{state_before, state_of}
use Rattle.desk_store.specs.Saving.{Goes, IsUnderWay, turn_of}
use Rattle.desk_store.proofs.Sheets.{allocation-sheet, at_table, build-sheet, category-sheet}
use Rattle.desk_store.proofs.Sheets.{item-sheet, line-sheet, location-sheet}
use Rattle.desk_store.proofs.Sheets.{order-line-sheet, order-sheet, part-sheet, spent-sheet, substitute-sheet}
use Rattle.table_store.specs.declared.name.TableName.{TableName}
use Rattle.table_store.specs.declared.name.TableName.TheVariants.{Categories, Locations, Parts, Lines}
use Rattle.table_store.specs.declared.name.TableName.TheVariants.{Substitutes, Items, Orders}
use Rattle.table_store.specs.declared.name.TableName.TheVariants.{OrderLines, Builds, Allocations, Spent}
use Rattle.desk_store.proofs.save.write_table.Goals as goal

pub write_sheet-requires-clause-sheet : goal.write_sheet-requires-clause-sheet
write_sheet-requires-clause-sheet g c =
    at_table c.args.table Categories c.categories.result.now c.args.shop.now.catalogue.categories c.in-Categories.is
    (c.categories.ensures.value ∙ ap (λ k. k.categories) c.catalogue.ensures)
    (category-sheet c.args.shop.now c.requires.follows)

pub write_sheet-requires-in-Locations-clause-sheet : goal.write_sheet-requires-in-Locations-clause-sheet
write_sheet-requires-in-Locations-clause-sheet g c =
    at_table c.args.table Locations c.locations.result.now c.args.shop.now.floor.stock.yard.locations c.in-Locations.is
    (c.locations.ensures ∙ ap (λ k. k.locations) c.yard.ensures) (location-sheet c.args.shop.now c.requires.follows)

pub write_sheet-requires-in-Parts-clause-sheet : goal.write_sheet-requires-in-Parts-clause-sheet
write_sheet-requires-in-Parts-clause-sheet g c =
    at_table c.args.table Parts c.parts.result.now c.args.shop.now.catalogue.parts c.in-Parts.is
    (c.parts.ensures.value ∙ ap (λ k. k.parts) c.catalogue-in-Parts.ensures)
    (part-sheet c.args.shop.now c.requires.follows)

pub write_sheet-requires-in-Lines-clause-sheet : goal.write_sheet-requires-in-Lines-clause-sheet
write_sheet-requires-in-Lines-clause-sheet g c =
    at_table c.args.table Lines c.lines.result.now c.args.shop.now.boms.lines c.in-Lines.is
    (c.lines.ensures ∙ ap (λ k. k.lines) c.boms.ensures) (line-sheet c.args.shop.now c.requires.follows)

pub write_sheet-requires-in-Substitutes-clause-sheet : goal.write_sheet-requires-in-Substitutes-clause-sheet
write_sheet-requires-in-Substitutes-clause-sheet g c =
    at_table c.args.table Substitutes c.substitutes.result.now c.args.shop.now.boms.substitutes c.in-Substitutes.is
    (c.substitutes.ensures ∙ ap (λ k. k.substitutes) c.boms-in-Substitutes.ensures)
    (substitute-sheet c.args.shop.now c.requires.follows)

pub write_sheet-requires-in-Items-clause-sheet : goal.write_sheet-requires-in-Items-clause-sheet
write_sheet-requires-in-Items-clause-sheet g c =
    at_table c.args.table Items c.items.result.now c.args.shop.now.floor.stock.yard.items c.in-Items.is
    (c.items.ensures ∙ ap (λ k. k.items) c.yard-in-Items.ensures) (item-sheet c.args.shop.now c.requires.follows)

pub write_history-requires-clause-under_way : goal.write_history-requires-clause-under_way
write_history-requires-clause-under_way g c clean =
    subst (λ (t : TableName).
    IsUnderWay (state_before c.args.shop.now) (state_of c.args.shop.now) (turn_of t) (state g.S.Store c.args.conn.now))
    c.in-History.is (c.requires.under_way clean)

pub returns-in-History : goal.returns-in-History
returns-in-History g c =
    subst (λ (t : TableName). Goes (state_before c.args.shop.now) (state_of c.args.shop.now) (turn_of t + 1)
    (state g.S.Store c.args.conn.now) (state g.S.Store c.write_history.new.conn) c.write_history.result)
    (sym c.in-History.is) c.write_history.ensures

pub write_sheet-requires-in-Orders-clause-sheet : goal.write_sheet-requires-in-Orders-clause-sheet
write_sheet-requires-in-Orders-clause-sheet g c =
    at_table c.args.table Orders c.orders-in-Orders.result.now c.args.shop.now.orders.orders c.in-Orders.is
    (c.orders-in-Orders.ensures ∙ ap (λ k. k.orders) c.orders.ensures) (order-sheet c.args.shop.now c.requires.follows)

pub write_sheet-requires-in-OrderLines-clause-sheet : goal.write_sheet-requires-in-OrderLines-clause-sheet
write_sheet-requires-in-OrderLines-clause-sheet g c =
    at_table c.args.table OrderLines c.lines-in-OrderLines.result.now c.args.shop.now.orders.lines c.in-OrderLines.is
    (c.lines-in-OrderLines.ensures.value ∙ ap (λ k. k.lines) c.orders-in-OrderLines.ensures)
    (order-line-sheet c.args.shop.now c.requires.follows)

pub write_sheet-requires-in-Builds-clause-sheet : goal.write_sheet-requires-in-Builds-clause-sheet
write_sheet-requires-in-Builds-clause-sheet g c =
    at_table c.args.table Builds c.rows.result.now c.args.shop.now.builds.rows c.in-Builds.is
    (c.rows.ensures.value ∙ ap (λ k. k.rows) c.builds.ensures) (build-sheet c.args.shop.now c.requires.follows)

pub write_sheet-requires-in-Allocations-clause-sheet : goal.write_sheet-requires-in-Allocations-clause-sheet
write_sheet-requires-in-Allocations-clause-sheet g c =
    at_table c.args.table Allocations c.rows-in-Allocations.result.now c.args.shop.now.floor.allocations.rows
    c.in-Allocations.is (c.rows-in-Allocations.ensures.value ∙ ap (λ k. k.rows) c.allocations.ensures)
    (allocation-sheet c.args.shop.now c.requires.follows)

pub write_sheet-requires-in-Spent-clause-sheet : goal.write_sheet-requires-in-Spent-clause-sheet
write_sheet-requires-in-Spent-clause-sheet g c =
    at_table c.args.table Spent c.spent.result.now c.args.shop.now.builds.spent c.in-Spent.is
    (c.spent.ensures.value ∙ ap (λ k. k.spent) c.builds-in-Spent.ensures) (spent-sheet c.args.shop.now c.requires.follows)

pub write_counter-requires-clause-under_way : goal.write_counter-requires-clause-under_way
write_counter-requires-clause-under_way g c clean =
    subst (λ (t : TableName).
    IsUnderWay (state_before c.args.shop.now) (state_of c.args.shop.now) (turn_of t) (state g.S.Store c.args.conn.now))
    c.in-Meta.is (c.requires.under_way clean)

pub write_counter-requires-clause-small : goal.write_counter-requires-clause-small
write_counter-requires-clause-small g c = c.requires.follows.counted

pub returns-in-Meta : goal.returns-in-Meta
returns-in-Meta g c =
    subst (λ (t : TableName). Goes (state_before c.args.shop.now) (state_of c.args.shop.now) (turn_of t + 1)
    (state g.S.Store c.args.conn.now) (state g.S.Store c.write_counter.new.conn) c.write_counter.result)
    (sym c.in-Meta.is) c.write_counter.ensures

pub write_answers-requires-clause-under_way : goal.write_answers-requires-clause-under_way
write_answers-requires-clause-under_way g c clean =
    subst (λ (t : TableName).
    IsUnderWay (state_before c.args.shop.now) (state_of c.args.shop.now) (turn_of t) (state g.S.Store c.args.conn.now))
    c.in-Kept.is (c.requires.under_way clean)

pub returns-in-Kept : goal.returns-in-Kept
returns-in-Kept g c =
    subst (λ (t : TableName). Goes (state_before c.args.shop.now) (state_of c.args.shop.now) (turn_of t + 1)
    (state g.S.Store c.args.conn.now) (state g.S.Store c.write_answers.new.conn) c.write_answers.result)
    (sym c.in-Kept.is) c.write_answers.ensures
