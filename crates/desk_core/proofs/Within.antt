-- What passes its checks draws no number beyond the limit.
use Rattle.std.proofs.Common.{◌≡◌, ◌≤◌, ◌+◌, Bool, true, false, ℕ, List, [], ◌∷◌, None, refl, arith}
use Rattle.std.specs.Prelude.{nat_lt}
use Rattle.std.proofs.lemmas.Bool.{le-ltb, ltb-false}
use Rattle.part_core.specs.AddCategory.{add_category_checks}
use Rattle.part_core.specs.AddPart.{add_part_checks}
use Rattle.part_core.specs.Catalogue.{Parts, Register}
use Rattle.word_core.specs.Checks.{Check, first}
use Rattle.word_core.specs.Counter.{IsNext, Numbering, passes_limit}
use Rattle.word_core.specs.Day.{CivilDay}
use Rattle.part_core.specs.PartMachine as part
use Rattle.sheet_core.specs.Sheet.{Table}
use Rattle.part_core.specs.declared.part_command.PartCommand.{PartCommand}
use Rattle.part_core.specs.declared.part_command.PartCommand.TheVariants.{AddCategory, AddPart, RetirePart}
use Rattle.sheet_core.proofs.Conditions.{or_none}
use Rattle.bom_core.specs.Bills.{Bills}
use Rattle.bom_core.specs.BomMachine as bom
use Rattle.bom_core.specs.Changes.{BillBooks}
use Rattle.bom_core.specs.Lines.{add_line_checks}
use Rattle.bom_core.specs.Substitutes.{add_substitute_checks}
use Rattle.bom_core.specs.declared.bom_command.BomCommand.{BomCommand}
use Rattle.bom_core.specs.declared.bom_command.BomCommand.TheVariants.{AddLine, DropLine, AddSubstitute, DropSubstitute}
use Rattle.yard_core.specs.AddLocation.{add_location_checks}
use Rattle.yard_core.specs.StockBooks.{StockBooks, entries_in, is_full}
use Rattle.yard_core.specs.YardMachine as yard
use Rattle.yard_core.specs.declared.yard_command.YardCommand.{YardCommand}
use Rattle.yard_core.specs.declared.yard_command.YardCommand.TheVariants.{AddLocation}
use Rattle.alloc_core.specs.declared.allocation.Allocation.{Allocation}
use Rattle.stock_core.specs.Add.{add, add_checks}
use Rattle.stock_core.specs.Count.{count, count_checks}
use Rattle.stock_core.specs.Disassemble.{disassemble, disassemble_checks}
use Rattle.stock_core.specs.Found.{found, found_checks}
use Rattle.stock_core.specs.Install.{install, install_checks}
use Rattle.stock_core.specs.Merge.{merge, merge_checks}
use Rattle.stock_core.specs.Reinstate.{reinstate, reinstate_checks}
use Rattle.stock_core.specs.Remove.{remove, remove_checks}
use Rattle.stock_core.specs.Serialise.{serialise, serialise_checks}
use Rattle.stock_core.specs.SetStatus.{set_status, set_status_checks}
use Rattle.stock_core.specs.Split.{split, split_checks}
use Rattle.stock_core.specs.StockMachine as stock
use Rattle.stock_core.specs.Transfer.{transfer, transfer_checks}
use Rattle.stock_core.specs.Uninstall.{uninstall, uninstall_checks}
use Rattle.stock_core.specs.declared.stock_command.StockCommand.{StockCommand}
use Rattle.stock_core.specs.declared.stock_command.StockCommand.TheVariants.{Found, Add, Remove, Count, Transfer, Split}
use Rattle.stock_core.specs.declared.stock_command.StockCommand.TheVariants.{Merge, Serialise, SetStatus, Install}
use Rattle.stock_core.specs.declared.stock_command.StockCommand.TheVariants.{Uninstall, Disassemble, Reinstate}
use Rattle.order_core.specs.AllocateSale.{allocate_sale_checks}
use Rattle.order_core.specs.NewLine.{new_line_checks}
use Rattle.order_core.specs.NewOrder.{new_order_checks}
use Rattle.order_core.specs.OrderMachine as order
use Rattle.order_core.specs.Orders.{OrderBooks}
use Rattle.order_core.specs.Receive.{receive, receive_checks}
use Rattle.order_core.specs.ReturnItem.{return_item, return_item_checks}
use Rattle.order_core.specs.Ship.{ship, ship_checks}
use Rattle.order_core.specs.declared.order_command.OrderCommand.{OrderCommand}
use Rattle.order_core.specs.declared.order_command.OrderCommand.TheVariants.{NewOrder, NewLine, IssueOrder}
use Rattle.order_core.specs.declared.order_command.OrderCommand.TheVariants.{Receive, AllocateSale, Ship}
use Rattle.order_core.specs.declared.order_command.OrderCommand.TheVariants.{ReturnItem, CloseOrder, CancelOrder}
use Rattle.build_core.specs.AllocateBuild.{allocate_build_checks, wanted}
use Rattle.build_core.specs.AutoAllocate.{auto_allocate_checks}
use Rattle.build_core.specs.BuildMachine as build
use Rattle.build_core.specs.Builds.{BuildBooks}
use Rattle.build_core.specs.CompleteBuild.{complete_build, complete_build_checks}
use Rattle.build_core.specs.CompleteOutput.{complete_output, complete_output_checks}
use Rattle.build_core.specs.Consume.{consume, consume_checks}
use Rattle.build_core.specs.NewBuild.{new_build_checks}
use Rattle.build_core.specs.NewOutputs.{new_outputs, new_outputs_checks}
use Rattle.build_core.specs.ScrapOutput.{scrap_output, scrap_output_checks}
use Rattle.build_core.specs.declared.build_command.BuildCommand.{BuildCommand}
use Rattle.build_core.specs.declared.build_command.BuildCommand.TheVariants.{NewBuild, IssueBuild, HoldBuild}
use Rattle.build_core.specs.declared.build_command.BuildCommand.TheVariants.{CancelBuild, NewOutputs, CompleteOutput}
use Rattle.build_core.specs.declared.build_command.BuildCommand.TheVariants.{CancelOutput, ScrapOutput, AllocateBuild}
use Rattle.build_core.specs.declared.build_command.BuildCommand.TheVariants.{AutoAllocate, CompleteBuild, Consume}
use Rattle.desk_core.specs.Machine.{State, build_books_in, bill_books_in, checks, effect, open_parts, order_books_in}
use Rattle.desk_core.specs.Machine.{register_in, stock_books_in}
use Rattle.desk_core.specs.declared.command.Command.{Command}
use Rattle.desk_core.specs.declared.command.Command.TheVariants as command

-- ---- the last check

-- the last of some conditions; false where there is none
abbrev last : List Check → Bool
last [] = false
last (c ∷ []) = c.0
last (c ∷ d ∷ cs) = last (d ∷ cs)

-- where no refusal is given, the last condition doesn't hold
last-fails : (cs : List Check) → first cs ≡ None → last cs ≡ false
last-fails [] none = refl
last-fails ((true, x) ∷ cs) none = cc
last-fails ((false, x) ∷ []) none = refl
last-fails ((false, x) ∷ d ∷ cs) none = last-fails (d ∷ cs) none

-- no more numbers are drawn than the limit allows
abbrev IsWithin : Numbering → Type 0
IsWithin counter = passes_limit counter ≡ false

-- and so where no more entries are written than it allows either
room : (b : StockBooks) → is_full b ≡ false → IsWithin b.counter
room b fits = (or_none (passes_limit b.counter) (nat_lt b.counter.limits.entries (entries_in b)) fits).0

-- ---- the commands of each crate: the last check of those that draw numbers is that there is room for them

part-within : (c : PartCommand) (r : Register) → first (part.checks c r) ≡ None → IsWithin r.counter
    → IsWithin (part.effect c r).counter
part-within (AddCategory name parent) r none was = last-fails (add_category_checks name parent r) none
part-within (AddPart new) r none was = last-fails (add_part_checks new r) none
part-within (RetirePart number) r none was = was

bom-within : (c : BomCommand) (open_parts : List ℕ) (parts : Parts) (b : BillBooks)
    → first (bom.checks c open_parts parts b) ≡ None → IsWithin b.counter → IsWithin (bom.effect c b).counter
bom-within (AddLine new) open_parts parts b none was = last-fails (add_line_checks new open_parts parts b) none
bom-within (DropLine line) open_parts parts b none was = was
bom-within (AddSubstitute line number) open_parts parts b none was =
    last-fails (add_substitute_checks line number open_parts parts b) none
bom-within (DropSubstitute substitute) open_parts parts b none was = was

yard-within : (c : YardCommand) (b : StockBooks) → first (yard.checks c b) ≡ None → IsWithin (yard.effect c b).counter
yard-within (AddLocation name parent) b none = last-fails (add_location_checks name parent b) none

stock-within : (c : StockCommand) (day : CivilDay) (parts : Parts) (bills : Bills) (t : Table Allocation)
    (b : StockBooks) → first (stock.checks c day parts bills t b) ≡ None → IsWithin (stock.effect c day b).counter
stock-within (Found number location new) day parts bills t b none =
    room (found number location new day b) (last-fails (found_checks number location new day parts b) none)
stock-within (Add n quantity) day parts bills t b none =
    room (add n quantity day b) (last-fails (add_checks n quantity day b) none)
stock-within (Remove n quantity) day parts bills t b none =
    room (remove n quantity day b) (last-fails (remove_checks n quantity day t b) none)
stock-within (Count n quantity) day parts bills t b none =
    room (count n quantity day b) (last-fails (count_checks n quantity day t b) none)
stock-within (Transfer n location quantity) day parts bills t b none =
    room (transfer n location quantity day b) (last-fails (transfer_checks n location quantity day t b) none)
stock-within (Split n quantity) day parts bills t b none =
    room (split n quantity day b) (last-fails (split_checks n quantity day t b) none)
stock-within (Merge into items) day parts bills t b none =
    room (merge into items day b) (last-fails (merge_checks into items day t b) none)
stock-within (Serialise n quantity serials) day parts bills t b none =
    room (serialise n serials day b) (last-fails (serialise_checks n quantity serials day parts t b) none)
stock-within (SetStatus n status) day parts bills t b none =
    room (set_status n status day b) (last-fails (set_status_checks n status day t b) none)
stock-within (Install n parent quantity) day parts bills t b none =
    room (install n parent quantity day b) (last-fails (install_checks n parent quantity day parts bills t b) none)
stock-within (Uninstall n location) day parts bills t b none =
    room (uninstall n location day b) (last-fails (uninstall_checks n location day b) none)
stock-within (Disassemble n location) day parts bills t b none =
    room (disassemble n location day b) (last-fails (disassemble_checks n location day t b) none)
stock-within (Reinstate n location) day parts bills t b none =
    room (reinstate n location day b) (last-fails (reinstate_checks n location day b) none)

order-within : (c : OrderCommand) (day : CivilDay) (parts : Parts) (b : OrderBooks)
    → first (order.checks c day parts b) ≡ None → IsWithin b.books.counter
    → IsWithin (order.effect c day b).books.counter
order-within (NewOrder side partner) day parts b none was = last-fails (new_order_checks side partner b) none
order-within (NewLine number item quantity) day parts b none was =
    last-fails (new_line_checks number item quantity parts b) none
order-within (IssueOrder number) day parts b none was = was
order-within (Receive line location new) day parts b none was =
    room (receive line location new day b).books (last-fails (receive_checks line location new day parts b) none)
order-within (AllocateSale line item quantity) day parts b none was =
    last-fails (allocate_sale_checks line item quantity b) none
order-within (Ship number) day parts b none was = room (ship number day b).books (last-fails (ship_checks number day b) none)
order-within (ReturnItem item location) day parts b none was =
    room (return_item item location day b.books) (last-fails (return_item_checks item location day b.books) none)
order-within (CloseOrder number) day parts b none was = was
order-within (CancelOrder number) day parts b none was = was

build-within : (c : BuildCommand) (day : CivilDay) (parts : Parts) (bills : Bills) (b : BuildBooks)
    → first (build.checks c day parts bills b) ≡ None → IsWithin b.books.counter
    → IsWithin (build.effect c day parts bills b).books.counter
build-within (NewBuild number quantity) day parts bills b none was =
    last-fails (new_build_checks number quantity parts b) none
build-within (IssueBuild number) day parts bills b none was = was
build-within (HoldBuild number) day parts bills b none was = was
build-within (CancelBuild number) day parts bills b none was = was
build-within (NewOutputs number new) day parts bills b none was =
    room (new_outputs number new day b).books (last-fails (new_outputs_checks number new day parts bills b) none)
build-within (CompleteOutput output location) day parts bills b none was =
    room (complete_output output location day b).books
    (last-fails (complete_output_checks output location day parts bills b) none)
build-within (CancelOutput output) day parts bills b none was = was
build-within (ScrapOutput output) day parts bills b none was =
    room (scrap_output output day b).books (last-fails (scrap_output_checks output day b) none)
build-within (AllocateBuild number line item quantity output) day parts bills b none was =
    last-fails (allocate_build_checks (wanted number line item quantity output) parts bills b) none
build-within (AutoAllocate number with_substitutes with_optional) day parts bills b none was =
    last-fails (auto_allocate_checks number with_substitutes with_optional parts bills b) none
build-within (CompleteBuild number) day parts bills b none was =
    room (complete_build number day b).books (last-fails (complete_build_checks number day parts bills b) none)
build-within (Consume allocation) day parts bills b none was =
    room (consume allocation day b).books (last-fails (consume_checks allocation day b) none)

-- ---- all commands

effect-within : (s : State) (day : CivilDay) (c : Command) → first (checks s day c) ≡ None → IsWithin s.counter
    → IsWithin (effect s day c).counter
effect-within s day (command.Part c) none was = part-within c (register_in s) none was
effect-within s day (command.Bom c) none was = bom-within c (open_parts s) s.parts (bill_books_in s) none was
effect-within s day (command.Yard c) none was = yard-within c (stock_books_in s) none
effect-within s day (command.Stock c) none was =
    stock-within c day s.parts s.bills s.allocations (stock_books_in s) none
effect-within s day (command.Alloc c) none was = was
effect-within s day (command.Order c) none was = order-within c day s.parts (order_books_in s) none was
effect-within s day (command.Build c) none was = build-within c day s.parts s.bills (build_books_in s) none was

-- the number that is drawn next is one that the limits allow, where it was so
pub next-within : (s : State) (day : CivilDay) (c : Command) → first (checks s day c) ≡ None
    → IsNext s.counter.limits s.counter.next → s.counter.next ≤ (effect s day c).counter.next
    → IsNext (effect s day c).counter.limits (effect s day c).counter.next
next-within s day c none next more =
    let new = (effect s day c).counter in
    let was = le-ltb (s.counter.limits.numbers + 1) s.counter.next next.1 in (
      omega (arith, next.0, more),
      ltb-false (new.limits.numbers + 1) new.next (effect-within s day c none was),
    )
