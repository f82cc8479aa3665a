-- No command on orders brings an allocation for a build.
use Rattle.std.proofs.Common.{refl, arith}
use Rattle.alloc_core.specs.Allocations.{is_for_some_build, is_owned}
use Rattle.alloc_core.specs.declared.purpose.Owner.TheVariants as owner
use Rattle.alloc_core.proofs.NoneComes.{none-insert, none-same, none-without}
use Rattle.sheet_core.proofs.RowLemmas.{right-none}
use Rattle.alloc_core.specs.declared.allocation.Allocation.{Allocation}
use Rattle.std.specs.Prelude.{[], ◌∷◌}
use Rattle.order_core.specs.AllocateSale.{sale_row}
use Rattle.order_core.specs.OrderMachine.{NoneComesForBuilds}
use Rattle.order_core.specs.Orders.{line_at}
use Rattle.order_core.specs.declared.order_command.OrderCommand.TheVariants.{NewOrder, NewLine, IssueOrder}
use Rattle.order_core.specs.declared.order_command.OrderCommand.TheVariants.{Receive, AllocateSale, Ship}
use Rattle.order_core.specs.declared.order_command.OrderCommand.TheVariants.{ReturnItem, CloseOrder, CancelOrder}

pub none-comes : NoneComesForBuilds
none-comes (NewOrder side partner) day b right = none-same is_for_some_build b.allocations
none-comes (NewLine order part quantity) day b right = none-same is_for_some_build b.allocations
none-comes (IssueOrder order) day b right = none-same is_for_some_build b.allocations
none-comes (Receive line location new) day b right = none-same is_for_some_build b.allocations
none-comes (AllocateSale line item quantity) day b right =
    let next = b.books.counter.next in
    none-insert is_for_some_build (next ∷ []) (sale_row next (line_at line b).order line item quantity) b.allocations
    (right-none (λ (a : Allocation). a.number) next next b.allocations right (omega arith)) refl
none-comes (Ship order) day b right = none-without is_for_some_build (is_owned (owner.Order order)) b.allocations
none-comes (ReturnItem item location) day b right = none-same is_for_some_build b.allocations
none-comes (CloseOrder order) day b right = none-same is_for_some_build b.allocations
none-comes (CancelOrder order) day b right = none-without is_for_some_build (is_owned (owner.Order order)) b.allocations
