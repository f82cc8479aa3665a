-- What a row asks for.
use Rattle.stock_core.specs.declared.stock_command.StockCommand.TheVariants as stock
use Rattle.order_core.specs.declared.order_command.OrderCommand.TheVariants as order
use Rattle.desk_core.specs.declared.command.Command.{Command}
use Rattle.desk_core.specs.declared.command.Command.TheVariants.{Order, Stock}
use Rattle.desk_wire.specs.declared.row_command.RowCommand.{RowCommand}
use Rattle.desk_wire.specs.declared.row_command.RowCommand.TheVariants.{Receive, Count}

-- the command that a row asks for
abbrev pub command_by : RowCommand → Command
command_by (Receive line location quantity batch serials) =
    Order (order.Receive line location (record { quantity = quantity; batch = batch; serials = serials }))
command_by (Count item quantity) = Stock (stock.Count item quantity)
