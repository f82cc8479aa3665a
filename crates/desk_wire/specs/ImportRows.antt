-- A row of a file, by what it keeps.
use Rattle.std.specs.Prelude.{Some}
use Rattle.desk_wire.specs.declared.row.ImportRow.TheInside.{Inside}
use Rattle.desk_wire.specs.NumberedRequests.{NumberedRequest}
use Rattle.desk_wire.specs.RowCommands.{command_by}

-- the row that is kept so
abbrev pub row_kept : Inside → NumberedRequest
row_kept row = record {
  number = row.number;
  request = record { key = Some row.key; day = row.day; command = command_by row.command };
}
