use Rattle.std.proofs.Common.{◌≡◌, ◌++◌, ◌≤◌, drop, length, map, take}
use Rattle.std.specs.String.{string_bytes}
use Rattle.report_core.specs.Columns.{wider}
use Rattle.report_core.proofs.columns.widen.Given as goal

-- each column so far has a width, and what is left widens the others
abbrev pub invariant-loop-column : goal.invariant-loop-column
invariant-loop-column l = record {
  in_range : l.column ≤ length l.widths.items;
  so_far : take l.column l.widths.items
      ++ wider (drop l.column l.widths.items) (map string_bytes (drop l.column l.fields))
      ≡ wider l.initial.widths.items (map string_bytes l.fields);
}
