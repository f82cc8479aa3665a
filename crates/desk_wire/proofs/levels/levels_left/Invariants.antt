use Rattle.std.proofs.Common.{◌≡◌, []}
use Rattle.desk_wire.specs.Levels.{level_of, levels_from}
use Rattle.desk_wire.specs.Records.{IsReading, left}
use Rattle.desk_wire.proofs.levels.levels_left.Given as goal

-- the levels so far, with those of the records that are left, are those of all
abbrev pub invariant-loop-number : goal.invariant-loop-number
invariant-loop-number g l =
    let reads = level_of (g.N.Names.naming_of l.names) l.columns l.unclosed in
    record {
      reading : IsReading l.reader;
      so_far : levels_from reads 2 [] (left l.initial.reader) ≡ levels_from reads l.number l.levels.items (left l.reader);
    }
