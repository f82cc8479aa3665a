use Rattle.std.proofs.Common.{◌≡◌, map, take, option_copied}
use Rattle.std.specs.List.{All}
use Rattle.std.specs.FinMap as table
use Rattle.sheet_core.specs.Sheet.{IsEachOnce}
use Rattle.sheet_core.specs.Slots.{now_row, slots_of, table_by}
use Rattle.sheet_core.proofs.Changes.{AreListed}
use Rattle.sheet_core.proofs.slots.list_pending.Given as goal

-- what is listed is the difference that the changes so far make
abbrev pub invariant-loop-i : goal.invariant-loop-i
invariant-loop-i g l =
    record {
      once : IsEachOnce (map (λ p. g.R.Key.RowKey.digits p.key.now) l.pending.items);
      listed :
          AreListed (slots_of g.R.Key.RowKey.digits l.slots.entries) (take l.i-index l.changed)
          (map (λ p. g.R.Key.RowKey.digits p.key.now) l.pending.items);
      rows :
          All (λ p. option_copied p.row ≡ table.get (table_by now_row (slots_of g.R.Key.RowKey.digits l.slots.entries))
          (g.R.Key.RowKey.digits p.key.now))
          l.pending.items;
    }
