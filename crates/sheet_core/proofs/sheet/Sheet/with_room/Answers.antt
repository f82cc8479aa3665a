use Rattle.std.proofs.Common.{sym, refl}
use Rattle.std.specs.FinMap as table
use Rattle.sheet_core.specs.Sheet.{key_cmp}
use Rattle.sheet_core.proofs.sheet.Sheet.with_room.Goals as goal

pub invariant_of-result : goal.invariant_of-result
invariant_of-result g c =
    rw (c.in_ok-slots.ensures.empty, c.new.ensures.items)
    (record {
      slots = record { distinct = tt; places = λ j. refl };
      len = sym (table.len-empty key_cmp g.row.R.Denot);
      length_before = sym (table.len-empty key_cmp g.row.R.Denot);
    })
