use Rattle.std.proofs.Common.{is_some, sym, ap, ◌∙◌}
use Rattle.sheet_core.specs.Slots.{now_row}
use Rattle.sheet_core.proofs.Lookups.{is_some-copied, none_is, slot_of_value}
use Rattle.sheet_core.proofs.Noted.{noted-settled}
use Rattle.sheet_core.proofs.Writes.{distinct-out, distinct-written, rows-same, table-out, unnoted-written}
use Rattle.sheet_core.proofs.slots.keep_at.Goals as goal

pub returns-then-is_some : goal.returns-then-is_some
returns-then-is_some g c =
    let digits = g.R.Key.RowKey.digits in
    let es = c.args.slots.now.entries in
    let h = c.index_mut.result.now in
    let w = c.keep.new.self in
    let s = slot_of_value digits es c.args.i h c.index_mut.ensures.value in
    record {
      distinct = distinct-written digits es c.args.i s.0 h w s.1 c.requires.distinct;
      noted = unnoted-written digits es c.args.i s.0 h w s.1 (noted-settled w c.keep.ensures.settled);
      rows = rows-same digits es c.args.i s.0 h w s.1 c.requires.distinct now_row c.keep.ensures.now;
    }

pub returns-else-is_some : goal.returns-else-is_some
returns-else-is_some g c =
    record {
      distinct =
          distinct-out g.R.Key.RowKey.digits c.args.slots.now.entries c.args.i c.index.result.now c.index.ensures _
          c.take_out.ensures.taken c.requires.distinct;
      noted = c.take_out.ensures.noted;
      rows =
          table-out g.R.Key.RowKey.digits c.args.slots.now.entries c.args.i c.index.result.now c.index.ensures _
          c.take_out.ensures.taken c.requires.distinct now_row
          (none_is (now_row c.index.result.now)
          (ap is_some (sym c.row.ensures) ∙ sym (is_some-copied c.row.result) ∙ sym c.is_some.ensures ∙ c.if-is_some.false));
    }
