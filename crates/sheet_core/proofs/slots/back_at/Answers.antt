use Rattle.std.proofs.Common.{sym, ◌∙◌}
use Rattle.sheet_core.specs.Slots.{row_before}
use Rattle.sheet_core.proofs.Lookups.{slot_of_value, none_is}
use Rattle.sheet_core.proofs.Noted.{before-settled, noted-settled}
use Rattle.sheet_core.proofs.Writes.{distinct-out, distinct-written, rows-same, table-out, unnoted-written}
use Rattle.sheet_core.proofs.slots.back_at.Goals as goal

pub returns-then-had_row : goal.returns-then-had_row
returns-then-had_row g c =
    let digits = g.R.Key.RowKey.digits in
    let es = c.args.slots.now.entries in
    let h = c.index_mut.result.now in
    let w = c.back.new.self in
    let s = slot_of_value digits es c.args.i h c.index_mut.ensures.value in
    record {
      distinct = distinct-written digits es c.args.i s.0 h w s.1 c.requires.distinct;
      noted = unnoted-written digits es c.args.i s.0 h w s.1 (noted-settled w c.back.ensures.settled);
      before =
          rows-same digits es c.args.i s.0 h w s.1 c.requires.distinct row_before
          (before-settled w c.back.ensures.settled ∙ c.back.ensures.now);
    }

pub returns-else-had_row : goal.returns-else-had_row
returns-else-had_row g c =
    record {
      distinct =
          distinct-out g.R.Key.RowKey.digits c.args.slots.now.entries c.args.i c.index.result.now c.index.ensures _
          c.take_out.ensures.taken c.requires.distinct;
      noted = c.take_out.ensures.noted;
      before =
          table-out g.R.Key.RowKey.digits c.args.slots.now.entries c.args.i c.index.result.now c.index.ensures _
          c.take_out.ensures.taken c.requires.distinct row_before
          (none_is (row_before c.index.result.now) (sym c.had_row.ensures ∙ c.if-had_row.false));
    }
