use Rattle.std.proofs.Common.{arith, sym, ap, ◌∙◌, is_some}
use Rattle.sheet_core.specs.Slots.{noted, now_row, row_before}
use Rattle.sheet_core.proofs.SlotLemmas.{OnErr-always}
use Rattle.sheet_core.proofs.Lookups.{is_some-copied, slot_of_value}
use Rattle.sheet_core.proofs.Writes.{rewritten, rows-same, slots-pushed, slots-same}
use Rattle.sheet_core.proofs.Noted.{noted-changed, noted-settled}
use Rattle.sheet_core.proofs.slots.rewrite.Goals as goal

pub returns-in_err-write-clause-slots : goal.returns-in_err-write-clause-slots
returns-in_err-write-clause-slots g c =
    let digits = g.R.Key.RowKey.digits in
    let es = c.args.slots.now.entries in
    let h = c.index_mut-held.result.now in
    let s = slot_of_value digits es c.args.i h c.index_mut-held.ensures.value in
    rw c.in_ok-reserve.ensures.items
    (slots-same digits es c.args.i s.0 h c.write.new.self s.1 c.args.changed.now.items c.requires.slots
    (ap noted c.in_err-write.ensures.err))

pub returns-in_err-write-clause-before : goal.returns-in_err-write-clause-before
returns-in_err-write-clause-before g c =
    let digits = g.R.Key.RowKey.digits in
    let es = c.args.slots.now.entries in
    let h = c.index_mut-held.result.now in
    let s = slot_of_value digits es c.args.i h c.index_mut-held.ensures.value in
    rows-same digits es c.args.i s.0 h c.write.new.self s.1 c.requires.slots.distinct row_before c.write.ensures.before

pub returns-in_err-write-clause-err : goal.returns-in_err-write-clause-err
returns-in_err-write-clause-err g c =
    let digits = g.R.Key.RowKey.digits in
    let es = c.args.slots.now.entries in
    let h = c.index_mut-held.result.now in
    let s = slot_of_value digits es c.args.i h c.index_mut-held.ensures.value in
    OnErr-always _
    (rows-same digits es c.args.i s.0 h c.write.new.self s.1 c.requires.slots.distinct now_row
    (ap now_row c.in_err-write.ensures.err))

pub returns-then-is_first : goal.returns-then-is_first
returns-then-is_first g c =
    let h = c.index_mut-held.result.now in
    let w = c.write.new.self in
    let r =
    rewritten g.R.Key.RowKey.digits c.args.slots.now.entries c.args.i h w c.index_mut-held.ensures.value
    c.requires.slots.distinct _ c.in_ok-write.ensures.ok c.write.ensures.before in
    let one = noted-changed w c.in_ok-write.ensures.changed in
    let s = slot_of_value g.R.Key.RowKey.digits c.args.slots.now.entries c.args.i h c.index_mut-held.ensures.value in
    let settled = sym (c.is_changed-is_first.ensures) ∙ c.if-is_first.true in
    record {
      slots =
          rw (c.push_within.ensures.items, c.in_ok-reserve.ensures.items)
          (slots-pushed g.R.Key.RowKey.digits c.args.slots.now.entries c.args.i s.0 h w s.1 c.args.changed.now.items
          c.requires.slots (noted-settled h settled) one);
      rows = r.rows;
      before = r.before;
      found = r.found;
      noted = r.here ∙ one;
      few = omega (arith, c.len-len.ensures.len, c.len-len.ensures.small);
      had = λ k key. c.is_some-had.ensures ∙ is_some-copied c.row.result ∙ ap is_some c.row.ensures ∙ r.had k key;
      err = tt;
    }

pub returns-else-is_first : goal.returns-else-is_first
returns-else-is_first g c =
    let digits = g.R.Key.RowKey.digits in
    let es = c.args.slots.now.entries in
    let h = c.index_mut-held.result.now in
    let w = c.write.new.self in
    let s = slot_of_value digits es c.args.i h c.index_mut-held.ensures.value in
    let one = noted-changed w c.in_ok-write.ensures.changed in
    let changed = sym (c.is_changed-is_first.ensures) ∙ c.if-is_first.false in
    let r =
    rewritten digits es c.args.i h w c.index_mut-held.ensures.value c.requires.slots.distinct _ c.in_ok-write.ensures.ok
    c.write.ensures.before in
    record {
      slots =
          rw c.in_ok-reserve.ensures.items
          (slots-same digits es c.args.i s.0 h w s.1 c.args.changed.now.items c.requires.slots
          (one ∙ sym (noted-changed h changed)));
      rows = r.rows;
      before = r.before;
      found = r.found;
      noted = r.here ∙ one;
      few = omega (arith, c.len-len.ensures.len, c.len-len.ensures.small);
      had = λ k key. c.is_some-had.ensures ∙ is_some-copied c.row.result ∙ ap is_some c.row.ensures ∙ r.had k key;
      err = tt;
    }
