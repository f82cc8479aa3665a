use Rattle.std.proofs.Common.{Some, sym, ap, ◌∙◌}
use Rattle.sheet_core.specs.Slots.{slots_of, now_row, table_by}
use Rattle.sheet_core.proofs.SlotLemmas.{get-no_slot, get-slot, given-same}
use Rattle.sheet_core.proofs.Lookups.{slot_of_key, slot_of_value, within-key}
use Rattle.sheet_core.proofs.Noted.{noted_at-slot, noted-unsettled}
use Rattle.sheet_core.proofs.Writes.{length-slots}
use Rattle.sheet_core.proofs.slots.note.Goals as goal

pub unreachable-requires : goal.unreachable-requires
unreachable-requires g c =
    let digits = g.R.Key.RowKey.digits in
    let none =
    get-no_slot now_row (slots_of digits c.args.slots.now.entries) (digits c.args.key.now) c.requires.slots.distinct
    c.in_default.ensures.absent in
    let some = rw none at c.requires.present in cc

pub returns-in_ok-rewrite-clause-rows : goal.returns-in_ok-rewrite-clause-rows
returns-in_ok-rewrite-clause-rows g c =
    let digits = g.R.Key.RowKey.digits in
    let es = c.args.slots.now.entries in
    let i = c.in-Some.i in
    let k = digits c.args.key.now in
    let h = c.index.result.now in
    let at = slot_of_key digits es i k h c.index.ensures c.in-Some.ensures.found in
    c.in_ok-rewrite.ensures.rows k c.in-Some.ensures.found
    ∙ given-same k (Some c.in_ok-row.row) (table_by now_row (slots_of digits es))
    (get-slot now_row (slots_of digits es) i k h c.requires.slots.distinct at
    ∙ ap now_row c.in-Settled.is
    ∙ ap Some (sym c.in_ok-row.ensures))

pub returns-in_ok-rewrite-clause-in_range : goal.returns-in_ok-rewrite-clause-in_range
returns-in_ok-rewrite-clause-in_range g c =
    let digits = g.R.Key.RowKey.digits in
    rw (length-slots digits c.rewrite.new.slots.entries)
    at (within-key (slots_of digits c.rewrite.new.slots.entries) c.in-Some.i (digits c.args.key.now)
    (c.in_ok-rewrite.ensures.found (digits c.args.key.now) c.in-Some.ensures.found))

pub returns-in_default-index-clause-noted : goal.returns-in_default-index-clause-noted
returns-in_default-index-clause-noted g c =
    let digits = g.R.Key.RowKey.digits in
    let es = c.args.slots.now.entries in
    let h = c.index.result.now in
    let s = slot_of_value digits es c.in-Some.i h c.index.ensures in
    noted_at-slot (slots_of digits es) c.in-Some.i (s.0, h) s.1
    ∙ noted-unsettled h c.in_default-index.not-Settled
