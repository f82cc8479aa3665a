use Rattle.std.proofs.Common.{◌-◌, sym, ap, ◌∙◌, arith}
use Rattle.std.specs.FinMap as table
use Rattle.sheet_core.specs.Slots.{now_row, slots_of, table_by}
use Rattle.sheet_core.proofs.Entries.{remove-absent}
use Rattle.sheet_core.proofs.SlotLemmas.{get-no_slot, len-not_removed, len-removed, len-some}
use Rattle.sheet_core.proofs.sheet.Sheet.remove.Goals as goal

pub overflow_sub-self : goal.overflow_sub-self
overflow_sub-self g c =
    let k = g.R.Key.RowKey.digits c.args.key.now in
    let m = table_by now_row (slots_of g.R.Key.RowKey.digits c.self.inside.slots.entries) in
    let some = len-some m k c.in_ok-had.had (c.in_ok-had.ensures.had k c.in-Some.ensures.found) c.if-had.true in
    omega (arith, c.self.invariant.len, some)

pub invariant_of-self-then-had : goal.invariant_of-self-then-had
invariant_of-self-then-had g c =
    let k = g.R.Key.RowKey.digits c.args.key.now in
    let m = table_by now_row (slots_of g.R.Key.RowKey.digits c.self.inside.slots.entries) in
    record {
      slots = c.rewrite.ensures.slots;
      len = ap (λ n. n - 1) c.self.invariant.len
          ∙ sym (ap table.len (c.in_ok-had.ensures.rows k c.in-Some.ensures.found) ∙ len-removed m k c.in_ok-had.had
          (c.in_ok-had.ensures.had k c.in-Some.ensures.found) c.if-had.true);
      length_before = c.self.invariant.length_before ∙ ap table.len (sym c.rewrite.ensures.before);
    }

pub invariant_of-self-else-had : goal.invariant_of-self-else-had
invariant_of-self-else-had g c =
    let k = g.R.Key.RowKey.digits c.args.key.now in
    let m = table_by now_row (slots_of g.R.Key.RowKey.digits c.self.inside.slots.entries) in
    record {
      slots = c.rewrite.ensures.slots;
      len = c.self.invariant.len
          ∙ sym (ap table.len (c.in_ok-had.ensures.rows k c.in-Some.ensures.found) ∙ len-not_removed m k c.in_ok-had.had
          (c.in_ok-had.ensures.had k c.in-Some.ensures.found) c.if-had.false);
      length_before = c.self.invariant.length_before ∙ ap table.len (sym c.rewrite.ensures.before);
    }

pub returns-in_default-clause-ok : goal.returns-in_default-clause-ok
returns-in_default-clause-ok g c =
    let k = g.R.Key.RowKey.digits c.args.key.now in
    let es = slots_of g.R.Key.RowKey.digits c.self.inside.slots.entries in
    rw (← c.self.view_is)
    (sym (remove-absent (table_by now_row es) k
    (get-no_slot now_row es k c.self.invariant.slots.distinct c.in_default.ensures.absent)))
