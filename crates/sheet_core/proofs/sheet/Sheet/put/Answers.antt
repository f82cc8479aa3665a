use Rattle.std.proofs.Common.{◌+◌, is_some, refl, sym, ap, ◌∙◌, arith}
use Rattle.std.specs.FinMap as table
use Rattle.sheet_core.specs.Slots.{now_row, slots_of, table_by}
use Rattle.sheet_core.proofs.SlotLemmas.{get-no_slot, len-put_new, len-put_same}
use Rattle.sheet_core.proofs.Writes.{few-rows}
use Rattle.sheet_core.proofs.sheet.Sheet.put.Goals as goal

pub overflow_add-self : goal.overflow_add-self
overflow_add-self g c =
    let few =
    few-rows g.R.Key.RowKey.digits c.self.inside.slots.entries _ c.self.invariant.len c.rewrite.ensures.few in
    omega arith

pub invariant_of-self-then-not-had : goal.invariant_of-self-then-not-had
invariant_of-self-then-not-had g c =
    let k = g.R.Key.RowKey.digits c.in_ok-key.key in
    let m = table_by now_row (slots_of g.R.Key.RowKey.digits c.self.inside.slots.entries) in
    record {
      slots = c.rewrite.ensures.slots;
      len = ap (λ n. n + 1) c.self.invariant.len
          ∙ sym (ap table.len (c.in_ok-had-in-Some.ensures.rows k c.in-Some.ensures.found) ∙ len-put_new m k c.args.row
          c.in_ok-had-in-Some.had (c.in_ok-had-in-Some.ensures.had k c.in-Some.ensures.found) c.if-not-had.true);
      length_before = c.self.invariant.length_before ∙ ap table.len (sym c.rewrite.ensures.before);
    }

pub invariant_of-self-else-not-had : goal.invariant_of-self-else-not-had
invariant_of-self-else-not-had g c =
    let k = g.R.Key.RowKey.digits c.in_ok-key.key in
    let m = table_by now_row (slots_of g.R.Key.RowKey.digits c.self.inside.slots.entries) in
    record {
      slots = c.rewrite.ensures.slots;
      len = c.self.invariant.len
          ∙ sym (ap table.len (c.in_ok-had-in-Some.ensures.rows k c.in-Some.ensures.found) ∙ len-put_same m k c.args.row
          c.in_ok-had-in-Some.had (c.in_ok-had-in-Some.ensures.had k c.in-Some.ensures.found) c.if-not-had.false);
      length_before = c.self.invariant.length_before ∙ ap table.len (sym c.rewrite.ensures.before);
    }

pub overflow_add-self-in-None : goal.overflow_add-self-in-None
overflow_add-self-in-None g c =
    let few =
    few-rows g.R.Key.RowKey.digits c.self.inside.slots.entries _ c.self.invariant.len c.add.ensures.few in
    omega arith

pub invariant_of-self-in-None : goal.invariant_of-self-in-None
invariant_of-self-in-None g c =
    let k = g.R.Key.RowKey.digits c.in_ok-key.key in
    let es = slots_of g.R.Key.RowKey.digits c.self.inside.slots.entries in
    let m = table_by now_row es in
    let none = sym (ap is_some (get-no_slot now_row es k c.self.invariant.slots.distinct c.in-None.ensures.absent)) in
    record {
      slots = c.add.ensures.slots;
      len =
          ap (λ n. n + 1) c.self.invariant.len
          ∙ sym (ap table.len c.in_ok-add-in-None.ensures.rows ∙ len-put_new m k c.args.row _ none refl);
      length_before = c.self.invariant.length_before ∙ ap table.len (sym c.add.ensures.before);
    }
