use Rattle.std.proofs.Common.{◌≡◌, ◌++◌, ◌-◌, [], ℕ, take, sym, ap, ◌∙◌, refl}
use Rattle.std.proofs.lemmas.List.Sorted.{IsNonDecreasingBy-from_sort}
use Rattle.sheet_core.specs.Sheet.{table_of}
use Rattle.sheet_core.specs.Slots.{noted_at, times, slots_of}
use Rattle.sheet_core.proofs.Noted.{popped-last, popped-rest, popped-slots, popped-within}
use Rattle.sheet_core.proofs.Noted.{rows-unnoted, slots-sorted}
use Rattle.sheet_core.proofs.Writes.{length-slots}
use Rattle.sheet_core.proofs.slots.back_all.Goals as goal

pub loop-i-init : goal.loop-i-init
loop-i-init g c = record {
  slots = slots-sorted c.requires.slots c.sort_unstable.ensures.permutation;
  up = IsNonDecreasingBy-from_sort (λ x. x) c.sort_unstable.new.self.items c.sort_unstable.ensures.sorted;
  rows = refl;
}

pub back_at-requires-clause-in_range : goal.back_at-requires-clause-in_range
back_at-requires-clause-in_range g c =
    rw (length-slots g.R.Key.RowKey.digits c.loop-i.slots.entries)
    at (popped-within c.pop.new.self.items c.in-Some.i c.in-Some.ensures.items c.loop-i.invariant.slots)

pub back_at-requires-clause-last : goal.back_at-requires-clause-last
back_at-requires-clause-last g c =
    popped-last c.pop.new.self.items c.in-Some.i c.in-Some.ensures.items c.loop-i.invariant.slots c.loop-i.invariant.up

pub loop-i-preserved : goal.loop-i-preserved
loop-i-preserved g c = record {
  slots =
      popped-slots c.pop.new.self.items c.in-Some.i c.in-Some.ensures.items c.loop-i.invariant.slots
      (slots_of g.R.Key.RowKey.digits c.back_at.new.slots.entries) c.back_at.ensures.distinct c.back_at.ensures.noted;
  up = popped-rest c.pop.new.self.items c.in-Some.i c.in-Some.ensures.items c.loop-i.invariant.slots c.loop-i.invariant.up;
  rows = c.back_at.ensures.before ∙ c.loop-i.invariant.rows;
}

pub returns-clause-rows : goal.returns-clause-rows
returns-clause-rows g c =
    let digits = g.R.Key.RowKey.digits in
    let none : (j : ℕ) → noted_at (slots_of digits c.loop-i.slots.entries) j ≡ 0 =
    λ j. sym (c.loop-i.invariant.slots.places j) ∙ ap (times j)
    (c.in_default.ensures.items ∙ ap (λ l. l ++ [])
    (c.in_default.ensures.rest ∙ ap (λ n. take (n - 1) c.loop-i.changed.items) c.in_default.ensures.cases.0)) in
    sym (ap table_of (rows-unnoted (slots_of digits c.loop-i.slots.entries) none)) ∙ c.loop-i.invariant.rows
