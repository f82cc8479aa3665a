use Rattle.std.proofs.Common.{◌≡◌}
use Rattle.word_core.specs.Counter.{numbering_before, numbering_of, resumed}
use Rattle.alloc_core.proofs.drawing.draw_up_to.Given as goal

-- the numbers up to here are drawn
abbrev pub invariant-loop-number : goal.invariant-loop-number
invariant-loop-number l =
    record {
      now : numbering_of l.counter ≡ resumed l.initial.counter.limits l._number;
      before : numbering_before l.counter ≡ numbering_before l.initial.counter;
    }
