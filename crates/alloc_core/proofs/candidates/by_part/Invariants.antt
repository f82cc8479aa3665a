use Rattle.std.proofs.Common.{◌≡◌, ◌++◌, drop}
use Rattle.yard_core.specs.YardView.{stock_of}
use Rattle.alloc_core.specs.Finding.{numbers_by_part}
use Rattle.alloc_core.proofs.candidates.by_part.Given as goal

abbrev pub invariant-loop-part : goal.invariant-loop-part
invariant-loop-part l =
    l.numbers.items ++ numbers_by_part (drop l.part-index l.parts) (stock_of l.yard)
    ≡ numbers_by_part l.parts (stock_of l.yard)
