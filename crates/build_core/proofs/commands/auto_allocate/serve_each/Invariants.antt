use Rattle.std.proofs.Common.{◌≡◌, drop}
use Rattle.part_core.specs.CatalogueView.{parts_of}
use Rattle.word_core.specs.Counter.{numbering_before}
use Rattle.bom_core.specs.BomsView.{bills_of}
use Rattle.yard_core.specs.YardView.{stock_of}
use Rattle.alloc_core.specs.AllocationsView.{allocations_before}
use Rattle.alloc_core.specs.Allotments.{allotments_of}
use Rattle.alloc_core.specs.Allotting.{allot_lines}
use Rattle.alloc_core.proofs.Allotted.{AreDrawn}
use Rattle.build_core.specs.Lacks.{needs_of}
use Rattle.build_core.proofs.commands.auto_allocate.serve_each.Given as goal

-- what is left to serve makes what all made at first
abbrev pub invariant-loop-lack : goal.invariant-loop-lack
invariant-loop-lack l =
    record {
      left :
          allot_lines l.serving.with_substitutes (parts_of l.serving.catalogue.now) (bills_of l.serving.boms.now) (stock_of l.serving.yard.now) l.serving.build
          (needs_of (drop l.lack-index l.lacks)) (allotments_of l.allocations l.counter)
          ≡ allot_lines l.serving.with_substitutes (parts_of l.serving.catalogue.now) (bills_of l.serving.boms.now) (stock_of l.serving.yard.now) l.serving.build
          (needs_of l.lacks) (allotments_of l.initial.allocations l.initial.counter);
      drawn : AreDrawn (allotments_of l.allocations l.counter);
      before : allocations_before l.allocations ≡ allocations_before l.initial.allocations;
      counter_before : numbering_before l.counter ≡ numbering_before l.initial.counter;
    }
