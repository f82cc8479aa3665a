use Rattle.std.proofs.Common.{◌∙◌, refl}
use Rattle.part_core.specs.CatalogueView.{parts_of}
use Rattle.bom_core.specs.BomsView.{bills_of}
use Rattle.yard_core.specs.YardView.{stock_of}
use Rattle.alloc_core.specs.Allotments.{allotments_of}
use Rattle.build_core.proofs.EachServed.{served-drawn, served-more, served-past}
use Rattle.build_core.proofs.commands.auto_allocate.serve_each.Goals as goal

pub returns-in-Err-clause-full : goal.returns-in-Err-clause-full
returns-in-Err-clause-full c = λ e.
    let sound = c.requires.sound.1.3 in
    served-past c.args.serving.now.with_substitutes (parts_of c.args.serving.now.catalogue.now) (bills_of c.args.serving.now.boms.now)
    (stock_of c.args.serving.now.yard.now) sound.stock.items.stock c.args.counter.now.next sound.stock.items.rows
    c.requires.bill c.args.serving.now.build c.args.lacks.now c.requires.lines c.loop-lack.lack-index
    (allotments_of c.loop-lack.allocations c.loop-lack.counter) _ c.loop-lack.invariant.drawn
    c.loop-lack.invariant.left _ _ c.loop-lack-test.true refl (c.serve_line-served.ensures.full (c.in-Err.is ∙ e))

pub loop-lack-preserved : goal.loop-lack-preserved
loop-lack-preserved c =
    let sound = c.requires.sound.1.3 in
    let old = allotments_of c.loop-lack.allocations c.loop-lack.counter in
    let new = allotments_of c.serve_line-served.new.allocations c.serve_line-served.new.counter in
    record {
      left =
          served-more c.args.serving.now.with_substitutes (parts_of c.args.serving.now.catalogue.now) (bills_of c.args.serving.now.boms.now)
          (stock_of c.args.serving.now.yard.now) sound.stock.items.stock c.args.counter.now.next sound.stock.items.rows
          c.requires.bill c.args.serving.now.build c.args.lacks.now c.requires.lines c.loop-lack.lack-index old _
          c.loop-lack.invariant.drawn
          c.loop-lack.invariant.left _ _ c.loop-lack-test.true refl new c.in_default.ensures.ok;
      drawn =
          served-drawn c.args.serving.now.with_substitutes (parts_of c.args.serving.now.catalogue.now) (bills_of c.args.serving.now.boms.now)
          (stock_of c.args.serving.now.yard.now) sound.stock.items.stock c.args.counter.now.next sound.stock.items.rows
          c.requires.bill c.args.serving.now.build c.args.lacks.now c.requires.lines c.loop-lack.lack-index old _
          c.loop-lack.invariant.drawn
          c.loop-lack.invariant.left _ _ c.loop-lack-test.true refl new c.in_default.ensures.ok;
      before = c.serve_line-served.ensures.before ∙ c.loop-lack.invariant.before;
      counter_before = c.serve_line-served.ensures.counter_before ∙ c.loop-lack.invariant.counter_before;
    }
