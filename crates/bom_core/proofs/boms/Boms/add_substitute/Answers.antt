use Rattle.std.proofs.Common.{refl, sym, [], ◌∷◌}
use Rattle.part_core.specs.CatalogueView.{parts_of}
use Rattle.word_core.specs.Counter.{passes_limit}
use Rattle.word_core.specs.declared.refusal.Refusal.TheVariants.{Cycle, Full}
use Rattle.word_core.proofs.CheckLemmas.{first-before}
use Rattle.bom_core.specs.BomsView.{bill_books, bills_of}
use Rattle.bom_core.specs.Substitutes.{add_substitute, substitute_row_checks}
use Rattle.bom_core.specs.Walks.{contains_itself}
use Rattle.bom_core.proofs.boms.Boms.add_substitute.Goals as goal

pub returns-in-Some-clause-acts : goal.returns-in-Some-clause-acts
returns-in-Some-clause-acts c =
    let parts = parts_of c.args.catalogue.now in
    let after = add_substitute c.args.line c.args.part (bill_books c.args.self.now c.args.counter.now) in (
      first-before
          (substitute_row_checks c.args.line c.args.part c.args.open_parts.now parts (bills_of c.args.self.now))
          ((contains_itself parts after.bills, Cycle) ∷ (passes_limit after.counter, Full) ∷ []) c.in-Some.refusal
          (sym c.in-Some.ensures),
      refl,
    )
