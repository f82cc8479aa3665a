use Rattle.std.proofs.Common.{◌∙◌, rules, tests}
use Rattle.std.specs.Borrow.{Bor}
use Rattle.std.proofs.lemmas.Iterator.{YieldsList-from_slice}
use Rattle.std.proofs.lemmas.Iterator.Search.{any_from_yields_List}
use Rattle.part_core.specs.CatalogueView.{parts_of}
use Rattle.bom_core.specs.declared.line.Line.{Line}
use Rattle.build_core.specs.Needs.{is_tracked}
use Rattle.build_core.proofs.Lines.{any-seen}
use Rattle.build_core.proofs.needs.any_tracked.Goals as goal

pub returns : goal.returns
returns c =
    let parts = parts_of c.args.catalogue.now in
    let test = λ (l : Bor Line). is_tracked parts l.now in
    any_from_yields_List test _ _ _ c.any.ensures.ran (YieldsList-from_slice c.args.lines.now cc)
    (λ x b q k. search (rules, tests))
    ∙ any-seen (is_tracked parts) c.args.lines.now
