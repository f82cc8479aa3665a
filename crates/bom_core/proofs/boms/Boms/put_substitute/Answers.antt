use Rattle.std.proofs.Common.{◌≡◌, true, sym}
use Rattle.part_core.specs.CatalogueView.{parts_of}
use Rattle.bom_core.specs.BomsView.{bills_of}
use Rattle.bom_core.proofs.Edges.{substitute-cycles}
use Rattle.sheet_core.proofs.Conditions.{not_true}
use Rattle.bom_core.proofs.boms.Boms.put_substitute.Goals as goal

pub returns-then-branch-clause-refused : goal.returns-then-branch-clause-refused
returns-then-branch-clause-refused c refusal e =
    let cycles =
    substitute-cycles (parts_of c.args.catalogue.now) (bills_of c.args.self.now) c.args.substitute c.requires.sound
    c.in-Some.line.now (sym c.in-Some.ensures) c.requires.part in
    let found = rw c.in_ok-put.ensures.ok at c.in_ok-is_in_cycle.ensures in
    (cc, cycles.1 (found.0 c.if-branch.true))

pub returns-clause-acyclic : goal.returns-clause-acyclic
returns-clause-acyclic c =
    let cycles =
    substitute-cycles (parts_of c.args.catalogue.now) (bills_of c.args.self.now) c.args.substitute c.requires.sound
    c.in-Some.line.now (sym c.in-Some.ensures) c.requires.part in
    let found = rw c.in_ok-put.ensures.ok at c.in_ok-is_in_cycle.ensures in
    not_true _
    (λ p. let t : c.in_ok-is_in_cycle.field-0 ≡ true = found.1 (cycles.0 p) in let n = c.if-branch.false in cc)
