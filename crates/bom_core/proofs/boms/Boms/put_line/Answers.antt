use Rattle.std.proofs.Common.{◌≡◌, true}
use Rattle.part_core.specs.CatalogueView.{parts_of}
use Rattle.bom_core.specs.BomsView.{bills_of}
use Rattle.bom_core.proofs.Edges.{line-cycles}
use Rattle.sheet_core.proofs.Conditions.{not_true}
use Rattle.bom_core.proofs.LookUps.{numbered-put, numbered-same}
use Rattle.bom_core.proofs.boms.Boms.put_line.Goals as goal

pub invariant_of-self : goal.invariant_of-self
invariant_of-self c =
    record {
      numbered =
          numbered-put c.put.result c.args.self.now.lines _ c.args.line c.put.ensures.ok c.put.ensures.err
          c.args.self.now.numbered;
      numbered_before =
          numbered-same c.args.self.now.lines.before _ c.args.self.now.numbered_before c.put.ensures.before;
    }

pub returns-then-branch-clause-refused : goal.returns-then-branch-clause-refused
returns-then-branch-clause-refused c refusal e =
    let cycles =
    line-cycles (parts_of c.args.catalogue.now) (bills_of c.args.self.now) c.args.line c.requires.sound
    c.requires.component in
    let found = rw c.in_ok-put.ensures.ok at c.in_ok-is_in_cycle.ensures in
    (cc, cycles.1 (found.0 c.if-branch.true))

pub returns-clause-acyclic : goal.returns-clause-acyclic
returns-clause-acyclic c =
    let cycles =
    line-cycles (parts_of c.args.catalogue.now) (bills_of c.args.self.now) c.args.line c.requires.sound
    c.requires.component in
    let found = rw c.in_ok-put.ensures.ok at c.in_ok-is_in_cycle.ensures in
    not_true _
    (λ p. let t : c.in_ok-is_in_cycle.field-0 ≡ true = found.1 (cycles.0 p) in let n = c.if-branch.false in cc)
