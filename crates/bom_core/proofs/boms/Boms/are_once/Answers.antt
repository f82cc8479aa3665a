use Rattle.std.proofs.Common.{◌≡◌, true, not, map, ◌∙◌, rules, List, subst, ap}
use Rattle.std.specs.Borrow.{Bor}
use Rattle.std.specs.FinMap as table
use Rattle.std.specs.HashMap.{get}
use Rattle.part_core.proofs.RowTests.{each-tested}
use Rattle.sheet_core.proofs.Standing.{filter_all}
use Rattle.bom_core.specs.BomsView.{bills_of}
use Rattle.bom_core.specs.RowTests.{AreNumbersOf, is_number_found, same_pair}
use Rattle.bom_core.specs.declared.substitute.Substitute.{Substitute}
use Rattle.bom_core.proofs.RowTests.{each-once}
use Rattle.bom_core.proofs.boms.Boms.are_once.Goals as goal

pub returns : goal.returns
returns c =
    let t = (bills_of c.args.self.now).substitutes in
    let numbers = c.in_ok-numbers.numbers in
    let rows : map (λ (x : Bor Substitute). x.now) c.deref.result.now ≡ table.values t =
    ap (map (λ (x : Bor Substitute). x.now)) c.deref.ensures.value
    ∙ (rw c.rows.ensures.value at (c.in_ok-rows.ensures (λ _. true) (search rules) ∙ filter_all _)) in
    let once =
    each-once t numbers (subst (λ (xs : List Substitute). AreNumbersOf xs numbers) rows c.in_ok-numbers.ensures) in
    let tested =
    each-tested (λ (x : Substitute). is_number_found x.number (get same_pair numbers (x.line, x.part))) _ t
    (λ x. (λ h. h, λ h. h)) c.any.result
    (rw c.rows-2.ensures.value
    at (c.any.ensures (λ x. not (is_number_found x.number (get same_pair numbers (x.line, x.part)))) (search rules))) in
    (λ none. once.0 (tested.0 none), λ all. tested.1 (once.1 all))
