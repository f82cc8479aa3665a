-- What passes its checks leaves sound bills sound.
use Rattle.std.proofs.Common.{◌≡◌, ◌≤◌, ℕ, false, List, None, refl, arith}
use Rattle.std.specs.Prelude.{◌==◌, nat_lt}
use Rattle.std.proofs.lemmas.Grind.{common_steps}
use Rattle.part_core.specs.Catalogue.{Parts}
use Rattle.word_core.specs.Checks.{first}
use Rattle.word_core.specs.Quantity.{is_bad_quantity, largest}
use Rattle.word_core.specs.declared.refusal.Refusal.TheVariants.{NoSuch, BadNumber, InUse, Cycle}
use Rattle.word_core.proofs.CheckLemmas.{none-holds}
use Rattle.sheet_core.proofs.Conditions.{or_none}
use Rattle.bom_core.specs.BomMachine.{checks, effect}
use Rattle.bom_core.specs.Changes.{BillBooks, is_line_open}
use Rattle.bom_core.specs.Lines.{add_line_checks, new_line}
use Rattle.bom_core.specs.Sound.{IsSoundBill}
use Rattle.bom_core.specs.Substitutes.{add_substitute_checks, is_fitting, new_substitute}
use Rattle.bom_core.specs.declared.bom_command.BomCommand.{BomCommand}
use Rattle.bom_core.specs.declared.bom_command.BomCommand.TheVariants.{AddLine, DropLine, AddSubstitute, DropSubstitute}
use Rattle.bom_core.proofs.Kept.{both_there, sound-with_line, sound-with_substitute}
use Rattle.bom_core.proofs.Kept.{sound-without_line, sound-without_substitute}

good_quantity : (q : ℕ) → is_bad_quantity q ≡ false → (1 ≤ q) × (q ≤ largest)
good_quantity q e =
    let both = or_none (q == 0) (nat_lt largest q) e in
    (grind (arith, common_steps), grind (arith, common_steps))

pub sound-effect : (c : BomCommand) (open_parts : List ℕ) (parts : Parts) (b : BillBooks)
    → IsSoundBill parts b.bills b.counter.next → first (checks c open_parts parts b) ≡ None
    → IsSoundBill parts (effect c b).bills (effect c b).counter.next × (b.counter.next ≤ (effect c b).counter.next)
sound-effect (AddLine new) open_parts parts b sound e =
    let passed = none-holds (add_line_checks new open_parts parts b) e in
    let known = both_there parts.parts parts.parts new.assembly new.component (passed NoSuch) in (
      sound-with_line parts b.bills (new_line b.counter.next new) sound known.0 known.1
          (good_quantity new.quantity (passed BadNumber)) (passed Cycle),
      omega arith,
    )
sound-effect (DropLine line) open_parts parts b sound e =
    (sound-without_line parts b.bills line b.counter.next sound, omega arith)
sound-effect (AddSubstitute line part) open_parts parts b sound e =
    let passed = none-holds (add_substitute_checks line part open_parts parts b) e in
    let known = both_there b.bills.lines parts.parts line part (passed NoSuch) in
    let unfit =
    (or_none (is_line_open parts b.bills open_parts line) (is_fitting parts b.bills line part) (passed InUse)).1 in (
      sound-with_substitute parts b.bills (new_substitute b.counter.next line part) sound known.0 known.1 unfit
          (passed Cycle),
      omega arith,
    )
sound-effect (DropSubstitute substitute) open_parts parts b sound e =
    (sound-without_substitute parts b.bills substitute b.counter.next sound, omega arith)

-- the limits stay
pub effect-limits : (c : BomCommand) (b : BillBooks) → (effect c b).counter.limits ≡ b.counter.limits
effect-limits (AddLine new) b = refl
effect-limits (DropLine line) b = refl
effect-limits (AddSubstitute line part) b = refl
effect-limits (DropSubstitute substitute) b = refl
