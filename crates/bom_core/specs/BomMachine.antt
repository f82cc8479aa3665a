-- The commands on bills as a machine: checks, effect, and what stays sound.
use Rattle.std.specs.Prelude.{◌≡◌, ◌≤◌, ℕ, List, None}
use Rattle.part_core.specs.Catalogue.{Parts}
use Rattle.word_core.specs.Checks.{AreInOrder, Check, first}
use Rattle.word_core.specs.Counter.{numbers_between}
use Rattle.word_core.specs.declared.answer.Answer.{Answer}
use Rattle.bom_core.specs.Changes.{BillBooks}
use Rattle.bom_core.specs.Lines.{add_line, add_line_checks, drop_line_checks, without_line}
use Rattle.bom_core.specs.Sound.{IsSoundBill}
use Rattle.bom_core.specs.Substitutes.{add_substitute, add_substitute_checks}
use Rattle.bom_core.specs.Substitutes.{drop_substitute_checks, without_substitute}
use Rattle.bom_core.specs.declared.bom_command.BomCommand.{BomCommand}
use Rattle.bom_core.specs.declared.bom_command.BomCommand.TheVariants.{AddLine, DropLine, AddSubstitute, DropSubstitute}

-- the conditions of a command's refusals, in the order of checks
abbrev pub checks : BomCommand → List ℕ → Parts → BillBooks → List Check
checks (AddLine new) open_parts parts b = add_line_checks new open_parts parts b
checks (DropLine line) open_parts parts b = drop_line_checks line open_parts parts b.bills
checks (AddSubstitute line part) open_parts parts b = add_substitute_checks line part open_parts parts b
checks (DropSubstitute substitute) open_parts parts b = drop_substitute_checks substitute open_parts parts b.bills

-- what an accepted command does
abbrev pub effect : BomCommand → BillBooks → BillBooks
effect (AddLine new) b = add_line new b
effect (DropLine line) b = record b { bills = without_line line b.bills }
effect (AddSubstitute line part) b = add_substitute line part b
effect (DropSubstitute substitute) b = record b { bills = without_substitute substitute b.bills }

-- what is answered: the numbers that were drawn
abbrev pub answer_of : BillBooks → BillBooks → Answer
answer_of old new = record { ids = numbers_between old.counter new.counter; entries = 0 }

-- the refusals of each command stand in the one order of checks
abbrev pub ChecksAreInOrder : Type 0
ChecksAreInOrder =
    (c : BomCommand) (open_parts : List ℕ) (parts : Parts) (b : BillBooks) → AreInOrder (checks c open_parts parts b)

-- what passes its checks leaves sound bills sound, and numbers drawn
abbrev pub EffectsAreSound : Type 0
EffectsAreSound =
    (c : BomCommand) (open_parts : List ℕ) (parts : Parts) (b : BillBooks) → IsSoundBill parts b.bills b.counter.next
    → first (checks c open_parts parts b) ≡ None
    → IsSoundBill parts (effect c b).bills (effect c b).counter.next × (b.counter.next ≤ (effect c b).counter.next)
