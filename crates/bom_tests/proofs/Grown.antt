-- What a catalogue and bills are after a part or a line came and was made final.
use Rattle.std.proofs.Common.{◌≡◌, ℕ, List, ap, subst}
use Rattle.std.specs.Prelude.{Ok}
use Rattle.word_core.specs.Acts.{Acts}
use Rattle.part_core.specs.AddPart.{add_part, add_part_checks}
use Rattle.part_core.specs.Catalogue.{Parts, Register}
use Rattle.word_core.specs.Counter.{Numbering}
use Rattle.part_core.specs.declared.part.NewPart.{NewPart}
use Rattle.part_core.specs.declared.part_command.PartCommand.TheVariants.{AddPart}
use Rattle.bom_core.specs.Bills.{Bills}
use Rattle.bom_core.specs.Changes.{BillBooks}
use Rattle.bom_core.specs.Lines.{add_line, add_line_checks}
use Rattle.bom_core.specs.Sound.{IsSoundBill}
use Rattle.bom_core.specs.declared.bom_command.BomCommand.TheVariants.{AddLine}
use Rattle.bom_core.specs.declared.line.NewLine.{NewLine}
use Rattle.bom_core.proofs.Beside.{sound-part_effect}
use Rattle.bom_core.proofs.SoundChanges.{sound-effect}

pub sound-part : (new : NewPart) (old now : Register) (n : ℕ) (bills : Bills)
    → IsSoundBill old.parts bills old.counter.next
    → Acts (add_part_checks new old) (add_part new old, old.counter.next) old (Ok n) now
    → IsSoundBill now.parts bills now.counter.next
sound-part new old now n bills sound acts =
    subst (λ (r : Register). IsSoundBill r.parts bills r.counter.next) (ap (λ (p : Register × ℕ). p.0) acts.1)
    (sound-part_effect (AddPart new) old bills sound acts.0)

pub sound-line : (new : NewLine) (open_parts : List ℕ) (parts : Parts) (old now : BillBooks) (n : ℕ)
    → IsSoundBill parts old.bills old.counter.next
    → Acts (add_line_checks new open_parts parts old) (add_line new old, old.counter.next) old (Ok n) now
    → IsSoundBill parts now.bills now.counter.next
sound-line new open_parts parts old now n sound acts =
    subst (λ (b : BillBooks). IsSoundBill parts b.bills b.counter.next) (ap (λ (p : BillBooks × ℕ). p.0) acts.1)
    (sound-effect (AddLine new) open_parts parts old sound acts.0).0

-- records of equal fields
pub same_register : (p q : Parts) (c d : Numbering) → p ≡ q → c ≡ d
    → ◌≡◌ {A = Register} (record { parts = p; counter = c }) (record { parts = q; counter = d })
same_register p q c d e f = cc

pub same_books : (p q : Bills) (c d : Numbering) → p ≡ q → c ≡ d
    → ◌≡◌ {A = BillBooks} (record { bills = p; counter = c }) (record { bills = q; counter = d })
same_books p q c d e f = cc
