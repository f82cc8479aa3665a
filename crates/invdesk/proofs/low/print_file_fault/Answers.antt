use Rattle.std.proofs.Common.{inl, inr, refl}
use Rattle.invdesk.proofs.Printing.{Keeps-refl, prints_text}
use Rattle.invdesk.proofs.low.print_file_fault.Goals as goal

pub returns-in-Wrong : goal.returns-in-Wrong
returns-in-Wrong g c =
    rw c.in-Wrong.is
    (prints_text _ _ _ c.print_fault.result c.print_fault.ensures.whole c.print_fault.ensures.front
    (λ h. elim h [ inl e ↦ c.print_fault.ensures.nothing e | inr e ↦ absurd (c.print_fault.ensures.never_stored e) ])
    c.print_fault.ensures.never_read)

pub returns-in-Memory : goal.returns-in-Memory
returns-in-Memory g c = rw c.in-Memory.is (refl, Keeps-refl _)
