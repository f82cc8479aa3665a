-- What the machine of allocations did is a step of the whole: it draws no number and writes no entry.
use Rattle.std.proofs.Common.{◌≡◌, ◌-◌, ap, ◌∙◌, arith}
use Rattle.std.specs.Prelude.{Result, Ok, Err}
use Rattle.std.specs.List.{range_with_len}
use Rattle.word_core.specs.Acts.{Acts}
use Rattle.word_core.specs.Day.{CivilDay}
use Rattle.sheet_core.specs.Sheet.{Table}
use Rattle.word_core.specs.declared.answer.Answer.{Answer}
use Rattle.word_core.specs.declared.refusal.CoreFault.{CoreFault}
use Rattle.word_core.specs.declared.refusal.CoreFault.TheVariants.{Refused, Memory}
use Rattle.alloc_core.specs.AllocMachine as alloc
use Rattle.alloc_core.specs.declared.alloc_command.AllocCommand.{AllocCommand}
use Rattle.alloc_core.specs.declared.allocation.Allocation.{Allocation}
use Rattle.desk_core.specs.Machine.{State, answer_of, checks, effect, entries_in, with_allocations}
use Rattle.desk_core.specs.declared.command.Command.TheVariants as command

-- nothing is told beside other allocations
none-told : (s : State) (t : Table Allocation) → answer_of s (with_allocations s t) ≡ alloc.answer
none-told s t =
    let numbers : s.counter.next - s.counter.next ≡ 0 = omega arith in
    let entries : entries_in s - entries_in s ≡ 0 = omega arith in
    λ i. record { ids = range_with_len s.counter.next (numbers i); entries = entries i }

pub alloc_acts :
    (s : State) (day : CivilDay) (c : AllocCommand) (result : Result Answer CoreFault) (t : Table Allocation)
    → Acts (alloc.checks c s.allocations) (alloc.effect c s.allocations, alloc.answer) s.allocations result t
    → Acts (checks s day (command.Alloc c))
    (effect s day (command.Alloc c), answer_of s (effect s day (command.Alloc c))) s result (with_allocations s t)
alloc_acts s day c (Ok answer) t h = (
  h.0,
  (
      ap (λ (told : Answer). (with_allocations s (alloc.effect c s.allocations), told))
      (none-told s (alloc.effect c s.allocations))
      ∙ ap (λ (p : Table Allocation × Answer). (with_allocations s p.0, p.1)) h.1
      ),
)
alloc_acts s day c (Err (Refused x)) t h = (h.0, ap (λ (u : Table Allocation). with_allocations s u) h.1)
alloc_acts s day c (Err Memory) t h = ap (λ (u : Table Allocation). with_allocations s u) h
