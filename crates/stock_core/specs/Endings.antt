-- How a command ends whose changes were tried.
use Rattle.std.specs.Prelude.{◌≡◌, Result, Ok, Err, IsOk, true, false}
use Rattle.word_core.specs.declared.answer.Answer.{Answer}
use Rattle.word_core.specs.declared.refusal.CoreFault.{CoreFault}
use Rattle.word_core.specs.declared.refusal.CoreFault.TheVariants.{Refused, Memory}
use Rattle.word_core.specs.declared.refusal.Refusal.TheVariants as refusals
use Rattle.yard_core.specs.StockBooks.{StockBooks, is_full}
use Rattle.stock_core.specs.declared.halt.Halt.{Halt}
use Rattle.stock_core.specs.declared.halt.Halt.TheVariants as halts

-- its changes looked at the limits before each step: where it is answered they were made, and it is refused only
-- where the limits left no room for them
abbrev pub Ends : Result (Unit {0}) Halt → Result Answer CoreFault → Type 0
Ends moved (Ok answer) = IsOk moved
Ends moved (Err (Refused refusal)) = (moved ≡ Err halts.Full) × (refusal ≡ refusals.Full)
Ends moved (Err Memory) = Unit {0}

-- its moves were made whatever the limits are: it is answered where they were made and pass no limit, and refused
-- where they pass one
abbrev pub Closes : {E : Type 0} → StockBooks → Result (Unit {0}) E → Result Answer CoreFault → Type 0
Closes b moved (Ok answer) = IsOk moved × (is_full b ≡ false)
Closes b moved (Err (Refused refusal)) = IsOk moved × (is_full b ≡ true) × (refusal ≡ refusals.Full)
Closes b moved (Err Memory) = Unit {0}
