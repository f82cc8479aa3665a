-- What a call that stands for a command comes to.
use Rattle.std.specs.Prelude.{◌≡◌, Some, None, List, Result, Ok, Err}
use Rattle.word_core.specs.Checks.{Check, first}
use Rattle.word_core.specs.declared.refusal.CoreFault.{CoreFault}
use Rattle.word_core.specs.declared.refusal.CoreFault.TheVariants.{Refused, Memory}

-- B is what the command reads and changes, A what it answers
module _ {B A : Type 0} where
  -- no check refuses it, and what it changes and answers is this; or it is refused by the first check that
  -- applies, or runs out of memory, and nothing has changed
  abbrev pub Acts : List Check → B × A → B → Result A CoreFault → B → Type 0
  Acts checks after old (Ok answer) new = (first checks ≡ None) × (after ≡ (new, answer))
  Acts checks after old (Err (Refused refusal)) new = (first checks ≡ Some refusal) × (new ≡ old)
  Acts checks after old (Err Memory) new = new ≡ old
