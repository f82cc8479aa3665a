-- What a desk tells of requests: the machine's outcomes, and why there was none.
use Rattle.std.specs.Prelude.{◌≡◌, ◌⊎◌, Bool, true, false, List, [], ◌∷◌, Option, Some, None, Result, Ok, Err}
use Rattle.sqlite.specs.Tree.{Trees}
use Rattle.word_core.specs.declared.answer.Answer.{Answer}
use Rattle.word_core.specs.declared.refusal.CoreFault.{CoreFault}
use Rattle.word_core.specs.declared.refusal.CoreFault.TheVariants as core
use Rattle.desk_core.specs.Machine.{State, IsAnew, Outcome, step}
use Rattle.desk_core.specs.declared.command.Request.{Request}
use Rattle.desk_store.specs.StateTables.{TablesAre}
use Rattle.desk_store.specs.declared.fault.Fault.{Fault}
use Rattle.desk_store.specs.declared.fault.Fault.TheVariants.{Refused, Memory, Store, Closed}

-- a fault of the machine, as the desk tells it
abbrev pub fault_of : CoreFault → Fault
fault_of (core.Refused refusal) = Refused refusal
fault_of core.Memory = Memory

-- what is told of a request is its step; or it ended otherwise, which leaves the state as it was
abbrev pub Tells : State → Request → Result Answer Fault → State → Type 0
Tells old r (Ok answer) new = step old r ≡ (new, Ok answer)
Tells old r (Err (Refused refusal)) new = step old r ≡ (new, Err refusal)
Tells old r (Err Memory) new = new ≡ old
Tells old r (Err Store) new = (new ≡ old) × IsAnew old r
Tells old r (Err Closed) new = new ≡ old

-- the requests that were answered or refused
abbrev pub answered : List Request → List (Result Answer Fault) → List Request
answered [] os = []
answered (r ∷ rs) [] = []
answered (r ∷ rs) (Ok answer ∷ os) = r ∷ answered rs os
answered (r ∷ rs) (Err (Refused refusal) ∷ os) = r ∷ answered rs os
answered (r ∷ rs) (Err Memory ∷ os) = answered rs os
answered (r ∷ rs) (Err Store ∷ os) = answered rs os
answered (r ∷ rs) (Err Closed ∷ os) = answered rs os

-- their outcomes
abbrev pub told : List (Result Answer Fault) → List Outcome
told [] = []
told (Ok answer ∷ os) = Ok answer ∷ told os
told (Err (Refused refusal) ∷ os) = Err refusal ∷ told os
told (Err Memory ∷ os) = told os
told (Err Store ∷ os) = told os
told (Err Closed ∷ os) = told os

-- a desk that is closed or not answers so, and is closed or not after it: nothing but a Store closes it, and from then
-- on each answer is Closed
abbrev pub Closes : Bool → List (Result Answer Fault) → Bool → Type 0
Closes before [] after = after ≡ before
Closes true (Err Closed ∷ os) after = Closes true os after
Closes true (o ∷ os) after = ⊥
Closes false (Err Closed ∷ os) after = ⊥
Closes false (Err Store ∷ os) after = Closes true os after
Closes false (o ∷ os) after = Closes false os after

-- the request that ended by a fault of the database
abbrev pub stopped_at : List Request → List (Result Answer Fault) → Option Request
stopped_at [] os = None
stopped_at (r ∷ rs) [] = None
stopped_at (r ∷ rs) (Err Store ∷ os) = Some r
stopped_at (r ∷ rs) (o ∷ os) = stopped_at rs os

-- the tables hold this state, or the one after the request at which the database failed
abbrev pub AreLeft : State → Option Request → Trees → Type 0
AreLeft s None trees = TablesAre s trees
AreLeft s (Some r) trees = TablesAre s trees ⊎ TablesAre (step s r).0 trees
