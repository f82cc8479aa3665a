-- What comes of sending a request with a key again.
use Rattle.std.specs.Prelude.{◌≡◌, if◌then◌else◌, List, [], ◌∷◌, ◌++◌, Some, IsSome, Ok, Err}
use Rattle.std.specs.Str.{bytes_eq}
use Rattle.word_core.specs.declared.answer.Answer.{Answer}
use Rattle.word_core.specs.declared.refusal.Refusal.TheVariants.{KeyTaken}
use Rattle.desk_core.specs.declared.command.Request.{Request}
use Rattle.desk_core.specs.declared.kept.Kept.{Kept}
use Rattle.desk_core.specs.CommandText.{command_text}
use Rattle.desk_core.specs.Machine.{State, Outcome, kept_for, step, run}

-- each request has a key
abbrev pub AreKeyed : List Request → Type 0
AreKeyed [] = Unit {0}
AreKeyed (r ∷ rs) = IsSome r.key × AreKeyed rs

-- each request was accepted
abbrev pub AreAccepted : List Outcome → Type 0
AreAccepted [] = Unit {0}
AreAccepted (Ok answer ∷ os) = AreAccepted os
AreAccepted (Err refusal ∷ os) = ⊥

-- the request has the key and the command of the other, on whatever day
pub record IsRepeat (again r : Request) : Type 0 where
  pub key : again.key ≡ r.key
  pub command : command_text again.command ≡ command_text r.command

-- a later repeat of a request that was accepted gets its answer and changes nothing
abbrev pub LaterRepeatsChangeNothing : Type 0
LaterRepeatsChangeNothing =
    (s : State) (before between : List Request) (r again : Request) (answer : Answer)
    → IsSome r.key
    → IsRepeat again r
    → (step (run s before).0 r).1 ≡ Ok answer
    → (let then_ = (run s (before ++ r ∷ between)).0 in step then_ again ≡ (then_, Ok answer))

-- taken out of a list, a later repeat of a request that was accepted leaves the last state and the other outcomes as they
-- were
abbrev pub RepeatsCanBeLeftOut : Type 0
RepeatsCanBeLeftOut =
    (s : State) (before between after : List Request) (r again : Request) (answer : Answer)
    → IsSome r.key
    → IsRepeat again r
    → (step (run s before).0 r).1 ≡ Ok answer
    → (let first = before ++ r ∷ between in let then_ = (run s first).0 in
    (run s (first ++ after) ≡ ((run then_ after).0, (run s first).1 ++ (run then_ after).1))
    × (run s (first ++ again ∷ after) ≡ ((run then_ after).0, (run s first).1 ++ Ok answer ∷ (run then_ after).1)))

-- a list of accepted requests that is run again ends in the same state with the same outcomes
abbrev pub RepeatsChangeNothing : Type 0
RepeatsChangeNothing =
    (s : State) (rs : List Request) → AreKeyed rs → AreAccepted (run s rs).1 → run (run s rs).0 rs ≡ run s rs

-- where the first of a list were run and accepted, the whole list, sent again, ends as if it had been sent once
abbrev pub SendingAgainEndsAlike : Type 0
SendingAgainEndsAlike = (s : State) (done rest : List Request) → AreKeyed done → AreAccepted (run s done).1
    → run (run s done).0 (done ++ rest) ≡ run s (done ++ rest)

-- what is told where an answer is kept under the key: that answer where it is of this command, else that the key is
-- taken
abbrev pub told_of_key : Request → Kept → Outcome
told_of_key r kept = if bytes_eq kept.command (command_text r.command) then Ok kept.answer else Err KeyTaken

-- a request under whose key an answer is kept changes nothing, whatever its command
abbrev pub KeptKeysChangeNothing : Type 0
KeptKeysChangeNothing =
    (s : State) (r : Request) (kept : Kept) → kept_for r s ≡ Some kept → step s r ≡ (s, told_of_key r kept)
