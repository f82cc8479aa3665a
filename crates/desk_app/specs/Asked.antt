-- A service that is asked, and what is printed of its answers.
use Rattle.std.specs.Prelude.{◌≡◌, ◌⊎◌, ◌+◌, ◌++◌, ◌&&◌, ℕ, Bool, true, false, List, [], ◌∷◌, length, map}
use Rattle.std.specs.Prelude.{Option, Some, None, Result, Ok, Err}
use Rattle.std.specs.Io.KnownBytes.{Appends, Keeps}
use Rattle.desk_http.specs.Asking.{target_of}
use Rattle.desk_http.specs.declared.answer.Answer.{Answer}
use Rattle.desk_http.specs.declared.answer.Unheard.{Unheard}
use Rattle.desk_http.specs.declared.question.Question.{Question}
use Rattle.desk_http.specs.declared.question.Question.TheVariants as question
use Rattle.desk_store.specs.Exports.{AppendsFront}
use Rattle.desk_app.specs.Cuts.{held}
use Rattle.desk_app.specs.Heard.{shown_of}
use Rattle.desk_app.specs.Runs.{lines_of}
use Rattle.desk_app.specs.declared.heard.Trouble.{Trouble}
use Rattle.desk_app.specs.declared.heard.Trouble.TheVariants.{Memory, ReadFailed, WriteFailed}

-- what a service was asked, and what was heard of it
pub record Exchange : Type 0 where
  pub target : List ℕ
  pub body : List ℕ
  pub heard : Result Answer Unheard

abbrev pub exchange : Question → List ℕ → Result Answer Unheard → Exchange
exchange question body heard = record { target = target_of question; body = body; heard = heard }

-- what was asked so far is known, or it isn't, and one exchange came to it
abbrev pub Logged : Option (List Exchange) → Option (List Exchange) → Exchange → Type 0
Logged None log' x = Unit {0}
Logged (Some log) log' x = log' ≡ Some (log ++ x ∷ [])

-- ---- one question

-- what is to be shown was printed whole, or a front of it, or nothing was where there is nothing to be shown
abbrev pub Prints : Result (List ℕ × Bool) Trouble → Option (List ℕ) → Option (List ℕ) → Result Bool Trouble → Type 0
Prints (Ok shown) w w' (Ok fine) = (fine ≡ shown.1) × Appends w w' shown.0
Prints (Ok shown) w w' (Err WriteFailed) = AppendsFront w w' shown.0
Prints (Ok shown) w w' (Err Memory) = Keeps w w'
Prints (Ok shown) w w' (Err why) = ⊥
Prints (Err told) w w' (Ok fine) = ⊥
Prints (Err told) w w' (Err Memory) = Keeps w w'
Prints (Err told) w w' (Err why) = (why ≡ told) × Keeps w w'

-- so many lines were sent before
abbrev pub AsksAndPrints : Question → ℕ → List ℕ → Option (List Exchange) → Option (List Exchange) → Option (List ℕ)
    → Option (List ℕ) → Result Bool Trouble → Type 0
AsksAndPrints question before body log log' w w' result =
    (heard : Result Answer Unheard) × Logged log log' (exchange question body heard)
    × Prints (shown_of question before heard) w w' result

-- ---- many lines

-- lines that were sent together, and what was heard
pub record Sending : Type 0 where
  pub lines : List (List ℕ)
  pub heard : Result Answer Unheard

-- the lines as they are sent: of each as much as is held, and its LF
abbrev pub text_of : List (List ℕ) → List ℕ
text_of [] = []
text_of (l ∷ ls) = held l ++ 10 ∷ text_of ls

abbrev pub question_at : Bool → Question
question_at stop = question.Lines (record { stop = stop; check = false })

abbrev pub exchanges : Bool → List Sending → List Exchange
exchanges stop sent = map (λ s. exchange (question_at stop) (text_of s.lines) s.heard) sent

abbrev pub lines_sent : List Sending → List (List ℕ)
lines_sent [] = []
lines_sent (s ∷ ss) = s.lines ++ lines_sent ss

abbrev pub joined : Result (List ℕ × Bool) Trouble → Result (List ℕ × Bool) Trouble → Result (List ℕ × Bool) Trouble
joined (Ok a) (Ok b) = Ok (a.0 ++ b.0, a.1 && b.1)
joined (Ok a) (Err why) = Err why
joined (Err why) b = Err why

-- what is shown of all answers, where so many lines were sent before
abbrev pub shown_from : Bool → ℕ → List Sending → Result (List ℕ × Bool) Trouble
shown_from stop before [] = Ok ([], true)
shown_from stop before (s ∷ ss) =
    joined (shown_of (question_at stop) before s.heard) (shown_from stop (before + length s.lines) ss)

abbrev pub AreLogged : Option (List Exchange) → Option (List Exchange) → List Exchange → Type 0
AreLogged None log' es = Unit {0}
AreLogged (Some log) log' es = log' ≡ Some (log ++ es)

-- the lines of the known text are these, and then those of this rest
abbrev pub IsRest : Option (List ℕ) → List (List ℕ) → Option (List ℕ) → Type 0
IsRest None lines rest = Unit {0}
IsRest (Some text) lines None = ⊥
IsRest (Some text) lines (Some rest) = lines_of text ≡ lines ++ lines_of rest

-- the lines can't be read, or there is no memory for them
abbrev pub IsOfInput : Trouble → Type 0
IsOfInput why = (why ≡ ReadFailed) ⊎ (why ≡ Memory)

-- A call added the next line to what is to be sent, or there was none.
abbrev pub AddsLine : Option (List ℕ) → Option (List ℕ) → Bool → List ℕ → List ℕ → Type 0
AddsLine known rest false body body' = (body' ≡ body) × IsRest known [] rest × IsRest known [] (Some [])
AddsLine known rest true body body' =
    (l : List ℕ) × (body' ≡ body ++ held l ++ 10 ∷ []) × IsRest known (l ∷ []) rest

-- A call took so many lines to be sent. Where it took none, there is none.
pub record TakesBody (known rest : Option (List ℕ)) (count : ℕ) (body : List ℕ) : Type 0 where
  pub more : List (List ℕ)
  pub body_is : body ≡ text_of more
  pub count_is : length more ≡ count
  pub rest_is : IsRest known more rest
  pub none : count ≡ 0 → IsRest known more (Some [])

-- how it ends behind these: with all lines, or, where it is to stop, with some that aren't fine; as more can't be read; or
-- with more lines that were sent, of which what was heard isn't printed whole
abbrev pub EndsBehind : Bool → Option (List ℕ) → List Sending → Bool → Option (List Exchange) → Option (List Exchange)
    → Option (List ℕ) → Option (List ℕ) → Result Bool Trouble → Type 0
EndsBehind stop known sent fine log log' w w' (Ok all) =
    (all ≡ fine) × (log' ≡ log) × (w' ≡ w)
    × (IsRest known (lines_sent sent) (Some [])
    ⊎ ((stop ≡ true) × (all ≡ false) × ((rest : Option (List ℕ)) × IsRest known (lines_sent sent) rest)))
EndsBehind stop known sent fine log log' w w' (Err why) =
    (IsOfInput why × (log' ≡ log) × (w' ≡ w) × ((rest : Option (List ℕ)) × IsRest known (lines_sent sent) rest))
    ⊎ ((more : List (List ℕ)) × ((rest : Option (List ℕ)) × IsRest known (lines_sent sent ++ more) rest)
    × AsksAndPrints (question_at stop) (length (lines_sent sent)) (text_of more) log log' w w' (Err why))

-- The lines of the known bytes were sent, some of them at a time and in their order, and what is shown of the answers was
-- printed; and so it ended.
pub record RunsAt (stop : Bool) (known : Option (List ℕ)) (log log' : Option (List Exchange)) (w w' : Option (List ℕ))
    (result : Result Bool Trouble) : Type 0 where
  pub sent : List Sending
  pub shown : List ℕ × Bool
  pub log_then : Option (List Exchange)
  pub w_then : Option (List ℕ)
  pub told : shown_from stop 0 sent ≡ Ok shown
  pub logged : AreLogged log log_then (exchanges stop sent)
  pub printed : Appends w w_then shown.0
  pub ends : EndsBehind stop known sent shown.1 log_then log' w_then w' result
