-- A service that is asked, over plain variables.
use Rattle.std.proofs.Common.{◌≡◌, ◌<◌, ℕ, Bool, true, false, List, [], length, ap, ap₂, subst, sym, refl, inl, inr, ◌∙◌}
use Rattle.std.specs.Prelude.{◌⊎◌, ◌&&◌, not, Option, Some, None, Result, Ok, Err}
use Rattle.std.specs.Result.{IsErrAnd}
use Rattle.desk_http.specs.Asking.{is_done}
use Rattle.desk_http.specs.declared.question.Question.{Question}
use Rattle.desk_core.specs.declared.end.RunEnd.{RunEnd}
use Rattle.desk_core.specs.declared.end.RunEnd.TheVariants as end
use Rattle.desk_app.specs.Asked.{AsksAndPrints, IsOfInput}
use Rattle.desk_app.specs.declared.heard.Trouble.{Trouble}
use Rattle.desk_app.specs.declared.heard.Trouble.TheVariants.{Memory, ReadFailed, TooLong}
use Rattle.desk_app.proofs.Asking.{ends_input, going_none}
use Rattle.desk_cli.specs.declared.at_words.Asked.{Asked}
use Rattle.desk_cli.specs.declared.at_words.AskedLines.{AskedLines}
use Rattle.invdesk.specs.Asks.{AsksBy, AsksOnce, AsksService, IsAskedSo, end_of_asking, question_of, sent_as_they_come}
use Rattle.invdesk.specs.Prints.{ends_quietly}

pub unread : (question : Question) (r : Result Bool Trouble) (why : Trouble) → (why ≡ ReadFailed) ⊎ (why ≡ Memory)
    → IsErrAnd r (λ d. d ≡ why) → AsksOnce question r
unread question (Ok fine) why is h = absurd h
unread question (Err d) why is h = elim is [
  | inl e ↦ inl (inl (ap (λ (v : Trouble). Err v) (h ∙ e)))
  | inr e ↦ inl (inr (inl (ap (λ (v : Trouble). Err v) (h ∙ e))))
]

pub unsent : {A B : Type 0} (wanted question : Question) (body : List ℕ) (r : Result Bool Trouble) → question ≡ wanted
    → ((1048576 < length body) × (r ≡ Err TooLong) × A × B) ⊎ AsksAndPrints question 0 body None None None None r
    → AsksOnce wanted r
unsent wanted question body r same h = elim h [
  | inl long ↦ inl (inr (inr long.1))
  | inr asked ↦ inr (body, subst (λ q. AsksAndPrints q 0 body None None None None r) same asked)
]

pub asked_same : (wanted question : Question) (r : Result Bool Trouble) → question ≡ wanted → AsksOnce question r
    → AsksOnce wanted r
asked_same wanted question r same h = subst (λ q. AsksOnce q r) same h

-- by whether it is sent as it comes
pub asked_by : (it : Asked) (coming : Option AskedLines) (r : Result Bool Trouble) → sent_as_they_come it ≡ coming
    → AsksBy coming it r → IsAskedSo it r
asked_by it coming r is h = subst (λ v. AsksBy v it r) (sym is) h

-- ---- how the program ends

-- it may end before anything is asked
never_by : (coming : Option AskedLines) (it : Asked) (why : Trouble) → IsOfInput why → AsksBy coming it (Err why)
never_by (Some how) it why input =
    ends_input how.stop None None None None None None 0 true why (going_none how.stop None [] None None refl) input
never_by None it why input = unread (question_of it) (Err why) why input refl

never_so : (it : Asked) (why : Trouble) → IsOfInput why → IsAskedSo it (Err why)
never_so it why input = never_by (sent_as_they_come it) it why input

pub never_asked : (it : Asked) (ended : RunEnd) → (ended ≡ end.ReadFailed) ⊎ (ended ≡ end.Memory) → AsksService it ended
never_asked it ended (inl e) = (false, Err ReadFailed, never_so it ReadFailed (inl refl), e)
never_asked it ended (inr e) = (false, Err Memory, never_so it Memory (inr refl), e)

pub asked_so : (it : Asked) (is_left quiet : Bool) (r : Result Bool Trouble) (told ended : RunEnd) → IsAskedSo it r
    → told ≡ end_of_asking r → quiet ≡ (is_left && not (is_done (question_of it))) → ended ≡ ends_quietly quiet told
    → AsksService it ended
asked_so it is_left quiet r told ended so is when e = (is_left, r, so, e ∙ ap₂ ends_quietly when is)
