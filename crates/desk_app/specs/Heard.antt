-- What is printed of what a service answers, and whether all of it is fine.
use Rattle.std.specs.Prelude.{◌==◌, ◌||◌, ◌&&◌, ◌+◌, ◌-◌, ◌++◌, ◌^◌, not, nat_lt, nat_eq, ℕ, Bool, true, false, List, [], ◌∷◌}
use Rattle.std.specs.Prelude.{length, take, drop, codes, decimal, Option, Some, None, Result, Ok, Err, if◌then◌else◌}
use Rattle.std.specs.List.{ends_with, starts_with}
use Rattle.desk_http.specs.Targets.{number_of, place_in}
use Rattle.desk_http.specs.declared.answer.Answer.{Answer}
use Rattle.desk_http.specs.declared.answer.Unheard.{Unheard}
use Rattle.desk_http.specs.declared.answer.Unheard.TheVariants as unheard
use Rattle.desk_http.specs.declared.question.Question.{Question}
use Rattle.desk_http.specs.declared.question.Question.TheVariants as question
use Rattle.desk_app.specs.Runs.{lines_of}
use Rattle.desk_app.specs.declared.heard.Shown.{Shown}
use Rattle.desk_app.specs.declared.heard.Trouble.{Trouble}
use Rattle.desk_app.specs.declared.heard.Trouble.TheVariants.{Foreign, Cut, Failed, NoToken, TooLong, Store, Memory}

-- ---- one line

-- what stands behind the first tab, or all where there is none: the answer of a line, or of a row whose number stands
-- before it
abbrev pub behind_place : List ℕ → Option ℕ → List ℕ
behind_place line None = line
behind_place line (Some i) = drop (i + 1) line

abbrev pub is_wrong : List ℕ → Bool
is_wrong answer = starts_with nat_eq answer (codes "{\"refused\":") || starts_with nat_eq answer (codes "{\"fault\":")

-- nothing was refused or faulty
unfoldable pub is_fine : List ℕ → Bool
is_fine line = not (is_wrong (behind_place line (place_in 9 line)))

-- what stands behind the last such byte, or, where there is none, this
unfoldable pub behind_last : ℕ → List ℕ → List ℕ → List ℕ
behind_last c [] behind = behind
behind_last c (b ∷ bs) behind = behind_last c bs (if b == c then bs else behind)

-- a number with so many more, and a brace
abbrev pub raised : ℕ → ℕ → Option (List ℕ)
raised number before =
    if nat_lt (number + before) (2 ^ 64) then Some (decimal (number + before) ++ codes "}") else None

-- the line with another end in the place of this one
abbrev pub with_raised : List ℕ → List ℕ → Option (List ℕ) → List ℕ
with_raised line end None = line
with_raised line end (Some other) = take (length line - length end) line ++ other

abbrev pub with_number : ℕ → List ℕ → List ℕ → Option ℕ → List ℕ
with_number before line end None = line
with_number before line end (Some number) = with_raised line end (raised number before)

-- the line whose end tells a number and then a brace, with so many more
abbrev pub with_end : ℕ → List ℕ → List ℕ → List ℕ
with_end before line end = with_number before line end (number_of (take (length end - 1) end))

-- a line that tells a fault tells the number of the line that has it: so many lines stand before those that were sent
unfoldable pub moved : ℕ → List ℕ → List ℕ
moved before line =
    if not (before == 0) && starts_with nat_eq line (codes "{\"fault\":")
    then with_end before line (behind_last 58 line line) else line

-- ---- many lines

abbrev pub moved_lines : ℕ → List (List ℕ) → List ℕ
moved_lines before [] = []
moved_lines before (l ∷ ls) = moved before l ++ 10 ∷ moved_lines before ls

abbrev pub are_fine : List (List ℕ) → Bool
are_fine [] = true
are_fine (l ∷ ls) = is_fine l && are_fine ls

-- ---- an answer

abbrev pub shown_lines : ℕ → List ℕ → List ℕ × Bool
shown_lines before body = (moved_lines before (lines_of body), are_fine (lines_of body))

-- a dump that came whole ends so
abbrev pub whole_dump : List ℕ → Result (List ℕ × Bool) Trouble
whole_dump body = if ends_with nat_eq body (codes "COMMIT;\n") then Ok (body, true) else Err Cut

-- all is well
abbrev pub of_answered : Question → ℕ → List ℕ → Result (List ℕ × Bool) Trouble
of_answered (question.Lines said) before body = Ok (shown_lines before body)
of_answered (question.Import loose kind document day) before body = Ok (shown_lines before body)
of_answered (question.Report name number) before body = Ok (body, true)
of_answered (question.Export table) before body = Ok (body, true)
of_answered (question.Show list word said) before body = Ok (body, true)
of_answered question.Dump before body = whole_dump body
of_answered question.Stop before body = Ok ([], true)

-- what was sent is none of what it is to be, and nothing is done
abbrev pub of_faulty : Question → List ℕ → Result (List ℕ × Bool) Trouble
of_faulty (question.Lines said) body = Ok (body, false)
of_faulty (question.Import loose kind document day) body = Ok (body, false)
of_faulty (question.Report name number) body = Err Foreign
of_faulty (question.Export table) body = Err Foreign
of_faulty (question.Show list word said) body = Err Foreign
of_faulty question.Dump body = Err Foreign
of_faulty question.Stop body = Err Foreign

-- it is refused; why a word says no row isn't printed
abbrev pub of_refused : List ℕ → List ℕ × Bool
of_refused body = (if starts_with nat_eq body (codes "{\"fault\":") then [] else body, false)

abbrev pub of_status : Question → ℕ → ℕ → List ℕ → Result (List ℕ × Bool) Trouble
of_status question before status body =
    if status == 200 then of_answered question before body
    else (if status == 400 then of_faulty question body
    else (if status == 409 then Ok (of_refused body)
    else (if status == 401 then Err NoToken
    else (if status == 413 || status == 431 then Err TooLong
    else (if status == 500 then Err Store
    else (if status == 503 then Err Memory else Err Foreign))))))

abbrev pub of_unheard : Unheard → Trouble
of_unheard unheard.Foreign = Foreign
of_unheard unheard.Cut = Cut
of_unheard unheard.Failed = Failed
of_unheard unheard.Memory = Memory

-- what is printed of what was heard, and whether all of it is fine; so many lines were sent before
abbrev pub shown_of : Question → ℕ → Result Answer Unheard → Result (List ℕ × Bool) Trouble
shown_of question before (Ok answer) = of_status question before answer.status answer.body.items
shown_of question before (Err why) = Err (of_unheard why)

-- ---- the same as code has it

abbrev pub shown_view : Result Shown Trouble → Result (List ℕ × Bool) Trouble
shown_view (Ok shown) = Ok (shown.text.items, shown.fine)
shown_view (Err why) = Err why
