-- The journal: each request that has no key gets one before it is done, so its answer is kept.
use Rattle.std.specs.Prelude.{◌≡◌, ◌<◌, ◌+◌, ◌^◌, ◌++◌, ◌∷◌, decimal, is_some, if◌then◌else◌, ℕ, zero, suc, Bool, true}
use Rattle.std.specs.Prelude.{false, List, Option, Some, None, Ok, Err}
use Rattle.std.specs.FinMap as table
use Rattle.word_core.specs.Day.{CivilDay, IsInUse, day_text}
use Rattle.sheet_core.specs.Sheet.{Table}
use Rattle.word_core.specs.declared.answer.Answer.{Answer}
use Rattle.word_core.specs.declared.refusal.Refusal.{Refusal}
use Rattle.desk_core.specs.CommandText.{command_text}
use Rattle.desk_core.specs.Key.{is_key}
use Rattle.desk_core.specs.Machine.{State, step, with_answer}
use Rattle.desk_core.specs.declared.command.Request.{Request}
use Rattle.desk_core.specs.declared.kept.Kept.{Kept}

-- DAY/N
unfoldable pub journal_key : CivilDay → ℕ → List ℕ
journal_key day number = day_text day ++ 47 ∷ decimal number

-- the first number from this one on under whose key of that day no answer is kept; after so many under which one is, the
-- number behind them
abbrev pub free_from : Table Kept → CivilDay → ℕ → ℕ → ℕ
free_from answers day number zero = number
free_from answers day number (suc steps) =
    if is_some (table.get answers (journal_key day number)) then free_from answers day (number + 1) steps else number

-- the number of kept answers plus 1, or the least above it that is free
unfoldable pub journal_number : State → CivilDay → ℕ
journal_number s day = free_from s.answers day (table.len s.answers + 1) (table.len s.answers)

-- the key that a request of that day gets
abbrev pub key_in : State → CivilDay → List ℕ
key_in s day = journal_key day (journal_number s day)

-- a text that is a key, as that is on each day that is in use
abbrev pub fit_key : List ℕ → Option (List ℕ)
fit_key text = if is_key text then Some text else None

-- the key that a request has, or gets
abbrev pub given_key : Option (List ℕ) → State → CivilDay → Option (List ℕ)
given_key None s day = fit_key (key_in s day)
given_key (Some key) s day = Some key

-- with the journal a request has a key: its own, or the one that it gets
unfoldable pub journalled : Bool → State → Request → Request
journalled false s r = r
journalled true s r = record r { key = given_key r.key s r.day }

-- ---- what comes of it, in books that keep fewer than 2 ^ 64 answers, as all do that fit a machine

-- of a day from 2000-01-01 to 2099-12-31, as each request's is
abbrev pub IsOfUse : CivilDay → Type 0
IsOfUse day = IsInUse day.year day.month day.day

-- no answer is kept under the key that a request gets, and it is a key
pub record JournalKeysAreNew : Type 0 where
  pub free : (s : State) (day : CivilDay) → table.len s.answers < 2 ^ 64 → table.get s.answers (key_in s day) ≡ None
  pub fit : (s : State) (day : CivilDay) → table.len s.answers < 2 ^ 64 → IsOfUse day → is_key (key_in s day) ≡ true

-- A request without a key is answered as it would be without the journal, or refused as it would be, and does what it would
-- do: all that there is more is its answer, which is kept under the key that it gets. Where it is refused nothing is.
pub record JournalKeepsAnswersAlone : Type 0 where
  pub answers : (s : State) (r : Request) → table.len s.answers < 2 ^ 64 → IsOfUse r.day → r.key ≡ None
      → (step s (journalled true s r)).1 ≡ (step s r).1
  pub kept : (s : State) (r : Request) (answer : Answer) → table.len s.answers < 2 ^ 64 → IsOfUse r.day → r.key ≡ None
      → (step s r).1 ≡ Ok answer
      → (step s (journalled true s r)).0
      ≡ with_answer (Some (key_in s r.day)) (command_text r.command) answer (step s r).0
  pub refused : (s : State) (r : Request) (refusal : Refusal) → table.len s.answers < 2 ^ 64 → IsOfUse r.day
      → r.key ≡ None → (step s r).1 ≡ Err refusal → (step s (journalled true s r)).0 ≡ s

-- a request that has a key stays as it is, and so does each without the journal
pub record JournalLeavesOthers : Type 0 where
  pub keyed : (journal : Bool) (s : State) (r : Request) (key : List ℕ) → r.key ≡ Some key → journalled journal s r ≡ r
  pub unasked : (s : State) (r : Request) → journalled false s r ≡ r
