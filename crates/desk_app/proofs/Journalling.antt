-- The keys of the journal are new, and all that they add is a kept answer.
use Rattle.std.proofs.Common.{◌≡◌, ◌∙◌, ◌⊎◌, inl, inr, ◌+◌, ◌-◌, ◌<◌, ◌≤◌, ◌^◌, ℕ, zero, suc, Bool, true, false, ◌&&◌, cond}
use Rattle.std.proofs.Common.{List, [], ◌∷◌, ◌++◌, length, Option, Some, None, is_some, Ok, Err, decimal, pos, ◌%◌}
use Rattle.std.proofs.Common.{refl, sym, ap, arith, nat_lt, nat_le, length-append}
use Rattle.std.specs.Prelude.{option_and_then}
use Rattle.std.specs.FinMap as table
use Rattle.std.specs.FinMap.{empty_of_len, get-empty, get-remove, len-remove}
use Rattle.std.specs.List.{list_all}
use Rattle.std.specs.Str.Parse.{digits_value}
use Rattle.std.proofs.lemmas.Bool.Decides.{nat_tests}
use Rattle.std.proofs.lemmas.Fmt.{decimal_by_steps_wide, decimal_is_IsNumeral_wide, length-decimal-le_wide}
use Rattle.std.proofs.lemmas.List.{append_cancel_left}
use Rattle.std.proofs.lemmas.List.Folds.{list_all-append}
use Rattle.jiff_core.proofs.CalendarLemmas.{days_in_month_bounds}
use Rattle.word_core.specs.Checks.{first}
use Rattle.word_core.specs.Day.{CivilDay, IsInUse, day_text, two_digits}
use Rattle.sheet_core.specs.Sheet.{Table, key_cmp}
use Rattle.word_core.specs.declared.answer.Answer.{Answer}
use Rattle.word_core.specs.declared.refusal.Refusal.{Refusal}
use Rattle.word_core.specs.declared.refusal.Refusal.TheVariants.{KeyTaken}
use Rattle.sheet_core.proofs.Keys.{key_eq-other, keys_total}
use Rattle.desk_core.specs.CommandText.{command_text}
use Rattle.desk_core.specs.Key.{is_key, is_visible}
use Rattle.desk_core.specs.Machine.{State, Outcome, answer_of, answer_of_same, by_check, by_repeat, checks, effect}
use Rattle.desk_core.specs.Machine.{is_other, kept_for, step, step_anew, with_answer}
use Rattle.desk_core.specs.declared.command.Request.{Request}
use Rattle.desk_core.specs.declared.kept.Kept.{Kept}
use Rattle.desk_app.specs.Journal.{free_from, given_key, journal_key, journal_number, journalled, key_in, IsOfUse}
use Rattle.desk_app.specs.Journal.{JournalKeepsAnswersAlone, JournalKeysAreNew, JournalLeavesOthers}

-- ---- the keys of a day

decimal-injective : (m n : ℕ) → m < 10 ^ 64 → n < 10 ^ 64 → decimal m ≡ decimal n → m ≡ n
decimal-injective m n hm hn e =
    sym (decimal_is_IsNumeral_wide m hm).1 ∙ ap (digits_value 10) e ∙ (decimal_is_IsNumeral_wide n hn).1

-- keys of different numbers differ
keys_apart : (day : CivilDay) (m n : ℕ) → m < n → n < 10 ^ 64 → journal_key day n ≡ journal_key day m → ⊥
unfolding journal_key
keys_apart day m n before small e =
    let tails : (47 ∷ decimal n) ≡ 47 ∷ decimal m =
    append_cancel_left (day_text day) (47 ∷ decimal n) (47 ∷ decimal m) e in
    let same : decimal n ≡ decimal m = cc in
    let one : n ≡ m = decimal-injective n m small (omega arith) same in
    omega arith

-- ---- among the keys of more numbers than answers are kept, one is free

-- an answer is kept under the keys of so many numbers from this one on
abbrev AreTaken : Table Kept → CivilDay → ℕ → ℕ → Type 0
AreTaken answers day n zero = Unit {0}
AreTaken answers day n (suc c) =
    (is_some (table.get answers (journal_key day n)) ≡ true) × AreTaken answers day (n + 1) c

-- so it is without that of a number before them
taken_still : (answers : Table Kept) (day : CivilDay) (k n c : ℕ) → k < n → n + c < 10 ^ 64
    → AreTaken answers day n c → AreTaken (table.remove answers (journal_key day k)) day n c
taken_still answers day k n zero before small h = tt
taken_still answers day k n (suc c) before small (here, more) =
    let apart = key_eq-other (journal_key day n) (journal_key day k) (keys_apart day k n before (omega arith)) in (
      ap is_some
          (get-remove keys_total answers (journal_key day k) (journal_key day n)
          ∙ ap (λ b. cond b None (table.get answers (journal_key day n))) apart)
          ∙ here,
      taken_still answers day k (n + 1) c (omega arith) (omega arith) more,
    )

-- where one is, some are kept
some_kept : (answers : Table Kept) (key : List ℕ) → is_some (table.get answers key) ≡ true → 0 < table.len answers
some_kept answers key here = by (table.len answers) refl
  where
    by : (n : ℕ) → table.len answers ≡ n → 0 < n
    by zero e =
        let none : is_some (table.get answers key) ≡ false =
        ap (λ (t : Table Kept). is_some (table.get t key)) (empty_of_len answers e) ∙ ap is_some (get-empty key_cmp key) in
        absurd (cc)
    by (suc n) e = omega arith

-- so many answers are kept
crowded : (answers : Table Kept) (day : CivilDay) (n c : ℕ) → n + c < 10 ^ 64 → AreTaken answers day n c
    → c ≤ table.len answers
crowded answers day n zero small h = omega arith
crowded answers day n (suc c) small (here, more) =
    let others = table.remove answers (journal_key day n) in
    let rest : c ≤ table.len others =
    crowded others day (n + 1) c (omega arith)
    (taken_still answers day n (n + 1) c (omega arith) (omega arith) more) in
    let one : table.len others ≡ table.len answers - 1 =
    len-remove keys_total answers (journal_key day n)
    ∙ ap (λ b. cond b (table.len answers - 1) (table.len answers)) here in
    let some = some_kept answers (journal_key day n) here in
    omega arith

free_or_taken : (answers : Table Kept) (day : CivilDay) (n k : ℕ)
    → (is_some (table.get answers (journal_key day (free_from answers day n k))) ≡ false)
    ⊎ AreTaken answers day n (suc k)
free_or_taken answers day n zero = by (is_some (table.get answers (journal_key day n))) refl
  where
    by : (b : Bool) → is_some (table.get answers (journal_key day n)) ≡ b
        → (is_some (table.get answers (journal_key day n)) ≡ false) ⊎ AreTaken answers day n 1
    by true e = inr (e, tt)
    by false e = inl e
free_or_taken answers day n (suc k) =
    by (is_some (table.get answers (journal_key day n))) refl (free_or_taken answers day (n + 1) k)
  where
    next : ℕ
    next = free_from answers day (n + 1) k

    by : (b : Bool) → is_some (table.get answers (journal_key day n)) ≡ b
        → (is_some (table.get answers (journal_key day (free_from answers day (n + 1) k))) ≡ false)
        ⊎ AreTaken answers day (n + 1) (suc k)
        → (is_some (table.get answers (journal_key day (cond b (free_from answers day (n + 1) k) n))) ≡ false)
        ⊎ AreTaken answers day n (suc (suc k))
    by true e (inl free) = inl free
    by true e (inr taken) = inr (e, taken)
    by false e rest = inl e

-- ---- the look-ups

-- under the key of a number an answer is kept, and so the next one is tried
pub next_free : (answers : Table Kept) (day : CivilDay) (n n' k k' : ℕ)
    → is_some (table.get answers (journal_key day n)) ≡ true → n' ≡ n + 1 → k ≡ suc k'
    → free_from answers day n k ≡ free_from answers day n' k'
next_free answers day n n' k k' here next steps =
    ap (free_from answers day n) steps
    ∙ ap (λ b. cond b (free_from answers day (n + 1) k') n) here
    ∙ ap (λ m. free_from answers day m k') (sym next)

none_of : {X : Type 0} (o : Option X) → is_some o ≡ false → o ≡ None
none_of None e = refl
none_of (Some x) e = absurd (cc)

key_free : (s : State) (day : CivilDay) → table.len s.answers < 2 ^ 64 → table.get s.answers (key_in s day) ≡ None
unfolding journal_number
key_free s day small =
    let count = table.len s.answers in
    none_of (table.get s.answers (journal_key day (free_from s.answers day (count + 1) count)))
    (elim (free_or_taken s.answers day (count + 1) count) [
      | inl free ↦ free
      | inr taken ↦ absurd
          (let many : suc count ≤ table.len s.answers =
          crowded s.answers day (count + 1) (suc count) (omega arith) taken in
          omega arith)
    ])

-- ---- it is a key

record Fits (text : List ℕ) (most : ℕ) : Type 0 where
  few : length text ≤ most
  visible : list_all is_visible text ≡ true

both : (a b : Bool) → a ≡ true → b ≡ true → (a && b) ≡ true
both a b p q = ap (λ v. v && b) p ∙ q

one_visible : (n : ℕ) → n < 10 → list_all is_visible ((48 + n) ∷ []) ≡ true
one_visible n h = grind (arith, nat_tests)

digits-visible : (n : ℕ) → n < 10 ^ 64 → list_all is_visible (decimal n) ≡ true
digits-visible n small =
    decimal_by_steps_wide (λ k ds. list_all is_visible ds ≡ true) (λ k few. one_visible k few)
    (λ k ds many front. list_all-append is_visible ds ((48 + k % 10) ∷ [])
    ∙ both _ _ front (one_visible (k % 10) (omega arith))) n small

fits-decimal : (n k : ℕ) → 0 < k → n < 10 ^ k → n < 10 ^ 64 → Fits (decimal n) k
fits-decimal n k some few small = record { few = length-decimal-le_wide k n some few small; visible = digits-visible n small }

fits-two : (n : ℕ) → n < 100 → Fits (two_digits n) 3
fits-two n few = by (nat_lt n 10)
  where
    digits : Fits (decimal n) 2
    digits = fits-decimal n 2 (omega arith) (omega arith) (omega arith)

    by : (b : Bool) → Fits (cond b (48 ∷ decimal n) (decimal n)) 3
    by true = record { few = omega (arith, digits.few); visible = digits.visible }
    by false = record { few = omega (arith, digits.few); visible = digits.visible }

fits-behind : (front text : List ℕ) (b m n : ℕ) → Fits front m → is_visible b ≡ true → Fits text n
    → Fits (front ++ b ∷ text) (m + n + 1)
fits-behind front text b m n f seen t = record {
  few = omega (arith, f.few, t.few, length-append front (b ∷ text));
  visible = list_all-append is_visible front (b ∷ text) ∙ both _ _ f.visible (both _ _ seen t.visible);
}

fits-key : (front text : List ℕ) → Fits (front ++ 47 ∷ text) 80 → is_key (front ++ 47 ∷ text) ≡ true
fits-key front text f =
    let long : 0 < length (front ++ 47 ∷ text) = omega (arith, length-append front (47 ∷ text)) in
    let some : nat_lt 0 (length (front ++ 47 ∷ text)) ≡ true = grind (arith, nat_tests) in
    let most : nat_le (length (front ++ 47 ∷ text)) 80 ≡ true = grind (arith, nat_tests, f.few) in
    both _ _ (both _ _ some most) f.visible

fewer : (text : List ℕ) (m n : ℕ) → m ≤ n → Fits text m → Fits text n
fewer text m n h f = record { few = omega (arith, f.few); visible = f.visible }

key_fits : (day : CivilDay) (number : ℕ) → IsInUse day.year day.month day.day → number < 2 ^ 66
    → is_key (journal_key day number) ≡ true
unfolding journal_key
key_fits day number held small =
    let day_few : day.day < 100 = omega (arith, held.day_to, (days_in_month_bounds (pos day.year) day.month).0) in
    let year = fits-decimal day.year 4 (omega arith) (omega (arith, held.ends)) (omega (arith, held.ends)) in
    let month = fits-two day.month (omega (arith, held.month_to)) in
    let in_month = fits-two day.day day_few in
    let digits = fits-decimal number 20 (omega arith) (omega arith) (omega arith) in
    let front = decimal day.year ++ 45 ∷ two_digits day.month in
    let text = fits-behind front (two_digits day.day) 45 8 3
    (fits-behind (decimal day.year) (two_digits day.month) 45 4 3 year refl month) refl in_month in
    fits-key (day_text day) (decimal number)
    (fewer (day_text day ++ 47 ∷ decimal number) 33 80 (omega arith)
    (fits-behind (day_text day) (decimal number) 47 12 20 text refl digits))

free_bound : (answers : Table Kept) (day : CivilDay) (n k : ℕ) → free_from answers day n k ≤ n + k
free_bound answers day n zero = omega arith
free_bound answers day n (suc k) = by (is_some (table.get answers (journal_key day n))) (free_bound answers day (n + 1) k)
  where
    by : (b : Bool) → free_from answers day (n + 1) k ≤ n + 1 + k
        → cond b (free_from answers day (n + 1) k) n ≤ n + suc k
    by true h = omega arith
    by false h = omega arith

key_fit : (s : State) (day : CivilDay) → table.len s.answers < 2 ^ 64 → IsOfUse day → is_key (key_in s day) ≡ true
unfolding journal_number
key_fit s day small held =
    let count = table.len s.answers in
    let bound = free_bound s.answers day (count + 1) count in
    key_fits day (free_from s.answers day (count + 1) count) held (omega arith)

pub keys_are_new : JournalKeysAreNew
keys_are_new = record { free = key_free; fit = key_fit }

-- ---- all that a new key adds is a kept answer

-- a request under whose key nothing is kept, or that has none, is done
done_anew : (s : State) (r : Request) → kept_for r s ≡ None
    → step s r ≡ by_check (first (checks s r.day r.command)) s r (effect s r.day r.command)
done_anew s r none =
    let after = effect s r.day r.command in
    ap (λ o. by_repeat (answer_of_same (command_text r.command) o) s (step_anew s r)) none
    ∙ ap (λ o. by_check (first ((is_other (command_text r.command) o, KeyTaken) ∷ checks s r.day r.command)) s r after)
    none

module _ (s : State) (r : Request) (key : List ℕ) (none : r.key ≡ None) (free : table.get s.answers key ≡ None) where
  abbrev keyed : Request
  keyed = record r { key = Some key }

  abbrev after : State
  after = effect s r.day r.command

  abbrev text : List ℕ
  text = command_text r.command

  abbrev why : Option Refusal
  why = first (checks s r.day r.command)

  unkeyed_is : step s r ≡ by_check why s r after
  unkeyed_is = done_anew s r (ap (option_and_then (λ k. table.get s.answers k)) none)

  keyed_is : step s keyed ≡ by_check why s keyed after
  keyed_is = done_anew s keyed free

  same_outcome : (o : Option Refusal) → (by_check o s keyed after).1 ≡ (by_check o s r after).1
  same_outcome None = refl
  same_outcome (Some refusal) = refl

  same_answer : (step s keyed).1 ≡ (step s r).1
  same_answer =
      ap (λ (p : State × Outcome). p.1) keyed_is
      ∙ same_outcome why
      ∙ sym (ap (λ (p : State × Outcome). p.1) unkeyed_is)

  kept_beside : (o : Option Refusal) (answer : Answer) → (by_check o s r after).1 ≡ Ok answer
      → (by_check o s keyed after).0 ≡ with_answer (Some key) text answer (by_check o s r after).0
  kept_beside (Some refusal) answer e = absurd (cc)
  kept_beside None answer e =
      let same : answer_of s after ≡ answer = cc in
      ap (λ a. with_answer (Some key) text a after) same
      ∙ ap (λ k. with_answer (Some key) text answer (with_answer k text (answer_of s after) after)) (sym none)

  kept_too : (answer : Answer) → (step s r).1 ≡ Ok answer
      → (step s keyed).0 ≡ with_answer (Some key) text answer (step s r).0
  kept_too answer e =
      ap (λ (p : State × Outcome). p.0) keyed_is
      ∙ kept_beside why answer (sym (ap (λ (p : State × Outcome). p.1) unkeyed_is) ∙ e)
      ∙ ap (λ (p : State × Outcome). with_answer (Some key) text answer p.0) (sym unkeyed_is)

  left : (o : Option Refusal) (refusal : Refusal) → (by_check o s r after).1 ≡ Err refusal
      → (by_check o s keyed after).0 ≡ s
  left (Some other) refusal e = refl
  left None refusal e = absurd (cc)

  left_alone : (refusal : Refusal) → (step s r).1 ≡ Err refusal → (step s keyed).0 ≡ s
  left_alone refusal e =
      ap (λ (p : State × Outcome). p.0) keyed_is
      ∙ left why refusal (sym (ap (λ (p : State × Outcome). p.1) unkeyed_is) ∙ e)

-- the request that a request without a key becomes
gets_key : (s : State) (r : Request) → table.len s.answers < 2 ^ 64 → IsOfUse r.day → r.key ≡ None
    → journalled true s r ≡ record r { key = Some (key_in s r.day) }
unfolding journalled
gets_key s r few held none =
    ap (λ k. record r { key = given_key k s r.day }) none
    ∙ ap (λ b. record r { key = cond b (Some (key_in s r.day)) None }) (key_fit s r.day few held)

pub keeps_answers_alone : JournalKeepsAnswersAlone
keeps_answers_alone = record {
  answers = λ s r few held none.
      ap (λ q. (step s q).1) (gets_key s r few held none)
      ∙ same_answer s r (key_in s r.day) none (key_free s r.day few);
  kept = λ s r answer few held none e.
      ap (λ q. (step s q).0) (gets_key s r few held none)
      ∙ kept_too s r (key_in s r.day) none (key_free s r.day few) answer e;
  refused = λ s r refusal few held none e.
      ap (λ q. (step s q).0) (gets_key s r few held none)
      ∙ left_alone s r (key_in s r.day) none (key_free s r.day few) refusal e;
}

-- ---- the others

pub keeps_key : (journal : Bool) (s : State) (r : Request) (key : List ℕ) → r.key ≡ Some key → journalled journal s r ≡ r
unfolding journalled
keeps_key false s r key e = refl
keeps_key true s r key e =
    ap (λ k. record r { key = given_key k s r.day }) e ∙ ap (λ k. record r { key = k }) (sym e)

pub unjournalled : (s : State) (r : Request) → journalled false s r ≡ r
unfolding journalled
unjournalled s r = refl

pub leaves_others : JournalLeavesOthers
leaves_others = record { keyed = keeps_key; unasked = unjournalled }
