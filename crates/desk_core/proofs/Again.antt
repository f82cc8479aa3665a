-- A row of kept answers stays for good, so a repeat finds it.
use Rattle.std.proofs.Common.{◌≡◌, ℕ, Bool, true, false, List, [], ◌∷◌, ◌++◌}
use Rattle.std.proofs.Common.{Option, Some, None, refl, sym, ap, ◌∙◌, subst}
use Rattle.std.specs.Prelude.{Ok, Err, not, if◌then◌else◌, option_and_then, IsSome}
use Rattle.std.specs.FinMap as table
use Rattle.std.specs.Str.{bytes_eq}
use Rattle.std.proofs.lemmas.Slice.Eq.{bytes_eq-Decides}
use Rattle.word_core.specs.declared.answer.Answer.{Answer}
use Rattle.word_core.specs.declared.refusal.Refusal.{Refusal}
use Rattle.word_core.specs.declared.refusal.Refusal.TheVariants.{KeyTaken}
use Rattle.sheet_core.proofs.RowLemmas.{get-insert_new, get-insert_other}
use Rattle.desk_core.specs.declared.command.Request.{Request}
use Rattle.desk_core.specs.declared.kept.Kept.{Kept}
use Rattle.desk_core.specs.CommandText.{command_text}
use Rattle.desk_core.specs.Machine.{State, Outcome, answer_of, answer_of_same, by_check, by_repeat, check}
use Rattle.desk_core.specs.Machine.{effect, is_other, kept_for, repeated, run, step, step_anew, with_answer}
use Rattle.desk_core.specs.Repeats.{AreAccepted, KeptKeysChangeNothing, LaterRepeatsChangeNothing, RepeatsCanBeLeftOut}
use Rattle.desk_core.specs.Repeats.{RepeatsChangeNothing, SendingAgainEndsAlike}
use Rattle.desk_core.proofs.Steps.{effect-answers, passes_key, step-repeated}

-- ---- what is kept under a key

nothing-kept : (o : Option Kept) (text : List ℕ) → answer_of_same text o ≡ None → is_other text o ≡ false → o ≡ None
nothing-kept None text e f = refl
nothing-kept (Some row) text e f = go (bytes_eq row.command text) e f
  where
    go : (b : Bool) → (if b then Some row.answer else None) ≡ None → not b ≡ false → Some row ≡ None
    go true e f = cc
    go false e f = cc

same-bytes : (xs ys : List ℕ) → bytes_eq xs ys ≡ true → xs ≡ ys
same-bytes xs ys e = (bytes_eq-Decides xs ys).0 e

bytes-same : (xs ys : List ℕ) → xs ≡ ys → bytes_eq xs ys ≡ true
bytes-same xs ys e = (bytes_eq-Decides xs ys).1 e

-- a row that is kept for a request
pub record KeptRow (s : State) (key text : List ℕ) (answer : Answer) : Type 0 where
  pub row : Kept
  pub is : table.get s.answers key ≡ Some row
  pub command : row.command ≡ text
  pub told : row.answer ≡ answer

-- a row stays beside an answer that is kept under another key
beside : (s after : State) (key : List ℕ) (row : Kept) (own : Option (List ℕ)) (text : List ℕ) (a : Answer)
    → after.answers ≡ s.answers
    → option_and_then (λ k. table.get s.answers k) own ≡ None → table.get s.answers key ≡ Some row
    → table.get (with_answer own text a after).answers key ≡ Some row
beside s after key row None text a same none is = ap (λ t. table.get t key) same ∙ is
beside s after key row (Some q) text a same none is =
    get-insert_other after.answers q (record { word = q; command = text; answer = a }) key (λ e. other e)
    ∙ ap (λ t. table.get t key) same
    ∙ is
  where
    other : key ≡ q → ⊥
    other e =
        absurd
        (let there : ◌≡◌ {A = Option Kept} None (Some row) = sym none ∙ ap (λ k. table.get s.answers k) (sym e) ∙ is in
        cc)

pub step-keeps : (s : State) (r : Request) (key : List ℕ) (row : Kept) → table.get s.answers key ≡ Some row
    → table.get (step s r).0.answers key ≡ Some row
step-keeps s r key row is = again (repeated r s) refl
  where
    after : State
    after = effect s r.day r.command

    anew : (o : Option Refusal) → check s r ≡ o → repeated r s ≡ None
        → table.get (by_check o s r after).0.answers key ≡ Some row
    anew (Some x) e f = is
    anew None e f =
        beside s after key row r.key (command_text r.command) (answer_of s after) (effect-answers s r.day r.command)
        (nothing-kept (kept_for r s) (command_text r.command) f (passes_key s r e)) is

    again : (o : Option Answer) → repeated r s ≡ o → table.get (by_repeat o s (step_anew s r)).0.answers key ≡ Some row
    again (Some a) e = is
    again None e = anew (check s r) refl e

run-keeps : (s : State) (rs : List Request) (key : List ℕ) (row : Kept) → table.get s.answers key ≡ Some row
    → table.get (run s rs).0.answers key ≡ Some row
run-keeps s [] key row is = is
run-keeps s (r ∷ rs) key row is = run-keeps (step s r).0 rs key row (step-keeps s r key row is)

-- ---- an accepted request is kept

-- where an answer is repeated, it is that of a row with the command
repeated-row : (o : Option Kept) (text : List ℕ) (a : Answer) → answer_of_same text o ≡ Some a
    → (row : Kept) × (o ≡ Some row) × (row.command ≡ text) × (row.answer ≡ a)
repeated-row None text a e = cc
repeated-row (Some row) text a e = go (bytes_eq row.command text) refl e
  where
    go : (b : Bool) → bytes_eq row.command text ≡ b → (if b then Some row.answer else None) ≡ Some a
        → (r : Kept) × (Some row ≡ Some r) × (r.command ≡ text) × (r.answer ≡ a)
    go true same e = (row, refl, same-bytes row.command text same, (let told : row.answer ≡ a = cc in told))
    go false other e = cc

new-row : (after : State) (own : Option (List ℕ)) (key text : List ℕ) (a : Answer) → own ≡ Some key
    → KeptRow (with_answer own text a after) key text a
new-row after own key text a e = subst (λ k. KeptRow (with_answer k text a after) key text a) (sym e) (record {
  row = record { word = key; command = text; answer = a };
  is = get-insert_new after.answers key (record { word = key; command = text; answer = a });
  command = refl;
  told = refl;
})

accepted-row : (s : State) (r : Request) (key : List ℕ) (a : Answer) → r.key ≡ Some key → (step s r).1 ≡ Ok a
    → KeptRow (step s r).0 key (command_text r.command) a
accepted-row s r key a named ok = again (repeated r s) refl ok
  where
    after : State
    after = effect s r.day r.command

    anew : (o : Option Refusal) → (by_check o s r after).1 ≡ Ok a
        → KeptRow (by_check o s r after).0 key (command_text r.command) a
    anew (Some x) e = cc
    anew None e =
        let same : answer_of s after ≡ a = cc in
        subst (λ b.
        KeptRow (with_answer r.key (command_text r.command) (answer_of s after) after) key (command_text r.command) b)
        same
        (new-row after r.key key (command_text r.command) (answer_of s after) named)

    again : (o : Option Answer) → repeated r s ≡ o → (by_repeat o s (step_anew s r)).1 ≡ Ok a
        → KeptRow (by_repeat o s (step_anew s r)).0 key (command_text r.command) a
    again (Some b) e ok =
        let found = repeated-row (kept_for r s) (command_text r.command) b e in
        let same : b ≡ a = cc in
        let here : kept_for r s ≡ table.get s.answers key =
        ap (λ k. option_and_then (λ key. table.get s.answers key) k) named in
        record { row = found.0; is = sym here ∙ found.1; command = found.2; told = found.3 ∙ same }
    again None e ok = anew (check s r) ok

-- a request that is kept gets its answer again
kept-again : (s : State) (again : Request) (key text : List ℕ) (a : Answer) → again.key ≡ Some key
    → command_text again.command ≡ text → KeptRow s key text a → step s again ≡ (s, Ok a)
kept-again s again key text a named same kept =
    let here : kept_for again s ≡ Some kept.row =
    ap (λ k. option_and_then (λ key. table.get s.answers key) k) named ∙ kept.is in
    step-repeated s again kept.row here
    (bytes-same kept.row.command (command_text again.command) (kept.command ∙ sym same)) ∙ ap (λ b. told b) kept.told
  where
    told : Answer → State × Outcome
    told b = (s, Ok b)

later : (s : State) (rs : List Request) (key text : List ℕ) (a : Answer) → KeptRow s key text a
    → KeptRow (run s rs).0 key text a
later s rs key text a kept =
    record { row = kept.row; is = run-keeps s rs key kept.row kept.is; command = kept.command; told = kept.told }

-- ---- runs

run-append : (s : State) (xs ys : List Request)
    → run s (xs ++ ys) ≡ ((run (run s xs).0 ys).0, (run s xs).1 ++ (run (run s xs).0 ys).1)
run-append s [] ys = refl
run-append s (x ∷ xs) ys = let rest = run-append (step s x).0 xs ys in λ i. ((rest i).0, (step s x).1 ∷ (rest i).1)

named-key : (o : Option (List ℕ)) → IsSome o → (key : List ℕ) × (o ≡ Some key)
named-key None h = absurd (let e : false ≡ true = h in cc)
named-key (Some key) h = (key, refl)

pub later_repeat : LaterRepeatsChangeNothing
later_repeat s before between r again a keyed repeat ok =
    let there = (run s before).0 in
    let key = named-key r.key keyed in
    let kept = accepted-row there r key.0 a key.1 ok in
    let all : KeptRow (run s (before ++ r ∷ between)).0 key.0 (command_text r.command) a =
    subst (λ (t : State). KeptRow t key.0 (command_text r.command) a)
    (sym (ap (λ p. p.0) (run-append s before (r ∷ between))))
    (later (step there r).0 between key.0 (command_text r.command) a kept) in
    kept-again (run s (before ++ r ∷ between)).0 again key.0 (command_text r.command) a (repeat.key ∙ key.1)
    repeat.command all

pub left_out : RepeatsCanBeLeftOut
left_out s before between after r again a keyed repeat ok =
    let first = before ++ r ∷ between in
    let then_ = (run s first).0 in
    let same : step then_ again ≡ (then_, Ok a) = later_repeat s before between r again a keyed repeat ok in (
      run-append s first after,
      run-append s first (again ∷ after)
          ∙ (λ i. ((run (same i).0 after).0, (run s first).1 ++ (same i).1 ∷ (run (same i).0 after).1)),
    )

accepted-head : (o : Outcome) (os : List Outcome) → AreAccepted (o ∷ os) → (a : Answer) × (o ≡ Ok a) × AreAccepted os
accepted-head (Ok a) os h = (a, refl, h)
accepted-head (Err x) os h = absurd h

pub repeats : RepeatsChangeNothing
repeats s [] keyed ok = refl
repeats s (r ∷ rs) keyed ok =
    let next = (step s r).0 in
    let last = (run next rs).0 in
    let head = accepted-head (step s r).1 (run next rs).1 ok in
    let key = named-key r.key keyed.0 in
    let kept = later next rs key.0 (command_text r.command) head.0 (accepted-row s r key.0 head.0 key.1 head.1) in
    let same : step last r ≡ (last, Ok head.0) =
    kept-again last r key.0 (command_text r.command) head.0 key.1 refl kept in
    let rest : run last rs ≡ run next rs = repeats next rs keyed.1 head.2 in
    (λ i. ((run (same i).0 rs).0, (same i).1 ∷ (run (same i).0 rs).1))
    ∙ (λ i. ((rest i).0, Ok head.0 ∷ (rest i).1))
    ∙ (λ i. (last, sym head.1 i ∷ (run next rs).1))

pub sending_again : SendingAgainEndsAlike
sending_again s done rest keyed ok =
    let there = (run s done).0 in
    let same : run there done ≡ run s done = repeats s done keyed ok in
    run-append there done rest
    ∙ (λ i. ((run (same i).0 rest).0, (same i).1 ++ (run (same i).0 rest).1))
    ∙ sym (run-append s done rest)

-- ---- a key that is taken

pub kept_key : KeptKeysChangeNothing
kept_key s r kept is = go (bytes_eq kept.command (command_text r.command)) refl
  where
    go : (b : Bool) → bytes_eq kept.command (command_text r.command) ≡ b
        → step s r ≡ (s, if b then Ok kept.answer else Err KeyTaken)
    go true same = step-repeated s r kept is same
    go false other = rw (is, other) refl
