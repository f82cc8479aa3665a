-- Lines that are sent again.
use Rattle.std.proofs.Common.{◌≡◌, ◌+◌, ℕ, Bool, true, false, ◌&&◌, List, [], ◌∷◌, ◌++◌, length}
use Rattle.std.proofs.Common.{ap, sym, refl, subst, ◌∙◌, true≢false, inl, inr}
use Rattle.std.specs.Prelude.{IsSome, Ok, Err}
use Rattle.word_core.specs.declared.answer.Answer.{Answer}
use Rattle.desk_core.specs.Machine.{State, Outcome, run, step}
use Rattle.desk_core.specs.Repeats.{LaterRepeatsChangeNothing}
use Rattle.desk_core.specs.declared.command.Request.{Request as Req}
use Rattle.desk_wire.specs.Writing.{answer_text}
use Rattle.desk_app.specs.LinesAgain.{AskUnderKeys, LinesSentAgainEndAlike}
use Rattle.desk_app.specs.declared.options.LineOptions.{LineOptions}
use Rattle.desk_app.specs.Runs.{all_fine, by_outcome, is_blank, is_fine, line_after, line_out, line_step, run_after, run_out}
use Rattle.desk_app.proofs.Running.{run_after-append, run_out-append}
use Rattle.desk_app.proofs.Stepping.{keyed_after, keyed_step}

-- what the lines ask for
abbrev requests_in : (options : LineOptions) (later s : State) (ls : List (List ℕ)) → AskUnderKeys options later s ls → List Req
requests_in options later s [] h = []
requests_in options later s (l ∷ ls) (inl (blank, h)) = requests_in options later s ls h
requests_in options later s (l ∷ ls) (inr (asks, h)) =
    asks.request ∷ requests_in options later (step s asks.request).0 ls h

-- a blank line gives nothing
pub blank_step : (options : LineOptions) (s : State) (n : ℕ) (l : List ℕ) → is_blank l ≡ true → line_step options s n l ≡ (s, [], true)
unfolding line_step
blank_step options s n l blank = rw blank refl

after_lines : (options : LineOptions) (later s : State) (n : ℕ) (ls : List (List ℕ)) (h : AskUnderKeys options later s ls)
    → run_after options s n ls ≡ (run s (requests_in options later s ls h)).0
after_lines options later s n [] h = refl
after_lines options later s n (l ∷ ls) (inl (blank, h)) =
    ap (λ v. run_after options v.0 (n + 1) ls) (blank_step options s n l blank) ∙ after_lines options later s (n + 1) ls h
after_lines options later s n (l ∷ ls) (inr (asks, h)) =
    ap (λ t. run_after options t (n + 1) ls)
    (keyed_after options s n l asks.request asks.filled asks.read asks.keyed)
    ∙ after_lines options later (step s asks.request).0 (n + 1) ls h

-- ---- a line of which nothing was refused

both_true : (a b : Bool) → (a && b) ≡ true → (a ≡ true) × (b ≡ true)
both_true true b h = (refl, h)
both_true false b h = absurd (true≢false (sym h))

answer_of : (p : State × Outcome) → (by_outcome p).2 ≡ true → (a : Answer) × (p.1 ≡ Ok a)
answer_of (s, Ok answer) fine = (answer, refl)
answer_of (s, Err refusal) fine = absurd (true≢false (sym fine))

answer_told : (p : State × Outcome) (a : Answer) → p.1 ≡ Ok a → (by_outcome p).1 ≡ answer_text a
answer_told (s, Ok answer) a e = let same : answer ≡ a = cc in ap answer_text same
answer_told (s, Err refusal) a e = absurd (cc)

-- ---- sent again

module _ (law : LaterRepeatsChangeNothing) (options : LineOptions) (there : State) where
  again_one : (t : State) (r : Req) (rs : List Req) (a : Answer) → IsSome r.key → (step t r).1 ≡ Ok a
      → (run t (r ∷ rs)).0 ≡ there → step there r ≡ (there, Ok a)
  again_one t r rs a keyed is at =
      subst (λ v. step v r ≡ (v, Ok a)) at (law t [] rs r r a keyed (record { key = refl; command = refl }) is)

  -- each of the lines changes nothing, and is answered as before
  still : (t : State) (n m : ℕ) (ls : List (List ℕ)) (h : AskUnderKeys options there t ls)
      → (run t (requests_in options there t ls h)).0 ≡ there → all_fine options t n ls ≡ true
      → (run_after options there m ls ≡ there) × (run_out options there m ls ≡ run_out options t n ls)
  still t n m [] h at fine = (refl, refl)
  still t n m (l ∷ ls) (inl (blank, h)) at fine =
      let first = blank_step options t n l blank in
      let second = blank_step options there m l blank in
      let rest =
      still t (n + 1) (m + 1) ls h at (sym (ap (λ v. v.2 && all_fine options v.0 (n + 1) ls) first) ∙ fine) in (
        ap (λ v. run_after options v.0 (m + 1) ls) second ∙ rest.0,
        ap (λ v. v.1 ++ run_out options v.0 (m + 1) ls) second
            ∙ rest.1
            ∙ sym (ap (λ v. v.1 ++ run_out options v.0 (n + 1) ls) first),
      )
  still t n m (l ∷ ls) (inr (asks, h)) at fine =
      let r = asks.request in
      let both = both_true (is_fine options t n l) (all_fine options (line_after options t n l) (n + 1) ls) fine in
      let first : line_step options t n l ≡ by_outcome (step t r) =
      keyed_step options t n l r asks.filled asks.read asks.keyed in
      let next : line_after options t n l ≡ (step t r).0 =
      keyed_after options t n l r asks.filled asks.read asks.keyed in
      let answer = answer_of (step t r) (sym (ap (λ v. v.2) first) ∙ both.0) in
      let told : line_out options t n l ≡ answer_text answer.0 =
      ap (λ v. v.1) first ∙ answer_told (step t r) answer.0 answer.1 in
      let same = again_one t r (requests_in options there (step t r).0 ls h) answer.0 asks.keyed answer.1 at in
      let second : line_step options there m l ≡ by_outcome (there, Ok answer.0) =
      keyed_step options there m l r asks.filled asks.read_again asks.keyed ∙ ap by_outcome same in
      let rest =
      still (step t r).0 (n + 1) (m + 1) ls h at (sym (ap (λ v. all_fine options v (n + 1) ls) next) ∙ both.1) in (
        ap (λ v. run_after options v.0 (m + 1) ls) second ∙ rest.0,
        ap (λ v. v.1 ++ run_out options v.0 (m + 1) ls) second
            ∙ ap (λ v. answer_text answer.0 ++ v) rest.1
            ∙ sym (ap (λ v. v ++ run_out options (line_after options t n l) (n + 1) ls) told
            ∙ ap (λ v. answer_text answer.0 ++ run_out options v (n + 1) ls) next),
      )

pub lines_end_alike : LaterRepeatsChangeNothing → LinesSentAgainEndAlike
lines_end_alike law options s done rest asks fine =
    let there = run_after options s 1 done in
    let both =
    still law options there s 1 1 done asks (sym (after_lines options there s 1 done asks)) fine in (
      run_after-append options there 1 done rest
          ∙ ap (λ v. run_after options v (1 + length done) rest) both.0
          ∙ sym (run_after-append options s 1 done rest),
      run_out-append options there 1 done rest
          ∙ ap (λ v. v ++ run_out options (run_after options there 1 done) (1 + length done) rest) both.1
          ∙ ap (λ v. run_out options s 1 done ++ run_out options v (1 + length done) rest) both.0
          ∙ sym (run_out-append options s 1 done rest),
    )
