-- Lines change the state by the requests that they ask for.
use Rattle.std.proofs.Common.{◌≡◌, ◌+◌, ◌++◌, ◌∷◌, [], ℕ, List, Bool, true, false, ap, refl, sym, ◌∙◌}
use Rattle.std.specs.Prelude.{Option, Some, None, Result, Ok, Err, if◌then◌else◌}
use Rattle.desk_core.specs.Machine.{State, run, step}
use Rattle.desk_core.specs.declared.command.Request.{Request as Req}
use Rattle.desk_wire.specs.Reading.{line}
use Rattle.desk_wire.specs.declared.fault.What.{What}
use Rattle.desk_wire.specs.declared.read.Wish.{Wish}
use Rattle.desk_wire.specs.declared.read.Wish.TheVariants.{Request, Report}
use Rattle.report_core.specs.Lines.{Lines}
use Rattle.report_core.specs.Reports.{report_lines}
use Rattle.desk_app.specs.Journal.{journalled}
use Rattle.desk_app.specs.LineRequests.{asked_by, asked_in, plain, requests_in, LinesAloneAsk, LinesAreRequests}
use Rattle.desk_app.specs.declared.options.LineOptions.{LineOptions}
use Rattle.desk_app.specs.Runs.{by_report, by_wish, is_blank, line_after, line_step, naming, run_after}
use Rattle.desk_app.proofs.Journalling.{unjournalled}
use Rattle.desk_app.proofs.Stepping.{outcome_state}

one_by_one : (s : State) (xs ys : List Req) → (run s (xs ++ ys)).0 ≡ (run (run s xs).0 ys).0
one_by_one s [] ys = refl
one_by_one s (x ∷ xs) ys = one_by_one (step s x).0 xs ys

reports_nothing : (s : State) (lines : Option Lines) → (by_report s lines).0 ≡ s
reports_nothing s None = refl
reports_nothing s (Some lines) = refl

after_wish : (journal : Bool) (s : State) (n : ℕ) (wish : Result Wish What)
    → (by_wish journal s n wish).0 ≡ (run s (asked_by journal s wish)).0
after_wish journal s n (Ok (Request request)) = outcome_state (step s (journalled journal s request))
after_wish journal s n (Ok (Report name of)) = reports_nothing s (report_lines name of s)
after_wish journal s n (Err what) = refl

after_line : (options : LineOptions) (s : State) (n : ℕ) (l : List ℕ)
    → line_after options s n l ≡ (run s (asked_in options s l)).0
unfolding line_step
after_line options s n l = cases (is_blank l)
  where
    cases : (b : Bool)
        → (if b then (s, [], true) else by_wish options.journal s n (line (naming options.names s) l)).0
        ≡ (run s (if b then [] else asked_by options.journal s (line (naming options.names s) l))).0
    cases true = refl
    cases false = after_wish options.journal s n (line (naming options.names s) l)

pub lines_ask : LinesAreRequests
lines_ask options s n [] = refl
lines_ask options s n (l ∷ ls) =
    let first = asked_in options s l in
    ap (λ t. run_after options t (n + 1) ls) (after_line options s n l)
    ∙ lines_ask options (run s first).0 (n + 1) ls
    ∙ sym (one_by_one s first (requests_in options (run s first).0 ls))

-- without names and keys a line asks for the same in any state
same_wish : (s t : State) (wish : Result Wish What) → asked_by false s wish ≡ asked_by false t wish
same_wish s t (Ok (Request request)) = ap (λ r. r ∷ []) (unjournalled s request ∙ sym (unjournalled t request))
same_wish s t (Ok (Report name of)) = refl
same_wish s t (Err what) = refl

same_asked : (s t : State) (l : List ℕ) → asked_in plain s l ≡ asked_in plain t l
same_asked s t l = cases (is_blank l)
  where
    cases : (b : Bool) → (if b then [] else asked_by false s (line None l)) ≡ (if b then [] else asked_by false t (line None l))
    cases true = refl
    cases false = same_wish s t (line None l)

pub lines_alone : LinesAloneAsk
lines_alone s t [] = refl
lines_alone s t (l ∷ ls) =
    ap (λ v. v ++ requests_in plain (run s (asked_in plain s l)).0 ls) (same_asked s t l)
    ∙ ap (λ v. asked_in plain t l ++ v)
    (lines_alone (run s (asked_in plain s l)).0 (run t (asked_in plain t l)).0 ls)
