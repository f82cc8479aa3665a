-- The lines that a run takes.
use Rattle.std.proofs.Common.{◌≡◌, ◌+◌, ◌++◌, ◌∷◌, [], ℕ, List, Bool, true, false, ◌&&◌, cond, length, arith}
use Rattle.std.proofs.Common.{ap, refl, sym, ◌∙◌, append-nil}
use Rattle.desk_core.specs.Machine.{State}
use Rattle.desk_app.specs.declared.options.LineOptions.{LineOptions}
use Rattle.desk_app.specs.declared.options.RunOptions.{RunOptions}
use Rattle.desk_app.specs.Runs.{all_fine, is_fine, line_after, run_after, taken, up_to_first, AreTaken}

first_true : (a b : Bool) → (a && b) ≡ true → a ≡ true
first_true true b h = refl
first_true false b h = h

second_true : (a b : Bool) → (a && b) ≡ true → b ≡ true
second_true true b h = h
second_true false b h = absurd (cc)

-- lines that are fine are taken all, and then as many of the others as would be, were they alone
past_fine : (options : LineOptions) (s : State) (n : ℕ) (done more : List (List ℕ)) → all_fine options s n done ≡ true
    → up_to_first options s n (done ++ more)
    ≡ done ++ up_to_first options (run_after options s n done) (n + length done) more
past_fine options s n [] more h = let e : n ≡ n + 0 = omega arith in ap (λ m. up_to_first options s m more) e
past_fine options s n (l ∷ ls) more h =
    let fine = first_true (is_fine options s n l) (all_fine options (line_after options s n l) (n + 1) ls) h in
    let others = second_true (is_fine options s n l) (all_fine options (line_after options s n l) (n + 1) ls) h in
    let e : n + 1 + length ls ≡ n + length (l ∷ ls) = omega arith in
    ap (λ b. cond b (l ∷ up_to_first options (line_after options s n l) (n + 1) (ls ++ more)) (l ∷ [])) fine
    ∙ ap (λ ks. l ∷ ks)
    (past_fine options (line_after options s n l) (n + 1) ls more others
    ∙ ap (λ m. ls ++ up_to_first options (run_after options s n (l ∷ ls)) m more) e)

one_taken : (options : LineOptions) (s : State) (n : ℕ) (l : List ℕ) → up_to_first options s n (l ∷ []) ≡ l ∷ []
one_taken options s n l = either (is_fine options s n l)
  where
    either : (b : Bool) → cond b (l ∷ []) (l ∷ []) ≡ l ∷ []
    either true = refl
    either false = refl

-- behind lines that are fine one more is taken
pub more_taken : (options : RunOptions) (s : State) (done : List (List ℕ)) (l : List ℕ)
    → (options.stop ≡ true → all_fine options.lines s 1 done ≡ true) → AreTaken options s (done ++ l ∷ [])
more_taken options s done l fine = either options.stop fine
  where
    either : (b : Bool) → (b ≡ true → all_fine options.lines s 1 done ≡ true)
        → cond b (up_to_first options.lines s 1 (done ++ l ∷ [])) (done ++ l ∷ []) ≡ done ++ l ∷ []
    either false fine = refl
    either true fine =
        past_fine options.lines s 1 done (l ∷ []) (fine refl)
        ∙ ap (λ ks. done ++ ks) (one_taken options.lines (run_after options.lines s 1 done) (1 + length done) l)

pub none_taken : (options : RunOptions) (s : State) → AreTaken options s []
none_taken options s = either options.stop
  where
    either : (b : Bool) → cond b (up_to_first options.lines s 1 []) [] ≡ []
    either false = refl
    either true = refl

alone : (l : List ℕ) (ls ks : List (List ℕ)) → l ∷ [] ≡ l ∷ (ls ++ ks) → l ∷ [] ≡ l ∷ ls
alone l [] ks h = refl
alone l (m ∷ ls) ks h = absurd (cc)

-- of lines that are all taken, so are the first
first_taken : (options : LineOptions) (s : State) (n : ℕ) (ls ks : List (List ℕ))
    → up_to_first options s n (ls ++ ks) ≡ ls ++ ks → up_to_first options s n ls ≡ ls
first_taken options s n [] ks h = refl
first_taken options s n (l ∷ ls) ks h =
    either (is_fine options s n l) (first_taken options (line_after options s n l) (n + 1) ls ks) h
  where
    either : (b : Bool) {these those : List (List ℕ)} → (these ≡ ls ++ ks → those ≡ ls)
        → cond b (l ∷ these) (l ∷ []) ≡ l ∷ (ls ++ ks) → cond b (l ∷ those) (l ∷ []) ≡ l ∷ ls
    either true step e = ap (λ ms. l ∷ ms) (step (cc))
    either false step e = alone l ls ks e

pub taken_before : (options : RunOptions) (s : State) (ls ks : List (List ℕ)) → AreTaken options s (ls ++ ks)
    → AreTaken options s ls
taken_before options s ls ks h = either options.stop h
  where
    either : (b : Bool) → cond b (up_to_first options.lines s 1 (ls ++ ks)) (ls ++ ks) ≡ ls ++ ks
        → cond b (up_to_first options.lines s 1 ls) ls ≡ ls
    either false h = refl
    either true h = first_taken options.lines s 1 ls ks h

-- where one of them isn't fine, none behind them is taken
none_past : (options : LineOptions) (s : State) (n : ℕ) (ls ks : List (List ℕ)) → up_to_first options s n ls ≡ ls
    → all_fine options s n ls ≡ false → up_to_first options s n (ls ++ ks) ≡ ls
none_past options s n [] ks h unfine = absurd (cc)
none_past options s n (l ∷ ls) ks h unfine =
    either (is_fine options s n l) (none_past options (line_after options s n l) (n + 1) ls ks) h unfine
  where
    either : (b : Bool) {these those : List (List ℕ)} {others : Bool} → (these ≡ ls → others ≡ false → those ≡ ls)
        → cond b (l ∷ these) (l ∷ []) ≡ l ∷ ls → (b && others) ≡ false → cond b (l ∷ those) (l ∷ []) ≡ l ∷ ls
    either true step e rest = ap (λ ms. l ∷ ms) (step (cc) rest)
    either false step e rest = e

pub taken_to_stop : (options : RunOptions) (s : State) (ls ks : List (List ℕ)) → options.stop ≡ true
    → AreTaken options s ls → all_fine options.lines s 1 ls ≡ false → taken options s (ls ++ ks) ≡ ls
taken_to_stop options s ls ks stops h unfine = either options.stop stops h
  where
    either : (b : Bool) → b ≡ true → cond b (up_to_first options.lines s 1 ls) ls ≡ ls
        → cond b (up_to_first options.lines s 1 (ls ++ ks)) (ls ++ ks) ≡ ls
    either false stops h = absurd (cc)
    either true stops h = none_past options.lines s 1 ls ks h unfine

-- ---- those that are taken of lines

first_again : (options : LineOptions) (s : State) (n : ℕ) (ls : List (List ℕ))
    → up_to_first options s n (up_to_first options s n ls) ≡ up_to_first options s n ls
first_again options s n [] = refl
first_again options s n (l ∷ ls) =
    either (is_fine options s n l) refl (first_again options (line_after options s n l) (n + 1) ls)
  where
    either : (b : Bool) → is_fine options s n l ≡ b → {these : List (List ℕ)}
        → up_to_first options (line_after options s n l) (n + 1) these ≡ these
        → up_to_first options s n (cond b (l ∷ these) (l ∷ [])) ≡ cond b (l ∷ these) (l ∷ [])
    either true fine {these} again =
        ap (λ b. cond b (l ∷ up_to_first options (line_after options s n l) (n + 1) these) (l ∷ [])) fine
        ∙ ap (λ ks. l ∷ ks) again
    either false fine {these} again = one_taken options s n l

pub taken_again : (options : RunOptions) (s : State) (ls : List (List ℕ)) → AreTaken options s (taken options s ls)
taken_again options s ls = either options.stop
  where
    either : (b : Bool) → cond b (up_to_first options.lines s 1 (cond b (up_to_first options.lines s 1 ls) ls))
        (cond b (up_to_first options.lines s 1 ls) ls) ≡ cond b (up_to_first options.lines s 1 ls) ls
    either false = refl
    either true = first_again options.lines s 1 ls

begins_with_first : (options : LineOptions) (s : State) (n : ℕ) (ls : List (List ℕ))
    → (rest : List (List ℕ)) × (ls ≡ up_to_first options s n ls ++ rest)
begins_with_first options s n [] = ([], refl)
begins_with_first options s n (l ∷ ls) =
    either (is_fine options s n l) (up_to_first options (line_after options s n l) (n + 1) ls)
    (begins_with_first options (line_after options s n l) (n + 1) ls)
  where
    either : (b : Bool) (these : List (List ℕ)) → (rest : List (List ℕ)) × (ls ≡ these ++ rest)
        → (rest : List (List ℕ)) × (l ∷ ls ≡ cond b (l ∷ these) (l ∷ []) ++ rest)
    either true these (rest, e) = (rest, ap (λ ks. l ∷ ks) e)
    either false these (rest, e) = (ls, refl)

pub begins_with_taken : (options : RunOptions) (s : State) (ls : List (List ℕ))
    → (rest : List (List ℕ)) × (ls ≡ taken options s ls ++ rest)
begins_with_taken options s ls = either options.stop
  where
    either : (b : Bool) → (rest : List (List ℕ)) × (ls ≡ cond b (up_to_first options.lines s 1 ls) ls ++ rest)
    either false = ([], sym (append-nil ls))
    either true = begins_with_first options.lines s 1 ls
