-- A line, of which as much is here as is held.
use Rattle.std.proofs.Common.{◌≡◌, ◌+◌, ◌≤◌, ℕ, Bool, true, false, List, [], ◌∷◌, length, nat_le}
use Rattle.std.proofs.Common.{arith, ap, sym, refl, ◌∙◌, length-take, take, inl, inr}
use Rattle.std.specs.Prelude.{IsSome, Option, Some, None, Ok, Err}
use Rattle.desk_core.specs.Machine.{State, Outcome, step}
use Rattle.desk_core.specs.Naming.{Naming}
use Rattle.desk_core.specs.declared.command.Request.{Request as Req}
use Rattle.desk_wire.specs.declared.read.Wish.TheVariants.{Request}
use Rattle.desk_wire.specs.declared.fault.What.TheVariants.{TooLong}
use Rattle.desk_app.specs.Cuts.{held}
use Rattle.desk_app.specs.Journal.{journalled}
use Rattle.desk_wire.specs.Reading.{line}
use Rattle.desk_core.specs.declared.end.Stop.{Stop}
use Rattle.desk_core.specs.declared.end.Stop.TheVariants.{ReadFailed, WriteFailed, Memory, Store}
use Rattle.desk_app.specs.declared.options.LineOptions.{LineOptions}
use Rattle.desk_app.specs.Runs.{by_outcome, is_blank, line_after, line_step, naming, CutLine, CutRequest}
use Rattle.desk_app.proofs.Cutting.{held_short}
use Rattle.desk_app.proofs.Journalling.{keeps_key}

pub blank_step : (options : LineOptions) (s : State) (n : ℕ) (l : List ℕ) → is_blank l ≡ true → line_step options s n l ≡
    (s, [], true)
unfolding line_step
blank_step options s n l e = rw e refl

blank-held : (l : List ℕ) → is_blank (held l) ≡ is_blank l
unfolding held
blank-held [] = refl
blank-held (b ∷ []) = refl
blank-held (b ∷ c ∷ bs) = refl

line_long : (o : Option Naming) (l : List ℕ) → nat_le (length l) 65536 ≡ false → line o l ≡ Err TooLong
line_long o l e = rw e refl

pub long_take : (m : ℕ) (l : List ℕ) → nat_le (length l) m ≡ false → nat_le (length (take (m + 1) l)) m ≡ false
long_take m l e = grind (arith, length-take (m + 1) l)

long-held : (l : List ℕ) → nat_le (length l) 65536 ≡ false → nat_le (length (held l)) 65536 ≡ false
unfolding held
long-held l e = long_take 65536 l e

pub short_length : (m : ℕ) (l : List ℕ) → nat_le (length l) m ≡ true → length l ≤ m + 1
short_length m l e = grind arith

line-held : (o : Option Naming) (l : List ℕ) → line o (held l) ≡ line o l
line-held o l = cases (nat_le (length l) 65536) refl
  where
    cases : (b : Bool) → nat_le (length l) 65536 ≡ b → line o (held l) ≡ line o l
    cases true e = ap (line o) (held_short l (short_length 65536 l e))
    cases false e = line_long o (held l) (long-held l e) ∙ sym (line_long o l e)

pub step-held : (options : LineOptions) (s : State) (n : ℕ) (l : List ℕ) → line_step options s n (held l) ≡ line_step options s n l
unfolding line_step
step-held options s n l = rw (blank-held l, line-held (naming options.names s) l) refl

-- ---- a line that asks for a request

pub outcome_state : (p : State × Outcome) → (by_outcome p).0 ≡ p.0
outcome_state (s, Ok answer) = refl
outcome_state (s, Err refusal) = refl

pub request_step : (options : LineOptions) (s : State) (n : ℕ) (l : List ℕ) (r : Req) → is_blank l ≡ false → line
    (naming options.names s) l ≡ Ok (Request r)
    → line_step options s n l ≡ by_outcome (step s (journalled options.journal s r))
unfolding line_step
request_step options s n l r filled is = rw (filled, is) refl

pub request_after : (options : LineOptions) (s : State) (n : ℕ) (l : List ℕ) (r : Req) → is_blank l ≡ false → line
    (naming options.names s) l ≡ Ok (Request r)
    → line_after options s n l ≡ (step s (journalled options.journal s r)).0
request_after options s n l r filled is =
    ap (λ t. t.0) (request_step options s n l r filled is) ∙ outcome_state (step s (journalled options.journal s r))

-- a request that has a key is done as it is
keeps_its_key : (journal : Bool) (s : State) (r : Req) → IsSome r.key → journalled journal s r ≡ r
keeps_its_key journal s r keyed = by r.key refl keyed
  where
    by : (key : Option (List ℕ)) → r.key ≡ key → IsSome key → journalled journal s r ≡ r
    by None e some = cc
    by (Some key) e some = keeps_key journal s r key e

pub keyed_step : (options : LineOptions) (s : State) (n : ℕ) (l : List ℕ) (r : Req) → is_blank l ≡ false
    → line (naming options.names s) l ≡ Ok (Request r) → IsSome r.key → line_step options s n l ≡ by_outcome (step s r)
keyed_step options s n l r filled is keyed =
    request_step options s n l r filled is ∙ ap (λ q. by_outcome (step s q)) (keeps_its_key options.journal s r keyed)

pub keyed_after : (options : LineOptions) (s : State) (n : ℕ) (l : List ℕ) (r : Req) → is_blank l ≡ false
    → line (naming options.names s) l ≡ Ok (Request r) → IsSome r.key → line_after options s n l ≡ (step s r).0
keyed_after options s n l r filled is keyed =
    ap (λ t. t.0) (keyed_step options s n l r filled is keyed) ∙ outcome_state (step s r)

pub cut_line : (options : LineOptions) (stop : Stop) (s s' : State) (n : ℕ) (l : List ℕ) (r : Req) → line_after options s n l ≡
    (step s r).0
    → CutRequest stop s s' r → CutLine options stop s s' n l
cut_line options ReadFailed s s' n l r e h = absurd h
cut_line options WriteFailed s s' n l r e h = absurd h
cut_line options Memory s s' n l r e h = elim h [ inl same ↦ inl same | inr after ↦ inr (after ∙ sym e) ]
cut_line options Store s s' n l r e h = h
