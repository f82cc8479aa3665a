-- A run of requests goes on by one.
use Rattle.std.proofs.Common.{◌≡◌, ◌↔◌, ◌⊎◌, inl, inr, Bool, true, false, List, [], ◌∷◌, ◌++◌, length, Option}
use Rattle.std.proofs.Common.{Some, None, Result, Ok, Err, IsSome, is_some, refl, sym, ap, ◌∙◌, subst, arith}
use Rattle.std.specs.Prelude.{IfSome}
use Rattle.sqlite_trees.specs.declared.store.Store.{Ghosts}
use Rattle.sqlite.specs.Held.{state}
use Rattle.sqlite.specs.State.{HasCleanDisk, Survives}
use Rattle.sqlite.specs.Tree.{Trees}
use Rattle.word_core.specs.declared.answer.Answer.{Answer}
use Rattle.desk_core.specs.Machine.{IsAnew, Outcome, State, run, step}
use Rattle.desk_core.specs.ShopView.{state_of}
use Rattle.desk_core.specs.declared.command.Request.{Request}
use Rattle.desk_store.specs.StateTables.{TablesAre}
use Rattle.desk_store.specs.Desks.{IsDesk}
use Rattle.desk_store.specs.declared.desk.Desk.{Desk}
use Rattle.desk_store.specs.Outcomes.{AreLeft, Closes, Tells, answered, stopped_at, told}
use Rattle.desk_store.specs.declared.fault.Fault.{Fault}
use Rattle.desk_store.specs.declared.fault.Fault.TheVariants.{Refused, Memory, Store, Closed}
use Rattle.table_store.specs.declared.fault.Failed.{Failed}

-- ---- the run

head_of : (x y : Outcome) (xs ys : List Outcome) → x ∷ xs ≡ y ∷ ys → x ≡ y
head_of x y xs ys e = cc

tail_of : (x y : Outcome) (xs ys : List Outcome) → x ∷ xs ≡ y ∷ ys → xs ≡ ys
tail_of x y xs ys e = cc

pair_is : (p : State × List Outcome) (t : State) (os : List Outcome) → p.0 ≡ t → p.1 ≡ os → p ≡ (t, os)
pair_is p t os e f = λ i. (e i, f i)

one_step : (s t u : State) (r : Request) (o : Outcome) → s ≡ t → step t r ≡ (u, o) → run s (r ∷ []) ≡ (u, o ∷ [])
one_step s t u r o same is =
    let here = ap (λ (v : State). step v r) same ∙ is in
    pair_is (run s (r ∷ [])) u (o ∷ []) (ap (λ (p : State × Outcome). p.0) here)
    (ap (λ (p : State × Outcome). p.1 ∷ []) here)

one_more : (s t : State) (r : Request) (rs : List Request) (o : Outcome) (os : List Outcome) → (step s r).1 ≡ o
    → run (step s r).0 rs ≡ (t, os) → run s (r ∷ rs) ≡ (t, o ∷ os)
one_more s t r rs o os first rest =
    pair_is (run s (r ∷ rs)) t (o ∷ os) (ap (λ (p : State × List Outcome). p.0) rest)
    (ap (λ (x : Outcome). x ∷ (run (step s r).0 rs).1) first ∙ ap (λ (p : State × List Outcome). o ∷ p.1) rest)

later : (s t : State) (r : Request) (rs : List Request) (o : Outcome) (os : List Outcome) → run s (r ∷ rs) ≡ (t, o ∷ os)
    → run (step s r).0 rs ≡ (t, os)
later s t r rs o os e =
    pair_is (run (step s r).0 rs) t os (ap (λ (p : State × List Outcome). p.0) e)
    (tail_of (step s r).1 o (run (step s r).0 rs).1 os (ap (λ (p : State × List Outcome). p.1) e))

first : (s t : State) (r : Request) (rs : List Request) (o : Outcome) (os : List Outcome) → run s (r ∷ rs) ≡ (t, o ∷ os)
    → (step s r).1 ≡ o
first s t r rs o os e = head_of (step s r).1 o (run (step s r).0 rs).1 os (ap (λ (p : State × List Outcome). p.1) e)

still : (s t u : State) → run s [] ≡ (t, []) → u ≡ t → run s [] ≡ (u, [])
still s t u e same = pair_is (run s []) u [] (ap (λ (p : State × List Outcome). p.0) e ∙ sym same) refl

pub run_push : (s : State) (rs : List Request) (os : List (Result Answer Fault)) (t : State) (r : Request)
    (o : Result Answer Fault) (u : State) → length rs ≡ length os
    → run s (answered rs os) ≡ (t, told os) → Tells t r o u
    → run s (answered (rs ++ r ∷ []) (os ++ o ∷ [])) ≡ (u, told (os ++ o ∷ []))
run_push s [] [] t r (Ok a) u len e d = one_step s t u r (Ok a) (ap (λ (p : State × List Outcome). p.0) e) d
run_push s [] [] t r (Err (Refused x)) u len e d = one_step s t u r (Err x) (ap (λ (p : State × List Outcome). p.0) e) d
run_push s [] [] t r (Err Memory) u len e d = still s t u e d
run_push s [] [] t r (Err Store) u len e d = still s t u e d.0
run_push s [] [] t r (Err Closed) u len e d = still s t u e d
run_push s [] (o1 ∷ os) t r o u len e d = absurd (omega (arith, len))
run_push s (r1 ∷ rs) [] t r o u len e d = absurd (omega (arith, len))
run_push s (r1 ∷ rs) (Err Memory ∷ os) t r o u len e d = run_push s rs os t r o u (omega (arith, len)) e d
run_push s (r1 ∷ rs) (Err Store ∷ os) t r o u len e d = run_push s rs os t r o u (omega (arith, len)) e d
run_push s (r1 ∷ rs) (Err Closed ∷ os) t r o u len e d = run_push s rs os t r o u (omega (arith, len)) e d
run_push s (r1 ∷ rs) (Ok a ∷ os) t r o u len e d =
    one_more s u r1 (answered (rs ++ r ∷ []) (os ++ o ∷ [])) (Ok a) (told (os ++ o ∷ []))
    (first s t r1 (answered rs os) (Ok a) (told os) e)
    (run_push (step s r1).0 rs os t r o u (omega (arith, len)) (later s t r1 (answered rs os) (Ok a) (told os) e) d)
run_push s (r1 ∷ rs) (Err (Refused x) ∷ os) t r o u len e d =
    one_more s u r1 (answered (rs ++ r ∷ []) (os ++ o ∷ [])) (Err x) (told (os ++ o ∷ []))
    (first s t r1 (answered rs os) (Err x) (told os) e)
    (run_push (step s r1).0 rs os t r o u (omega (arith, len)) (later s t r1 (answered rs os) (Err x) (told os) e) d)

-- ---- closing

-- how one call closes a desk
pub record ClosesBy (o : Result Answer Fault) (now after : Bool) : Type 0 where
  pub closed : (o ≡ Err Closed) ↔ (now ≡ true)
  pub store : (after ≡ true) ↔ ((o ≡ Err Store) ⊎ (now ≡ true))

not_true : (b : Bool) → (b ≡ true → ⊥) → b ≡ false
not_true true h = absurd (h refl)
not_true false h = refl

stays_open : (o : Result Answer Fault) (after : Bool) → ClosesBy o false after → (o ≡ Err Store → ⊥) → after ≡ false
stays_open o after h other = not_true after (λ up. elim (h.store.0 up) [ inl is ↦ other is | inr bad ↦ cc ])

one_call : (o : Result Answer Fault) (now after : Bool) → ClosesBy o now after → Closes now (o ∷ []) after
one_call (Err Closed) true after h = h.store.1 (inr refl)
one_call (Err Store) true after h = absurd (let bad = h.closed.1 refl in cc)
one_call (Err Memory) true after h = absurd (let bad = h.closed.1 refl in cc)
one_call (Err (Refused x)) true after h = absurd (let bad = h.closed.1 refl in cc)
one_call (Ok a) true after h = absurd (let bad = h.closed.1 refl in cc)
one_call (Err Closed) false after h = absurd (let bad = h.closed.0 refl in cc)
one_call (Err Store) false after h = h.store.1 (inl refl)
one_call (Err Memory) false after h = stays_open (Err Memory) after h (λ e. cc)
one_call (Err (Refused x)) false after h = stays_open (Err (Refused x)) after h (λ e. cc)
one_call (Ok a) false after h = stays_open (Ok a) after h (λ e. cc)

pub closes_push : (before now after : Bool) (os : List (Result Answer Fault)) (o : Result Answer Fault)
    → Closes before os now → ClosesBy o now after → Closes before (os ++ o ∷ []) after
closes_push before now after [] o h by = subst (λ b. Closes b (o ∷ []) after) h (one_call o now after by)
closes_push true now after (Err Closed ∷ os) o h by = closes_push true now after os o h by
closes_push true now after (Err Store ∷ os) o h by = absurd h
closes_push true now after (Err Memory ∷ os) o h by = absurd h
closes_push true now after (Err (Refused x) ∷ os) o h by = absurd h
closes_push true now after (Ok a ∷ os) o h by = absurd h
closes_push false now after (Err Closed ∷ os) o h by = absurd h
closes_push false now after (Err Store ∷ os) o h by = closes_push true now after os o h by
closes_push false now after (Err Memory ∷ os) o h by = closes_push false now after os o h by
closes_push false now after (Err (Refused x) ∷ os) o h by = closes_push false now after os o h by
closes_push false now after (Ok a ∷ os) o h by = closes_push false now after os o h by

-- what is closed stays closed
stays_shut : (os : List (Result Answer Fault)) (after : Bool) → Closes true os after → after ≡ true
stays_shut [] after h = h
stays_shut (Err Closed ∷ os) after h = stays_shut os after h
stays_shut (Err Store ∷ os) after h = absurd h
stays_shut (Err Memory ∷ os) after h = absurd h
stays_shut (Err (Refused x) ∷ os) after h = absurd h
stays_shut (Ok a ∷ os) after h = absurd h

shut : (os : List (Result Answer Fault)) → Closes true os false → ⊥
shut os h = let bad = stays_shut os false h in cc

-- ---- the request at which it stopped

-- while the desk is open no request has stopped it
none_stopped : (rs : List Request) (os : List (Result Answer Fault)) → Closes false os false → stopped_at rs os ≡ None
none_stopped [] os h = refl
none_stopped (r ∷ rs) [] h = refl
none_stopped (r ∷ rs) (Err Closed ∷ os) h = absurd h
none_stopped (r ∷ rs) (Err Store ∷ os) h = absurd (shut os h)
none_stopped (r ∷ rs) (Err Memory ∷ os) h = none_stopped rs os h
none_stopped (r ∷ rs) (Err (Refused x) ∷ os) h = none_stopped rs os h
none_stopped (r ∷ rs) (Ok a ∷ os) h = none_stopped rs os h

stopped_push : (rs : List Request) (os : List (Result Answer Fault)) (r : Request) (o : Result Answer Fault)
    → length rs ≡ length os → Closes false os false
    → stopped_at (rs ++ r ∷ []) (os ++ o ∷ []) ≡ stopped_at (r ∷ []) (o ∷ [])
stopped_push [] [] r o len h = refl
stopped_push [] (o1 ∷ os) r o len h = absurd (omega (arith, len))
stopped_push (r1 ∷ rs) [] r o len h = absurd (omega (arith, len))
stopped_push (r1 ∷ rs) (Err Closed ∷ os) r o len h = absurd h
stopped_push (r1 ∷ rs) (Err Store ∷ os) r o len h = absurd (shut os h)
stopped_push (r1 ∷ rs) (Err Memory ∷ os) r o len h = stopped_push rs os r o (omega (arith, len)) h
stopped_push (r1 ∷ rs) (Err (Refused x) ∷ os) r o len h = stopped_push rs os r o (omega (arith, len)) h
stopped_push (r1 ∷ rs) (Ok a ∷ os) r o len h = stopped_push rs os r o (omega (arith, len)) h

-- a closed desk's answers stop nothing more
stopped_same : (rs : List Request) (os : List (Result Answer Fault)) (r : Request) → length rs ≡ length os
    → stopped_at (rs ++ r ∷ []) (os ++ Err Closed ∷ []) ≡ stopped_at rs os
stopped_same [] [] r len = refl
stopped_same [] (o1 ∷ os) r len = absurd (omega (arith, len))
stopped_same (r1 ∷ rs) [] r len = absurd (omega (arith, len))
stopped_same (r1 ∷ rs) (Err Store ∷ os) r len = refl
stopped_same (r1 ∷ rs) (Err Closed ∷ os) r len = stopped_same rs os r (omega (arith, len))
stopped_same (r1 ∷ rs) (Err Memory ∷ os) r len = stopped_same rs os r (omega (arith, len))
stopped_same (r1 ∷ rs) (Err (Refused x) ∷ os) r len = stopped_same rs os r (omega (arith, len))
stopped_same (r1 ∷ rs) (Ok a ∷ os) r len = stopped_same rs os r (omega (arith, len))

-- ---- the database fails at a request that the step accepts anew

at_request : (s t : State) (r : Request) (o : Result Answer Fault) → Tells s r o t
    → IfSome (stopped_at (r ∷ []) (o ∷ [])) (IsAnew t)
at_request s t r (Ok a) d = tt
at_request s t r (Err (Refused x)) d = tt
at_request s t r (Err Memory) d = tt
at_request s t r (Err Store) d = subst (λ (u : State). IsAnew u r) (sym d.0) d.1
at_request s t r (Err Closed) d = tt

when_closed : (s t : State) (r : Request) (o : Result Answer Fault) → o ≡ Err Closed → Tells s r o t → t ≡ s
when_closed s t r (Err Closed) e d = d
when_closed s t r (Err Store) e d = cc
when_closed s t r (Err Memory) e d = cc
when_closed s t r (Err (Refused x)) e d = cc
when_closed s t r (Ok a) e d = cc

-- once it has failed no request changes anything
pub stopped_anew : (s t : State) (rs : List Request) (os : List (Result Answer Fault)) (r : Request)
    (o : Result Answer Fault) (before now after : Bool) → length rs ≡ length os → Closes before os now
    → ClosesBy o now after
    → Tells s r o t → IfSome (stopped_at rs os) (IsAnew s)
    → IfSome (stopped_at (rs ++ r ∷ []) (os ++ o ∷ [])) (IsAnew t)
stopped_anew s t [] [] r o before now after len closes by d h = at_request s t r o d
stopped_anew s t [] (o1 ∷ os) r o before now after len closes by d h = absurd (omega (arith, len))
stopped_anew s t (r1 ∷ rs) [] r o before now after len closes by d h = absurd (omega (arith, len))
stopped_anew s t (r1 ∷ rs) (Err Closed ∷ os) r o true now after len closes by d h =
    stopped_anew s t rs os r o true now after (omega (arith, len)) closes by d h
stopped_anew s t (r1 ∷ rs) (Err Closed ∷ os) r o false now after len closes by d h = absurd closes
stopped_anew s t (r1 ∷ rs) (Err Store ∷ os) r o true now after len closes by d h = absurd closes
stopped_anew s t (r1 ∷ rs) (Err Store ∷ os) r o false now after len closes by d h =
    subst (λ (u : State). IsAnew u r1) (sym (when_closed s t r o (by.closed.1 (stays_shut os now closes)) d)) h
stopped_anew s t (r1 ∷ rs) (Err Memory ∷ os) r o true now after len closes by d h = absurd closes
stopped_anew s t (r1 ∷ rs) (Err Memory ∷ os) r o false now after len closes by d h =
    stopped_anew s t rs os r o false now after (omega (arith, len)) closes by d h
stopped_anew s t (r1 ∷ rs) (Err (Refused x) ∷ os) r o true now after len closes by d h = absurd closes
stopped_anew s t (r1 ∷ rs) (Err (Refused x) ∷ os) r o false now after len closes by d h =
    stopped_anew s t rs os r o false now after (omega (arith, len)) closes by d h
stopped_anew s t (r1 ∷ rs) (Ok a ∷ os) r o true now after len closes by d h = absurd closes
stopped_anew s t (r1 ∷ rs) (Ok a ∷ os) r o false now after len closes by d h =
    stopped_anew s t rs os r o false now after (omega (arith, len)) closes by d h

-- what a call of a closed desk leaves is what was left
pub left_closed : (s : State) (rs : List Request) (os : List (Result Answer Fault)) (r : Request)
    (o : Result Answer Fault) (trees : Trees) → length rs ≡ length os → o ≡ Err Closed
    → AreLeft s (stopped_at rs os) trees → AreLeft s (stopped_at (rs ++ r ∷ []) (os ++ o ∷ [])) trees
left_closed s rs os r o trees len is h =
    subst (λ p. AreLeft s p trees)
    (sym (ap (λ (q : Result Answer Fault). stopped_at (rs ++ r ∷ []) (os ++ q ∷ [])) is ∙ stopped_same rs os r len)) h

at_call : (s : State) (r : Request) (o : Result Answer Fault) (trees : Trees)
    → (o ≡ Err Store → TablesAre s trees ⊎ TablesAre (step s r).0 trees) → ((o ≡ Err Store → ⊥) → TablesAre s trees)
    → AreLeft s (stopped_at (r ∷ []) (o ∷ [])) trees
at_call s r (Ok a) trees store other = other (λ e. cc)
at_call s r (Err (Refused x)) trees store other = other (λ e. cc)
at_call s r (Err Memory) trees store other = other (λ e. cc)
at_call s r (Err Store) trees store other = store refl
at_call s r (Err Closed) trees store other = other (λ e. cc)

-- what a call of an open desk leaves
pub left_open : (s : State) (rs : List Request) (os : List (Result Answer Fault)) (r : Request)
    (o : Result Answer Fault) (trees : Trees) → length rs ≡ length os → Closes false os false
    → (o ≡ Err Store → TablesAre s trees ⊎ TablesAre (step s r).0 trees) → ((o ≡ Err Store → ⊥) → TablesAre s trees)
    → AreLeft s (stopped_at (rs ++ r ∷ []) (os ++ o ∷ [])) trees
left_open s rs os r o trees len unshut store other =
    subst (λ p. AreLeft s p trees) (sym (stopped_push rs os r o len unshut)) (at_call s r o trees store other)

-- ---- what a crash leaves of a desk

module _ {S : Type 0} (g : Ghosts S) (rs : List Request) (os : List (Result Answer Fault)) (r : Request)
    (o : Result Answer Fault) (start : Option Failed) (before after : Desk S) (long : length rs ≡ length os)
    (closes : Closes (is_some start) os (is_some before.failed))
    (by : ClosesBy o (is_some before.failed) (is_some after.failed)) (was : IsDesk g before) (is : IsDesk g after)
    (tells : Tells (state_of before.shop) r o (state_of after.shop))
    (crash : Survives (state g before.conn) (state g after.conn)
    (λ trees. TablesAre (step (state_of before.shop) r).0 trees))
    (idle : IsSome before.failed → after ≡ before) where
  abbrev IsLeft : Desk S → Option Request → Type 0
  IsLeft d stopped =
      HasCleanDisk (state g d.conn) → (trees : Trees) → (state g d.conn).may_leave trees
      → AreLeft (state_of d.shop) stopped trees

  abbrev stopped_now : Option Request
  stopped_now = stopped_at (rs ++ r ∷ []) (os ++ o ∷ [])

  none_of : {X : Type 0} (f : Option X) → is_some f ≡ false → f ≡ None
  none_of None e = refl
  none_of (Some x) e = cc

  unchanged_at : (q : Result Answer Fault) → q ≡ Err Store → Tells (state_of before.shop) r q (state_of after.shop)
      → state_of after.shop ≡ state_of before.shop
  unchanged_at (Err Store) e t = t.0
  unchanged_at (Err Memory) e t = cc
  unchanged_at (Err Closed) e t = cc
  unchanged_at (Err (Refused x)) e t = cc
  unchanged_at (Ok a) e t = cc

  at_open : is_some before.failed ≡ false → start ≡ None → IsLeft after stopped_now
  at_open unshut free clean trees may =
      let whole : Closes false os false =
      subst (λ b. Closes b os false) (ap is_some free) (subst (Closes (is_some start) os) unshut closes) in
      left_open (state_of after.shop) rs os r o trees long whole
      (λ store.
      let same = unchanged_at o store tells in
      let clean_before : HasCleanDisk (state g before.conn) = omega (arith, clean, crash.clean) in
      elim (crash.crash clean trees may) [
        | inl earlier ↦
            inl (subst (λ (s : State). TablesAre s trees) (sym same)
            ((was.books (none_of before.failed unshut) clean_before).left trees earlier))
        | inr made ↦ inr (subst (λ (s : State). TablesAre (step s r).0 trees) (sym same) made)
      ])
      (λ other.
      let still : is_some after.failed ≡ false =
      not_true (is_some after.failed)
      (λ up. elim (by.store.0 up) [ inl e ↦ other e | inr e ↦ let bad = sym e ∙ unshut in cc ]) in
      (is.books (none_of after.failed still) clean).left trees may)

  at_closed : is_some before.failed ≡ true → IsLeft before (stopped_at rs os) → IsLeft after stopped_now
  at_closed shut left =
      subst (λ (d : Desk S). IsLeft d stopped_now) (sym (idle shut))
      (λ clean trees may.
      left_closed (state_of before.shop) rs os r o trees long (by.closed.1 shut) (left clean trees may))

  pub left_at : (start ≡ None → IsLeft before (stopped_at rs os)) → start ≡ None → IsLeft after stopped_now
  left_at left free = pick (is_some before.failed) refl
    where
      pick : (b : Bool) → is_some before.failed ≡ b → IsLeft after stopped_now
      pick true e = at_closed e (left free)
      pick false e = at_open e free
