-- What is gathered entry by entry is the last day of each number.
use Rattle.std.proofs.Common.{◌≡◌, ◌∙◌, ◌==◌, ℕ, Bool, true, false, List, [], ◌∷◌, Option, Some, None}
use Rattle.std.proofs.Common.{ap, cond, filter, refl, sym}
use Rattle.std.specs.Prelude.{option_map}
use Rattle.std.specs.FinMap as table
use Rattle.word_core.specs.Day.{CivilDay}
use Rattle.sheet_core.specs.Sheet.{Table, key_cmp, now_of}
use Rattle.sheet_core.proofs.Keys.{keys_total}
use Rattle.forest.specs.declared.entry.Entry.{Entry}
use Rattle.desk_core.specs.Machine.{State}
use Rattle.list_core.specs.Origins.{day_or_empty, key_day_text, key_text, origin_at, origins_in}
use Rattle.list_core.specs.Past.{IsPast, day_in, gathered_days, is_number, last_day, last_day_or, number_of}
use Rattle.list_core.specs.Past.{past_of, told_past, with_day}
use Rattle.list_core.specs.declared.origins.Origin.{Origin}
use Rattle.list_core.specs.declared.past.LastDay.{LastDay}
use Rattle.list_core.specs.declared.past.Past.{Past}
use Rattle.list_core.specs.declared.past.Subject.{Subject}
use Rattle.list_core.proofs.Gathered.{same_key}

-- the row of a day
abbrev last_of : ℕ → CivilDay → LastDay
last_of n day = record { number = n; day = day }

-- a day comes to its number, and to no other
day_more : (n : ℕ) (number : Option ℕ) (day : CivilDay) (days : Table LastDay)
    → day_in n (with_day number day days) ≡ cond (is_number n number) (Some day) (day_in n days)
day_more n None day days = refl
day_more n (Some m) day days =
    ap (option_map (λ (l : LastDay). l.day)) (table.get-insert keys_total days (m ∷ []) (last_of m day) (n ∷ []))
    ∙ ap (λ b. option_map (λ (l : LastDay). l.day) (cond b (Some (last_of m day)) (table.get days (n ∷ []))))
    (sym (same_key n m))
    ∙ chosen (m == n)
  where
    chosen : (b : Bool)
        → option_map (λ (l : LastDay). l.day) (cond b (Some (last_of m day)) (table.get days (n ∷ [])))
        ≡ cond b (Some day) (day_in n days)
    chosen true = refl
    chosen false = refl

-- of all entries it is the day of the last
pub days_told : (n : ℕ) (number : Entry → Option ℕ) (entries : List Entry) (days : Table LastDay)
    → day_in n (gathered_days number entries days)
    ≡ last_day_or (day_in n days) (filter (λ e. is_number n (number e)) entries)
days_told n number [] days = refl
days_told n number (e ∷ es) days =
    days_told n number es (with_day (number e) e.day days)
    ∙ ap (λ d. last_day_or d (filter (λ (x : Entry). is_number n (number x)) es)) (day_more n (number e) e.day days)
    ∙ chosen (is_number n (number e))
  where
    chosen : (b : Bool)
        → last_day_or (cond b (Some e.day) (day_in n days)) (filter (λ x. is_number n (number x)) es)
        ≡ last_day_or (day_in n days)
        (cond b (e ∷ filter (λ x. is_number n (number x)) es) (filter (λ x. is_number n (number x)) es))
    chosen true = refl
    chosen false = refl

-- no day is gathered at first
none_yet : (n : ℕ) → day_in n table.empty ≡ None
none_yet n = ap (option_map (λ (l : LastDay). l.day)) (table.get-empty key_cmp (n ∷ []))

-- what was gathered of all entries is the past of each number
pub past_told : (subject : Subject) (s : State) (past : Past) → now_of past.origins ≡ origins_in s
    → now_of past.days
    ≡ gathered_days (number_of subject s (now_of past.origins)) (table.values s.stock.history) table.empty
    → IsPast subject s past
unfolding told_past past_of
past_told subject s past made gathered n =
    let entries = table.values s.stock.history in
    let last : day_in n (now_of past.days) ≡ last_day subject n s =
    ap (day_in n) gathered
    ∙ ap (λ (t : Table Origin). day_in n (gathered_days (number_of subject s t) entries table.empty)) made
    ∙ days_told n (number_of subject s (origins_in s)) entries table.empty
    ∙ ap (λ d. last_day_or d (filter (λ (e : Entry). is_number n (number_of subject s (origins_in s) e)) entries))
    (none_yet n) in
    (λ i. key_text (origin_at n (made i)) ∷ key_day_text (origin_at n (made i)) ∷ day_or_empty (last i) ∷ [])
