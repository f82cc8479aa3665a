-- Quotes that are open where a text ends.
use Rattle.std.proofs.Common.{◌≡◌, ◌≢◌, ℕ, zero, suc, ◌+◌, ◌-◌, ◌≤◌, ◌==◌, ◌&&◌, true, false, cond, List, [], ◌∷◌, ◌++◌}
use Rattle.std.proofs.Common.{length, take, drop, refl, ap, ◌∙◌, inl, inr, arith, Option, Some, None}
use Rattle.std.specs.List.{starts_with}
use Rattle.std.proofs.Math.Seq.{take-length}
use Rattle.std.proofs.lemmas.Bool.{and_parts, cases_Bool, eqb-true, false≢true, true≢false}
use Rattle.csv.specs.Machine.{ends_at_end, field_after, fields_after, is_end, next_record, step}
use Rattle.csv.specs.Reading.{is_bom, records_from, records_next, strip_bom}
use Rattle.csv.specs.declared.parser.Action.{Action}
use Rattle.csv.specs.declared.parser.Config.{Config}
use Rattle.csv.specs.declared.parser.State.{State}
use Rattle.csv.specs.declared.parser.State.TheVariants as st
use Rattle.desk_wire.specs.declared.quotes.Place.{Place}
use Rattle.desk_wire.specs.declared.quotes.Place.TheVariants as place
use Rattle.desk_wire.specs.Layouts.{place_of}
use Rattle.desk_wire.specs.Quotes.{ends_in_quotes, is_in_quotes, open_record, state_after}
use Rattle.desk_wire.specs.Records.{Fields}

-- ---- the mark of the byte order

abbrev mark : List ℕ
mark = 239 ∷ 187 ∷ 191 ∷ []

pub mark-goes : (text : List ℕ) → starts_with (λ a b. a == b) text mark ≡ true
    → take (length text - 3) (drop 3 text) ≡ strip_bom text
unfolding strip_bom
mark-goes [] h = absurd (false≢true h)
mark-goes (a ∷ []) h = absurd (cc (and_parts (239 == a) false h).1)
mark-goes (a ∷ b ∷ []) h = absurd (cc (and_parts (187 == b) false (and_parts (239 == a) _ h).1).1)
mark-goes (a ∷ b ∷ c ∷ rest) h =
    let first = and_parts (239 == a) ((187 == b) && ((191 == c) && true)) h in
    let second = and_parts (187 == b) ((191 == c) && true) first.1 in
    let third = and_parts (191 == c) true second.1 in
    let few : length (a ∷ b ∷ c ∷ rest) - 3 ≡ length rest = omega arith in
    ap (λ n. take n rest) few ∙ take-length rest
    ∙ rw (← eqb-true 239 a first.0, ← eqb-true 187 b second.0, ← eqb-true 191 c third.0) refl

pub no-mark-stays : (text : List ℕ) → starts_with (λ a b. a == b) text mark ≡ false → text ≡ strip_bom text
unfolding strip_bom
no-mark-stays [] h = refl
no-mark-stays (a ∷ []) h = refl
no-mark-stays (a ∷ b ∷ []) h = refl
no-mark-stays (a ∷ b ∷ c ∷ rest) h = elim (cases_Bool (is_bom a b c)) [
  | inl t ↦
      let last = and_parts ((a == 239) && (b == 187)) (c == 191) t in
      let first = and_parts (a == 239) (b == 187) last.0 in
      absurd (true≢false (rw (eqb-true a 239 first.0, eqb-true b 187 first.1, eqb-true c 191 last.1) at h))
  | inr f ↦ rw f refl
]

-- ---- how many records end

abbrev counted : Action → ℕ → ℕ
counted action n = cond (is_end action) (n + 1) n

-- how many of them end in the text, before its own end
abbrev ends : Config → State → List ℕ → ℕ
ends config s [] = 0
ends config s (c ∷ text) = counted (step config s c).1 (ends config (step config s c).0 text)

abbrev last : State → ℕ
last s = cond (ends_at_end s) 1 0

none-left : (config : Config) (n : ℕ) → records_from config n st.StartRecord [] ≡ []
unfolding records_from next_record
none-left config zero = refl
none-left config (suc n) = refl

all-records : (config : Config) (n : ℕ) (s : State) (fields : Fields) (field text : List ℕ) → length text ≤ n
    → length (records_next (records_from config n) (next_record config s fields field text))
    ≡ ends config s text + last (state_after config s text)
unfolding next_record records_from
all-records config n s fields field [] few = elim (cases_Bool (ends_at_end s)) [
  | inl t ↦ rw t (ap (λ (rest : List Fields). length ((fields ++ (field ∷ [])) ∷ rest)) (none-left config n))
  | inr f ↦ rw f refl
]
all-records config zero s fields field (c ∷ text) few = absurd (omega arith)
all-records config (suc n) s fields field (c ∷ text) few = elim (cases_Bool (is_end (step config s c).1)) [
  | inl t ↦
      let rest = all-records config n (step config s c).0 [] [] text (omega arith) in
      rw t (omega (arith, rest))
  | inr f ↦
      rw f (all-records config (suc n) (step config s c).0 (fields_after (step config s c).1 fields field)
      (field_after (step config s c).1 c field) text (omega arith))
]

-- ---- the record that stays open

-- the same by one pass over the text, before which so many records have ended
abbrev pub open_at : Config → State → ℕ → List ℕ → Option ℕ
open_at config s n [] = cond (is_in_quotes s) (Some (n + 1)) None
open_at config s n (c ∷ text) = open_at config (step config s c).0 (counted (step config s c).1 n) text

open-ends : (config : Config) (s : State) (n : ℕ) (text : List ℕ)
    → open_at config s n text
    ≡ cond (is_in_quotes (state_after config s text)) (Some (n + ends config s text + 1)) None
open-ends config s n [] = let e : n + 0 + 1 ≡ n + 1 = omega arith in rw e refl
open-ends config s n (c ∷ text) = elim (cases_Bool (is_end (step config s c).1)) [
  | inl t ↦
      let more = ends config (step config s c).0 text in
      let e : n + 1 + more + 1 ≡ n + (more + 1) + 1 = omega arith in
      rw t (open-ends config (step config s c).0 (n + 1) text
      ∙ ap (λ k. cond (is_in_quotes (state_after config (step config s c).0 text)) (Some k) None) e)
  | inr f ↦ rw f (open-ends config (step config s c).0 n text)
]

in-quotes-last : (s : State) → is_in_quotes s ≡ true → last s ≡ 1
in-quotes-last st.InQuoted h = refl
in-quotes-last st.InEscape h = refl
in-quotes-last st.StartRecord h = absurd (false≢true h)
in-quotes-last st.StartField h = absurd (false≢true h)
in-quotes-last st.InField h = absurd (false≢true h)
in-quotes-last st.AfterQuote h = absurd (false≢true h)
in-quotes-last st.InComment h = absurd (false≢true h)
in-quotes-last st.AfterCr h = absurd (false≢true h)

pub open-is : (config : Config) (text : List ℕ)
    → open_record config text ≡ open_at config st.StartRecord 0 text
unfolding records_from
open-is config text = elim (cases_Bool (ends_in_quotes config text)) [
  | inl t ↦
      let all = all-records config (length text) st.StartRecord [] [] text (omega arith) in
      let end = in-quotes-last (state_after config st.StartRecord text) t in
      let more : length text + 1 ≡ suc (length text) = omega arith in
      rw (open-ends config st.StartRecord 0 text, t) (ap (λ k. Some k) (ap (λ m. length (records_from config m st.StartRecord text)) more ∙ all ∙ omega (arith, end)))
  | inr f ↦ rw (open-ends config st.StartRecord 0 text, f) refl
]

-- ---- the end of the pass

pub ends-quoted : (config : Config) (s : State) (n : ℕ) → place_of s ≡ Some place.Quoted
    → open_at config s n [] ≡ Some (n + 1)
ends-quoted config st.InQuoted n e = refl
ends-quoted config st.StartRecord n e = cc e
ends-quoted config st.StartField n e = cc e
ends-quoted config st.InField n e = cc e
ends-quoted config st.AfterQuote n e = cc e
ends-quoted config st.InEscape n e = refl
ends-quoted config st.InComment n e = cc e
ends-quoted config st.AfterCr n e = cc e

pub ends-unquoted : (config : Config) (s : State) (n : ℕ) (p : Place) → place_of s ≡ Some p → p ≢ place.Quoted
    → open_at config s n [] ≡ None
ends-unquoted config st.InQuoted n p e other = absurd (other (cc e))
ends-unquoted config st.InEscape n p e other = cc e
ends-unquoted config st.StartRecord n p e other = refl
ends-unquoted config st.StartField n p e other = refl
ends-unquoted config st.InField n p e other = refl
ends-unquoted config st.AfterQuote n p e other = refl
ends-unquoted config st.InComment n p e other = refl
ends-unquoted config st.AfterCr n p e other = refl
