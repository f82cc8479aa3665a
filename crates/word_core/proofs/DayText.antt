-- A day is read back from its text.
use Rattle.std.proofs.Common.{◌≡◌, ℕ, ◌+◌, ◌/◌, ◌%◌, ◌<◌, ◌≤◌, Bool, true, false, cond}
use Rattle.std.proofs.Common.{[], ◌∷◌, ◌++◌, Some, Ok, pos, refl, ap, ap₂, ◌∙◌, arith}
use Rattle.std.specs.Prelude.{codes, decimal, nat_lt}
use Rattle.std.proofs.lemmas.Bool.Decides.{nat_tests}
use Rattle.std.proofs.lemmas.Fmt.{decimal_digit, decimal_step}
use Rattle.jiff_core.specs.declared.civil.date.Date.{Date}
use Rattle.jiff_core.specs.Calendar.{IsYear}
use Rattle.jiff_core.proofs.CalendarLemmas.{days_in_month_bounds}
use Rattle.jiff_core.proofs.SignedLemmas.{signed_arith}
use Rattle.jiff_fmt.specs.Text.{pad2, pad4, date_text}
use Rattle.jiff_fmt.specs.Temporal.{parse_date, date_parts}
use Rattle.jiff.proofs.Family.{parse_date-date_text}
use Rattle.word_core.specs.Day.{CivilDay, IsInUse, day_of, day_text, two_digits}
use Rattle.word_core.specs.Pattern.{fits_pattern}

-- a number of two digits
two-written : (n : ℕ) → 10 ≤ n → n < 100 → decimal n ≡ pad2 n
two-written n high low =
    decimal_step n high (omega arith) ∙ ap (λ ds. ds ++ (48 + n % 10) ∷ []) (decimal_digit (n / 10) (omega arith))

-- a number of four digits
four-written : (n : ℕ) → 1000 ≤ n → n < 10_000 → decimal n ≡ pad4 n
four-written n high low =
    decimal_step n (omega arith) (omega arith)
    ∙ ap (λ ds. ds ++ (48 + n % 10) ∷ [])
    (decimal_step (n / 10) (omega arith) (omega arith)
    ∙ ap (λ ds. ds ++ (48 + n / 10 % 10) ∷ []) (two-written (n / 10 / 10) (omega arith) (omega arith)))
    ∙ same (n / 10 / 10) (n / 10 % 10) (n % 10) (n / 100) (n % 100) (omega arith) (omega arith) (omega arith)
  where
    same : (h t u a b : ℕ) → h ≡ a → t ≡ b / 10 → u ≡ b % 10
        → (pad2 h ++ (48 + t) ∷ []) ++ (48 + u) ∷ [] ≡ pad2 a ++ pad2 b
    same h t u a b p q r = rw (p, q, r) refl

two-padded : (n : ℕ) → n < 100 → two_digits n ≡ pad2 n
two-padded n low = padded (nat_lt n 10) refl
  where
    padded : (b : Bool) → nat_lt n 10 ≡ b → cond b (48 ∷ decimal n) (decimal n) ≡ pad2 n
    padded true e =
        let small : n < 10 = grind (arith, nat_tests, e) in
        let tens : 0 ≡ n / 10 = omega arith in
        let units : n ≡ n % 10 = omega arith in
        ap (λ ds. 48 ∷ ds) (decimal_digit n small) ∙ ap₂ (λ (t u : ℕ). (48 + t) ∷ (48 + u) ∷ []) tens units
    padded false e = two-written n (grind (arith, nat_tests, e)) low

-- the text has the form `0000-00-00`
fits-padded : (y m d : ℕ) → y < 10_000 → m < 100 → d < 100
    → fits_pattern (codes "0000-00-00") (pad4 y ++ 45 ∷ pad2 m ++ 45 ∷ pad2 d) ≡ true
fits-padded y m d year month day = grind (arith, nat_tests)

-- a day that is in use is read from its text
pub day_read : (d : CivilDay) → IsInUse d.year d.month d.day → day_of (day_text d) ≡ Some d
day_read d held =
    let below_32 : d.day < 100 = omega (arith, held.day_to, (days_in_month_bounds (pos d.year) d.month).0) in
    let year_in : IsYear (pos d.year) =
    (omega (arith, signed_arith, held.begun, held.ends), omega (arith, signed_arith, held.begun, held.ends)) in
    let date : Date = record {
      year = pos d.year;
      month = d.month;
      day = d.day;
      year_in = year_in;
      month_in = (held.month_from, held.month_to);
      day_in = (held.day_from, held.day_to);
    } in
    let year = four-written d.year (omega (arith, held.begun)) (omega (arith, held.ends)) in
    let month = two-padded d.month (omega (arith, held.month_to)) in
    let day = two-padded d.day below_32 in
    let text : day_text d ≡ date_text date = rw (year, month, day) refl in
    let shape : fits_pattern (codes "0000-00-00") (date_text date) ≡ true =
    fits-padded d.year d.month d.day (omega (arith, held.ends)) (omega (arith, held.month_to)) below_32 in
    let read : parse_date (date_text date) ≡ Ok (date_parts date) = parse_date-date_text date in
    let begun : nat_lt d.year 2000 ≡ false = grind (arith, nat_tests, held.begun) in
    let ends : nat_lt 2099 d.year ≡ false = grind (arith, nat_tests, held.ends) in
    rw (text, shape, read, begun, ends) refl
