-- Numbers in decimal, as serial numbers have them.
use Rattle.std.proofs.Common.{◌≡◌, ℕ, ◌+◌, ◌-◌, ◌<◌, ◌≤◌, ◌^◌, true, ◌&&◌, List, [], ◌∷◌, ◌++◌}
use Rattle.std.proofs.Common.{map, length, refl, ap, ◌∙◌, rules, arith, decimal, nat_lt, nat_le}
use Rattle.std.specs.Char.{is_ascii_digit}
use Rattle.std.specs.List.{list_all, range_with_len}
use Rattle.std.proofs.lemmas.List.FromFn.{map-range_with_len_more}
use Rattle.std.specs.Str.Parse.{digits_value}
use Rattle.std.proofs.lemmas.Str.Parse.{IsNumeralModel, numerals_by_value, digits_value_short}
use Rattle.std.proofs.lemmas.Fmt.{digits_decimal, decimal_nonempty, length-decimal-le}
use Rattle.std.proofs.lemmas.Bool.{and_parts, and_from, ltb-true, leb-true}
use Rattle.std.proofs.lemmas.Bool.Decides.{nat_tests}
use Rattle.word_core.specs.Serial.{is_serial, is_serial_byte}
use Rattle.word_core.specs.Serials.{is_number}

-- digits and their value, as `parse` reads them
pub numerals : IsNumeralModel (λ ds. list_all is_ascii_digit ds ≡ true) (digits_value 10)
numerals = numerals_by_value _ (search rules)

-- a digit may stand in a serial number
serial_digit : (b : ℕ) → is_ascii_digit b ≡ true → is_serial_byte b ≡ true
serial_digit b h = grind (arith, nat_tests)

serial_digits : (ds : List ℕ) → list_all is_ascii_digit ds ≡ true → list_all is_serial_byte ds ≡ true
serial_digits [] h = refl
serial_digits (d ∷ ds) h =
    let p = and_parts (is_ascii_digit d) (list_all is_ascii_digit ds) h in
    and_from _ _ (serial_digit d p.0) (serial_digits ds p.1)

-- a number is a serial number
pub is_serial-decimal : (n : ℕ) → n < 2 ^ 64 → is_serial (decimal n) ≡ true
is_serial-decimal n small =
    let digits = serial_digits (decimal n) (digits_decimal numerals n small) in
    let some = decimal_nonempty n small in
    let few : length (decimal n) ≤ 20 = length-decimal-le 20 n (omega arith) (omega arith) small in
    grind (arith, nat_tests)

-- a number of at most 18 digits
pub digits_value-small : (ds : List ℕ) → list_all is_ascii_digit ds ≡ true → length ds ≤ 18
    → digits_value 10 ds < 2 ^ 64
digits_value-small ds digits few = let small = digits_value_short numerals ds 18 digits few in omega (arith, small)

-- what the test of a number tells
pub record IsNumber (text : List ℕ) : Type 0 where
  pub some : 0 < length text
  pub few : length text ≤ 18
  pub digits : list_all is_ascii_digit text ≡ true

pub number_digits : (text : List ℕ) → is_number text ≡ true → IsNumber text
number_digits text h =
    let p = and_parts (nat_lt 0 (length text) && nat_le (length text) 18 && list_all is_ascii_digit text) _ h in
    let q = and_parts (nat_lt 0 (length text) && nat_le (length text) 18) (list_all is_ascii_digit text) p.0 in
    let r = and_parts (nat_lt 0 (length text)) (nat_le (length text) 18) q.0 in
    record { some = ltb-true _ _ r.0; few = leb-true _ _ r.1; digits = q.1 }

-- one number more
pub decimals_more : (first k : ℕ) → first ≤ k → map decimal (range_with_len first (k + 1 - first))
    ≡ map decimal (range_with_len first (k - first)) ++ decimal k ∷ []
decimals_more first k h =
    let n : k + 1 - first ≡ k - first + 1 = omega arith in
    ap (λ n. map decimal (range_with_len first n)) n ∙ map-range_with_len_more decimal first (k - first) k (omega arith)
