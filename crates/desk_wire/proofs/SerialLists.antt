-- Lists of serials that are counted.
use Rattle.std.proofs.Common.{◌≡◌, ℕ, ◌+◌, ◌-◌, ◌<◌, ◌≤◌, Bool, true, false, cond, List, ◌∷◌, length, map, drop}
use Rattle.std.proofs.Common.{get_or, ltb, leb, eqb, decimal, refl, ap, sym, subst, ◌∙◌, arith, Some, None, Ok, Err}
use Rattle.std.specs.Prelude.{is_ok}
use Rattle.std.specs.List.{list_all}
use Rattle.std.proofs.lemmas.List.FromFn.{length-map-range_with_len}
use Rattle.std.proofs.lemmas.Bool.Decides.{nat_tests}
use Rattle.std.proofs.lemmas.List.{at_drop_more}
use Rattle.word_core.specs.declared.serials.SerialFault.TheVariants.{BadChar, Empty, Falling, TooMany}
use Rattle.word_core.specs.Serial.{is_serial_byte}
use Rattle.word_core.specs.Serials.{Reading, decimals, element_serials, joined, put_before, range_of, range_or_one}
use Rattle.desk_wire.specs.SerialLists.{Counts}

-- ---- the elements of a text, of which so many serials stand before those that are left

-- whether the elements that are left are good too
abbrev pub rest_good : ℕ → List Reading → Bool
rest_good count readings = is_ok (joined count readings)

put_good : (serials : List (List ℕ)) (r : Reading) → is_ok (put_before serials r) ≡ is_ok r
put_good serials (Ok more) = refl
put_good serials (Err fault) = refl

-- an element's turn
pub element_turn : (count : ℕ) (parts : List (List ℕ)) (i : ℕ) (element : List ℕ)
    → (i < length parts) × (element ≡ get_or parts i element)
    → rest_good count (map element_serials (drop i parts))
    ≡ rest_good count (element_serials element ∷ map element_serials (drop (i + 1) parts))
element_turn count parts i element h =
    at_drop_more (λ elements. rest_good count (map element_serials elements)) parts i element h.0
    ∙ ap (λ e. rest_good count (element_serials e ∷ map element_serials (drop (i + 1) parts))) (sym h.1)

-- a bad element
pub element_bad : (count : ℕ) (r : Reading) (readings : List Reading) → Counts r None
    → rest_good count (r ∷ readings) ≡ false
element_bad count (Ok serials) readings h = absurd h
element_bad count (Err fault) readings h = refl

-- too many serials
pub element_over : (count more : ℕ) (r : Reading) (readings : List Reading) → Counts r (Some more)
    → 1000 < count + more → rest_good count (r ∷ readings) ≡ false
element_over count more (Err fault) readings h many = absurd h
element_over count more (Ok serials) readings h many =
    let over : ltb 1000 (count + length serials) ≡ true = let e = h.0 in grind (arith, nat_tests) in
    ap (λ b. is_ok (cond b (Err TooMany) (put_before serials (joined (count + length serials) readings)))) over

-- a good element
pub element_good : (count more : ℕ) (r : Reading) (readings : List Reading) → Counts r (Some more)
    → count + more ≤ 1000 → rest_good count (r ∷ readings) ≡ rest_good (count + more) readings
element_good count more (Err fault) readings h few = absurd h
element_good count more (Ok serials) readings h few =
    let within : ltb 1000 (count + length serials) ≡ false = let e = h.0 in grind (arith, nat_tests) in
    ap (λ b. is_ok (cond b (Err TooMany) (put_before serials (joined (count + length serials) readings)))) within
    ∙ put_good serials (joined (count + length serials) readings)
    ∙ ap (λ n. rest_good (count + n) readings) (sym h.0)

-- ---- one element

-- a range's serials are as many as its numbers
pub range_counts : (element : List ℕ) (first last : ℕ) → eqb (length element) 0 ≡ false
    → list_all is_serial_byte element ≡ true → range_of element ≡ Some (first, last) → first < last
    → last - first < 1000 → Counts (element_serials element) (Some (last - first + 1))
unfolding element_serials
range_counts element first last some serial range rises few =
    let up : leb last first ≡ false = grind (arith, nat_tests) in
    let within : ltb 1000 (last + 1 - first) ≡ false = grind (arith, nat_tests) in
    let made : element_serials element ≡ Ok (decimals first last) =
    ap (λ b. cond b (Err Empty) (cond (list_all is_serial_byte element) (range_or_one (range_of element) element)
    (Err BadChar))) some
    ∙ ap (λ b. cond b (range_or_one (range_of element) element) (Err BadChar)) serial
    ∙ ap (λ o. range_or_one o element) range
    ∙ ap (λ b. cond b (Err Falling) (cond (ltb 1000 (last + 1 - first)) (Err TooMany) (Ok (decimals first last)))) up
    ∙ ap (λ b. cond b (Err TooMany) (Ok (decimals first last))) within in
    let long = length-map-range_with_len decimal first (last + 1 - first) in
    subst (λ r. Counts r (Some (last - first + 1))) (sym made) (omega (arith, long), omega arith)
