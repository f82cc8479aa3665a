-- Readings of elements, one after another.
use Rattle.std.proofs.Common.{◌≡◌, ℕ, ◌+◌, ◌-◌, ◌<◌, ◌≤◌, Bool, true, false, cond, Option, Some, None, List}
use Rattle.std.proofs.Common.{[], ◌∷◌, ◌++◌, length, map, drop, get_or, eqb, ltb, leb, decimal, Ok, Err}
use Rattle.std.proofs.Common.{IfOk, refl, ap, sym, ◌∙◌, arith, append_assoc, append-nil, length-append}
use Rattle.std.specs.List.{list_all, slice_split}
use Rattle.std.proofs.lemmas.Bool.{ltb-false, leb-false}
use Rattle.std.proofs.lemmas.Bool.Decides.{nat_tests}
use Rattle.std.proofs.lemmas.List.{at_drop_more}
use Rattle.std.proofs.lemmas.List.FromFn.{length-map-range_with_len}
use Rattle.std.proofs.lemmas.List.Splits.{length-slice_split}
use Rattle.std.proofs.lemmas.Result.{IfOk-at_ok}
use Rattle.word_core.specs.declared.serials.SerialFault.{SerialFault}
use Rattle.word_core.specs.declared.serials.SerialFault.TheVariants.{TooMany}
use Rattle.word_core.specs.Serial.{is_serial_byte}
use Rattle.word_core.specs.Serials.{Reading, range_of, range_serials, range_or_one}
use Rattle.word_core.specs.Serials.{element_serials, put_before, joined, serials_in}

-- serials, and then those of the readings behind them
abbrev pub continued : List (List ℕ) → List Reading → Reading
continued serials readings = put_before serials (joined (length serials) readings)

put_before-put_before : (serials more : List (List ℕ)) (r : Reading)
    → put_before serials (put_before more r) ≡ put_before (serials ++ more) r
put_before-put_before serials more (Ok rest) = ap Ok (sym (append_assoc serials more rest))
put_before-put_before serials more (Err fault) = refl

pub continued-nil : (serials : List (List ℕ)) → continued serials [] ≡ Ok serials
continued-nil serials = ap Ok (append-nil serials)

-- the first fault ends it
pub continued-err : (serials : List (List ℕ)) (readings : List Reading) (r : Reading) (fault : SerialFault)
    → r ≡ Err fault → continued serials (r ∷ readings) ≡ Err fault
continued-err serials readings r fault h = ap (λ r. continued serials (r ∷ readings)) h

-- too many serials end it
pub continued-many : (serials : List (List ℕ)) (readings : List Reading) (r : Reading) (more : List (List ℕ))
    → r ≡ Ok more → 1000 < length serials + length more → continued serials (r ∷ readings) ≡ Err TooMany
continued-many serials readings r more h many =
    let over : ltb 1000 (length serials + length more) ≡ true = grind (arith, nat_tests) in
    let rest = put_before more (joined (length serials + length more) readings) in
    ap (λ r. continued serials (r ∷ readings)) h ∙ ap (λ b. put_before serials (cond b (Err TooMany) rest)) over

-- else a reading's serials go to those before
pub continued-ok : (serials : List (List ℕ)) (readings : List Reading) (r : Reading) (more : List (List ℕ))
    → r ≡ Ok more → length serials + length more ≤ 1000
    → continued serials (r ∷ readings) ≡ continued (serials ++ more) readings
continued-ok serials readings r more h few =
    let within : ltb 1000 (length serials + length more) ≡ false = grind (arith, nat_tests) in
    let rest = put_before more (joined (length serials + length more) readings) in
    ap (λ r. continued serials (r ∷ readings)) h ∙ ap (λ b. put_before serials (cond b (Err TooMany) rest)) within
    ∙ put_before-put_before serials more (joined (length serials + length more) readings)
    ∙ ap (λ n. put_before (serials ++ more) (joined n readings)) (sym (length-append serials more))

-- a reading's turn
pub continued-turn : (serials parts : List (List ℕ)) (i : ℕ) (element : List ℕ)
    → (i < length parts) × (element ≡ get_or parts i element) → continued serials (map element_serials (drop i parts))
    ≡ continued serials (element_serials element ∷ map element_serials (drop (i + 1) parts))
continued-turn serials parts i element h =
    at_drop_more (λ elements. continued serials (map element_serials elements)) parts i element h.0
    ∙ ap (λ e. continued serials (element_serials e ∷ map element_serials (drop (i + 1) parts))) (sym h.1)

-- a fact of both choices
cond_at : (P : Reading → Type 0) (b : Bool) (x y : Reading) → (b ≡ true → P x) → (b ≡ false → P y) → P (cond b x y)
cond_at P true x y h k = h refl
cond_at P false x y h k = k refl

-- with so many before them, the serials are at most 1,000
abbrev Fits : ℕ → Reading → Type 0
Fits before r = IfOk r (λ serials. before + length serials ≤ 1000)

put_before-fits : (before : ℕ) (serials : List (List ℕ)) (r : Reading) → Fits (before + length serials) r
    → Fits before (put_before serials r)
put_before-fits before serials (Ok more) h = omega (arith, h, length-append serials more)
put_before-fits before serials (Err fault) h = tt

joined-fits : (before : ℕ) (readings : List Reading) → before ≤ 1000 → Fits before (joined before readings)
joined-fits before [] h = omega arith
joined-fits before (Err fault ∷ readings) h = tt
joined-fits before (Ok serials ∷ readings) h =
    let count = before + length serials in
    cond_at (Fits before) (ltb 1000 count) (Err TooMany) (put_before serials (joined count readings)) (λ _. tt)
    (λ e. put_before-fits before serials _ (joined-fits count readings (ltb-false _ _ e)))

-- where there is no fault, there is a serial
abbrev HasSome : Reading → Type 0
HasSome r = IfOk r (λ serials. 1 ≤ length serials)

put_before-some : (serials : List (List ℕ)) (r : Reading) → 1 ≤ length serials → HasSome (put_before serials r)
put_before-some serials (Ok more) h = omega (arith, length-append serials more)
put_before-some serials (Err fault) h = tt

joined-some : (before : ℕ) (r : Reading) (readings : List Reading) → HasSome r → HasSome (joined before (r ∷ readings))
joined-some before (Err fault) readings h = tt
joined-some before (Ok serials) readings h =
    cond_at HasSome (ltb 1000 (before + length serials)) _ _ (λ _. tt) (λ _. put_before-some serials _ h)

range_serials-some : (first last : ℕ) → HasSome (range_serials first last)
range_serials-some first last =
    cond_at HasSome (leb last first) _ _ (λ _. tt)
    (λ rises. cond_at HasSome (ltb 1000 (last + 1 - first)) _ _ (λ _. tt) (λ _.
    let long = length-map-range_with_len decimal first (last + 1 - first) in
    let over = leb-false _ _ rises in
    omega (arith, long, over)))

range_or_one-some : (ends : Option (ℕ × ℕ)) (element : List ℕ) → HasSome (range_or_one ends element)
range_or_one-some (Some ends) element = range_serials-some ends.0 ends.1
range_or_one-some None element = cond_at HasSome (ltb 24 (length element)) _ _ (λ _. tt) (λ _. omega arith)

element_serials-some : (element : List ℕ) → HasSome (element_serials element)
unfolding element_serials
element_serials-some element =
    cond_at HasSome (eqb (length element) 0) _ _ (λ _. tt)
    (λ _.
    cond_at HasSome (list_all is_serial_byte element) _ _ (λ _. range_or_one-some (range_of element) element) (λ _. tt))

parts-some : (parts : List (List ℕ)) → 0 < length parts → HasSome (joined 0 (map element_serials parts))
parts-some [] h = absurd (omega arith)
parts-some (part ∷ parts) h =
    joined-some 0 (element_serials part) (map element_serials parts) (element_serials-some part)

pub serials_in-some : (text : List ℕ) (serials : List (List ℕ)) → serials_in text ≡ Ok serials → 1 ≤ length serials
serials_in-some text serials h = IfOk-at_ok _ h (parts-some _ (omega (arith, length-slice_split (λ b. eqb b 44) text)))

pub serials_in-few : (text : List ℕ) (serials : List (List ℕ)) → serials_in text ≡ Ok serials → length serials ≤ 1000
serials_in-few text serials h =
    let few = IfOk-at_ok _ h (joined-fits 0 (map element_serials (slice_split (λ b. eqb b 44) text)) (omega arith)) in
    omega (arith, few)
