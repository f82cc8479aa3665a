-- The text of a value has no line end.
use Rattle.std.proofs.Common.{◌≡◌, ◌∙◌, ◌++◌, ◌+◌, ◌/◌, ◌%◌, ◌^◌, ◌<◌, ◌==◌, ◌&&◌, ◌||◌, ℕ, suc, pos, negsuc, List, [], ◌∷◌, Bool, true, false, cond, not, refl, ap, sym, subst, arith, nat_lt, decimal}
use Rattle.std.specs.Char.{digit_char, digit_value}
use Rattle.std.specs.Str.Parse.{AllDigits}
use Rattle.std.proofs.lemmas.Bool.{and_from}
use Rattle.std.proofs.lemmas.Bool.Decides.{nat_tests}
use Rattle.std.proofs.lemmas.Fmt.{decimal_is_IsNumeral}
use Rattle.std.proofs.lemmas.List.Folds.{list_all-append}
use Rattle.json.specs.Print.{escape, escape_byte, escape_letter, quoted}
use Rattle.serde_json.specs.Data.{Data, Items, Members, array, boolean, float, item, member, negative, no_items, no_members, null, number, object, string, unsigned}
use Rattle.serde_json.specs.Written.{comma_if, compact_text, items_text, members_text}
use Rattle.desk_wire.specs.SheetLaws.{is_one_line}
use Rattle.desk_wire.proofs.WholeValues.{ItemsFit, MembersFit, NumbersFit}

pub joined : (a b : List ℕ) → is_one_line a ≡ true → is_one_line b ≡ true → is_one_line (a ++ b) ≡ true
joined a b h k = list_all-append (λ b. not (b == 10)) a b ∙ and_from (is_one_line a) (is_one_line b) h k

-- ---- strings

glyph : (n : ℕ) → (digit_char n == 10) ≡ false
glyph n = by (nat_lt n 10)
  where
    by : (c : Bool) → (cond c (48 + n) (87 + n) == 10) ≡ false
    by true = grind (arith, nat_tests)
    by false = grind (arith, nat_tests)

either : (c : Bool) (x y : ℕ) → (x == 10) ≡ false → (y == 10) ≡ false → (cond c x y == 10) ≡ false
either true x y h k = h
either false x y h k = k

letter : (b : ℕ) → (b == 10) ≡ false → (escape_letter b == 10) ≡ false
letter b h =
    either ((b == 34) || (b == 92)) b _ h
    (either (b == 8) 98 _ refl
    (either (b == 12) 102 _ refl
    (either (b == 10) 110 _ refl (either (b == 13) 114 _ refl (either (b == 9) 116 0 refl refl)))))

escaped_byte : (b : ℕ) → is_one_line (escape_byte b) ≡ true
unfolding escape_byte
escaped_byte b = by (b == 10) refl
  where
    plain : (c d : Bool) → (b == 10) ≡ false
        → is_one_line
        (cond c (92 ∷ escape_letter b ∷ [])
        (cond d (92 ∷ 117 ∷ 48 ∷ 48 ∷ digit_char (b / 16) ∷ digit_char (b % 16) ∷ []) (b ∷ [])))
        ≡ true
    plain true d h = ap (λ v. not v && true) (letter b h)
    plain false true h =
        ap (λ v. not v && (not (digit_char (b % 16) == 10) && true)) (glyph (b / 16))
        ∙ ap (λ v. not v && true) (glyph (b % 16))
    plain false false h = ap (λ v. not v && true) h

    by : (c : Bool) → (b == 10) ≡ c → is_one_line (escape_byte b) ≡ true
    by true h = let is : b ≡ 10 = grind (arith, nat_tests) in subst (λ n. is_one_line (escape_byte n) ≡ true) (sym is) refl
    by false h = plain (nat_lt 0 (escape_letter b)) (nat_lt b 32) h

escaped : (s : List ℕ) → is_one_line (escape s) ≡ true
escaped [] = refl
escaped (b ∷ s) = joined (escape_byte b) (escape s) (escaped_byte b) (escaped s)

quoted_line : (s : List ℕ) → is_one_line (quoted s) ≡ true
quoted_line s = joined (escape s) (34 ∷ []) (escaped s) refl

-- ---- numbers

other : (d : ℕ) → digit_value d < 10 → (d == 10) ≡ false
other d h = by (d == 10) refl
  where
    by : (c : Bool) → (d == 10) ≡ c → c ≡ false
    by true e =
        let is : d ≡ 10 = grind (arith, nat_tests) in
        let bad : digit_value 10 < 10 = subst (λ v. digit_value v < 10) is h in
        absurd (omega (arith, bad))
    by false e = refl

digits_line : (ds : List ℕ) → AllDigits 10 ds → is_one_line ds ≡ true
digits_line [] h = refl
digits_line (d ∷ ds) h =
    ap (λ c. not c && is_one_line ds) (other d h.0) ∙ digits_line ds h.1

decimal_line : (n : ℕ) → n < 2 ^ 64 → is_one_line (decimal n) ≡ true
decimal_line n h = digits_line (decimal n) (decimal_is_IsNumeral n h).0.1

-- ---- values

comma : (later : Bool) → is_one_line (comma_if later) ≡ true
comma true = refl
comma false = refl

mutual
  pub one_line : (d : Data) → NumbersFit d → is_one_line (compact_text d) ≡ true
  one_line null h = refl
  one_line (boolean true) h = refl
  one_line (boolean false) h = refl
  one_line (number (unsigned n)) h = decimal_line n h
  one_line (number (negative (pos n))) h = decimal_line n (omega arith)
  one_line (number (negative (negsuc n))) h = decimal_line (suc n) (omega arith)
  one_line (number (float x)) h = absurd h
  one_line (string s) h = quoted_line s
  one_line (array ds) h = items_line false ds h
  one_line (object ms) h = members_line false ms h

  items_line : (later : Bool) (ds : Items) → ItemsFit ds → is_one_line (items_text later ds) ≡ true
  items_line later no_items h = refl
  items_line later (item d ds) h =
      joined (comma_if later) (compact_text d ++ items_text true ds) (comma later)
      (joined (compact_text d) (items_text true ds) (one_line d h.0) (items_line true ds h.1))

  members_line : (later : Bool) (ms : Members) → MembersFit ms → is_one_line (members_text later ms) ≡ true
  members_line later no_members h = refl
  members_line later (member k d ms) h =
      joined (comma_if later) (quoted k ++ 58 ∷ (compact_text d ++ members_text true ms)) (comma later)
      (joined (quoted k) (58 ∷ (compact_text d ++ members_text true ms)) (quoted_line k)
      (joined (compact_text d) (members_text true ms) (one_line d h.0) (members_line true ms h.1)))
