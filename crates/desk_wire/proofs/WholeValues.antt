-- Values whose numbers are written as such: what was read of a text is one, where it has no float.
use Rattle.std.proofs.Common.{◌≡◌, refl, ℕ, zero, suc, ◌<◌, ◌≤◌, ◌^◌, ◌&&◌, ◌==◌, List, Bool, true, false, cond, sym, subst, arith, pos}
use Rattle.std.proofs.Common.{Ordering, Less, Equal, Greater, nat_cmp, nat_lt, nat_le, neg_ℤ}
use Rattle.std.specs.Prelude.{Option, Some, None, option_and_then, option_map, drop, slice_index}
use Rattle.std.specs.Cmp.Lexicographic.{slice_cmp}
use Rattle.std.specs.Ordering.{match_ordering}
use Rattle.std.specs.Float.{binary64, float_is_finite}
use Rattle.std.proofs.lemmas.Bool.{and_parts, or_parts, leb-true, ltb-true, true≢false}
use Rattle.fast_float.specs.Text.{Parts, digits_of, minus, nearest, scan, with_sign}
use lib.Signed.{mag}
use Rattle.json.specs.Json as json
use Rattle.json.specs.Lex.{tokens}
use Rattle.json.specs.Tree.{HasNumbers, ItemsHaveNumbers, MembersHaveNumbers}
use Rattle.json.proofs.Printed.Decimals.{IsNumber-decimal, IsNumber-signed_decimal}
use Rattle.serde_json.specs.Data.{Data, Items, Members, Num, array, boolean, float, item, member, negative, no_items, no_members, null, number, object, put, string, unsigned}
use Rattle.serde_json.specs.Find.{is_float}
use Rattle.serde_json.specs.Read.{float_of, is_integer, number_from, number_of, of_items, max_depth, of_json, of_members, read}
use Rattle.serde_json.specs.Written.{has_float, items_have_float, items_outline, members_have_float, members_outline, outline}

-- ---- numbers of 64 bits

abbrev pub Fits : Num → Type 0
Fits (unsigned n) = n < 2 ^ 64
Fits (negative z) = mag z < 2 ^ 63
Fits (float x) = ⊥

abbrev mutual
  pub NumbersFit : Data → Type 0
  NumbersFit null = Unit {0}
  NumbersFit (boolean b) = Unit {0}
  NumbersFit (number n) = Fits n
  NumbersFit (string s) = Unit {0}
  NumbersFit (array ds) = ItemsFit ds
  NumbersFit (object ms) = MembersFit ms

  pub ItemsFit : Items → Type 0
  ItemsFit no_items = Unit {0}
  ItemsFit (item d ds) = NumbersFit d × ItemsFit ds

  pub MembersFit : Members → Type 0
  MembersFit no_members = Unit {0}
  MembersFit (member k d ms) = NumbersFit d × MembersFit ms

mutual
  pub has_numbers : (d : Data) → NumbersFit d → HasNumbers (outline d)
  has_numbers null h = tt
  has_numbers (boolean b) h = tt
  has_numbers (number (unsigned n)) h = IsNumber-decimal n h
  has_numbers (number (negative z)) h = IsNumber-signed_decimal z h
  has_numbers (number (float x)) h = absurd h
  has_numbers (string s) h = tt
  has_numbers (array ds) h = items_have_numbers ds h
  has_numbers (object ms) h = members_have_numbers ms h

  items_have_numbers : (ds : Items) → ItemsFit ds → ItemsHaveNumbers (items_outline ds)
  items_have_numbers no_items h = tt
  items_have_numbers (item d ds) h = (has_numbers d h.0, items_have_numbers ds h.1)

  members_have_numbers : (ms : Members) → MembersFit ms → MembersHaveNumbers (members_outline ms)
  members_have_numbers no_members h = tt
  members_have_numbers (member k d ms) h = (has_numbers d h.0, members_have_numbers ms h.1)

pub put-fits : (k : List ℕ) (d : Data) (ms : Members) → NumbersFit d → MembersFit ms → MembersFit (put k d ms)
put-fits k d no_members h m = (h, tt)
put-fits k d (member l e ms) h m = by (slice_cmp nat_cmp k l) (put-fits k d ms h m.1)
  where
    by : (o : Ordering) → MembersFit (put k d ms)
        → MembersFit (match_ordering o (member k d (member l e ms)) (member l d ms) (member l e (put k d ms)))
    by Less later = (h, m)
    by Equal later = (h, m.1)
    by Greater later = (m.0, later)

-- ---- a number that was read

no_float : (sign : Bool) (p : Parts) (n : Num) → float_of sign p ≡ Some n → is_float n ≡ false → Fits n
no_float sign p n e h = by (float_is_finite (nearest binary64 sign p)) e
  where
    by : (c : Bool) → cond c (Some (float (nearest binary64 sign p))) None ≡ Some n → Fits n
    by true e =
        let is : float (nearest binary64 sign p) ≡ n = cc in
        absurd (true≢false (subst (λ m. is_float m ≡ false) (sym is) h))
    by false e = absurd (cc)

small : (n : ℕ) → 0 < n → n ≤ 2 ^ 63 → mag (neg_ℤ (pos n)) < 2 ^ 63
small zero h k = absurd (omega arith)
small (suc n) h k = omega arith

fits_from : (sign : Bool) (p : Parts) (n : Num) → number_from sign p ≡ Some n → is_float n ≡ false → Fits n
fits_from false p n e h = by (is_integer p && nat_lt (digits_of p) (2 ^ 64)) refl e
  where
    by : (c : Bool) → (is_integer p && nat_lt (digits_of p) (2 ^ 64)) ≡ c
        → cond c (Some (unsigned (digits_of p))) (float_of false p) ≡ Some n → Fits n
    by true q e =
        let is : unsigned (digits_of p) ≡ n = cc in
        subst Fits is (ltb-true (digits_of p) (2 ^ 64) (and_parts (is_integer p) (nat_lt (digits_of p) (2 ^ 64)) q).1)
    by false q e = no_float false p n e h
fits_from true p n e h = by (is_integer p && nat_lt 0 (digits_of p) && nat_le (digits_of p) (2 ^ 63)) refl e
  where
    by : (c : Bool) → (is_integer p && nat_lt 0 (digits_of p) && nat_le (digits_of p) (2 ^ 63)) ≡ c
        → cond c (Some (negative (with_sign true (digits_of p)))) (float_of true p) ≡ Some n → Fits n
    by true q e =
        let is : negative (with_sign true (digits_of p)) ≡ n = cc in
        let parts = and_parts (is_integer p && nat_lt 0 (digits_of p)) (nat_le (digits_of p) (2 ^ 63)) q in
        let some = ltb-true 0 (digits_of p) (and_parts (is_integer p) (nat_lt 0 (digits_of p)) parts.0).1 in
        let few = leb-true (digits_of p) (2 ^ 63) parts.1 in
        subst Fits is (small (digits_of p) some few)
    by false q e = no_float true p n e h

number_fits : (s : List ℕ) (n : Num) → number_of s ≡ Some n → is_float n ≡ false → Fits n
unfolding number_of
number_fits s n e h = by (slice_index s 0 == minus) e
  where
    by : (c : Bool) → cond c (number_from true (scan (drop 1 s))) (number_from false (scan s)) ≡ Some n → Fits n
    by true e = fits_from true (scan (drop 1 s)) n e h
    by false e = fits_from false (scan s) n e h

-- ---- a value that was read

-- it fits unless it has a float
abbrev WholeFits : Data → Type 0
WholeFits d = has_float d ≡ false → NumbersFit d

abbrev AllWholeFit : Members → Type 0
AllWholeFit no_members = Unit {0}
AllWholeFit (member k d ms) = WholeFits d × AllWholeFit ms

put-whole : (k : List ℕ) (d : Data) (ms : Members) → WholeFits d → AllWholeFit ms → AllWholeFit (put k d ms)
put-whole k d no_members h m = (h, tt)
put-whole k d (member l e ms) h m = by (slice_cmp nat_cmp k l) (put-whole k d ms h m.1)
  where
    by : (o : Ordering) → AllWholeFit (put k d ms)
        → AllWholeFit (match_ordering o (member k d (member l e ms)) (member l d ms) (member l e (put k d ms)))
    by Less later = (h, m)
    by Equal later = (h, m.1)
    by Greater later = (m.0, later)

all_fit : (ms : Members) → AllWholeFit ms → members_have_float ms ≡ false → MembersFit ms
all_fit no_members h n = tt
all_fit (member k d ms) h n =
    let parts = or_parts (has_float d) (members_have_float ms) n in (h.0 parts.0, all_fit ms h.1 parts.1)

from_some : {A B : Type 0} (f : A → B) (o : Option A) (b : B) → option_map f o ≡ Some b → (a : A) × (o ≡ Some a) × (f a ≡ b)
from_some f None b e = absurd (cc)
from_some f (Some a) b e = let same : f a ≡ b = cc in (a, refl, same)

item_fits : (js : json.Items) (o : Option Data) → ((d : Data) → o ≡ Some d → WholeFits d)
    → ((ds : Items) → of_items js ≡ Some ds → items_have_float ds ≡ false → ItemsFit ds) → (ds : Items)
    → option_and_then (λ d. option_map (item d) (of_items js)) o ≡ Some ds → items_have_float ds ≡ false → ItemsFit ds
item_fits js None one more ds e h = absurd (cc)
item_fits js (Some d) one more ds e h =
    let (rest, from, is) = from_some (item d) (of_items js) ds e in
    let whole = subst (λ v. items_have_float v ≡ false) (sym is) h in
    let parts = or_parts (has_float d) (items_have_float rest) whole in
    subst ItemsFit is (one d refl parts.0, more rest from parts.1)

member_fits : (k : List ℕ) (js : json.Members) (o : Option Data) → ((d : Data) → o ≡ Some d → WholeFits d)
    → ((found ms : Members) → AllWholeFit found → of_members js found ≡ Some ms → AllWholeFit ms) → (found ms : Members)
    → AllWholeFit found → option_and_then (λ d. of_members js (put k d found)) o ≡ Some ms → AllWholeFit ms
member_fits k js None one more found ms a e = absurd (cc)
member_fits k js (Some d) one more found ms a e = more (put k d found) ms (put-whole k d found (one d refl) a) e

mutual
  read_fits : (j : json.Json) (d : Data) → of_json j ≡ Some d → WholeFits d
  read_fits json.null d e h = let is : null ≡ d = cc in subst NumbersFit is tt
  read_fits (json.boolean b) d e h = let is : boolean b ≡ d = cc in subst NumbersFit is tt
  read_fits (json.number s) d e h =
      let (n, from, is) = from_some number (number_of s) d e in
      subst NumbersFit is (number_fits s n from (subst (λ v. has_float v ≡ false) (sym is) h))
  read_fits (json.string s) d e h = let is : string s ≡ d = cc in subst NumbersFit is tt
  read_fits (json.array js) d e h =
      let (ds, from, is) = from_some array (of_items js) d e in
      subst NumbersFit is (items_fit js ds from (subst (λ v. has_float v ≡ false) (sym is) h))
  read_fits (json.object js) d e h =
      let (ms, from, is) = from_some object (of_members js no_members) d e in
      subst NumbersFit is (all_fit ms (members_fit js no_members ms tt from) (subst (λ v. has_float v ≡ false) (sym is) h))

  items_fit : (js : json.Items) (ds : Items) → of_items js ≡ Some ds → items_have_float ds ≡ false → ItemsFit ds
  items_fit json.no_items ds e h = let is : no_items ≡ ds = cc in subst ItemsFit is tt
  items_fit (json.item j js) ds e h =
      item_fits js (of_json j) (λ d q. read_fits j d q) (λ rest q n. items_fit js rest q n) ds e h

  members_fit : (js : json.Members) (found ms : Members) → AllWholeFit found → of_members js found ≡ Some ms
      → AllWholeFit ms
  members_fit json.no_members found ms a e = let is : found ≡ ms = cc in subst AllWholeFit is a
  members_fit (json.member k j js) found ms a e =
      member_fits k js (of_json j) (λ d q. read_fits j d q) (λ found ms a e. members_fit js found ms a e) found ms a e

pub whole_fits : (text : List ℕ) (d : Data) → read text ≡ Some d → has_float d ≡ false → NumbersFit d
whole_fits text d e h =
    by (option_and_then (λ p. json.if_last p.0 p.1) (json.value max_depth (tokens text))) e
  where
    by : (o : Option json.Json) → option_and_then of_json o ≡ Some d → NumbersFit d
    by None q = absurd (cc)
    by (Some j) q = read_fits j d q h
