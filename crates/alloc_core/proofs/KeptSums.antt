-- The sums that are kept of allocations, as one comes or goes.
use Rattle.std.proofs.Common.{◌≡◌, ℕ, ◌+◌, Bool, true, false, cond, ◌&&◌, List, [], ◌∷◌}
use Rattle.std.proofs.Common.{get_or, map, Option, Some, None, refl, sym, ap, ◌∙◌, arith}
use Rattle.std.specs.Prelude.{◌-◌, ◌==◌}
use Rattle.std.specs.FinMap as table
use Rattle.std.proofs.lemmas.Bool.{eqb-true, eq-eqb}
use Rattle.word_core.specs.Numbered.{is_same_number}
use Rattle.sheet_core.specs.Sheet.{Table, key_cmp}
use Rattle.sheet_core.proofs.Conditions.{and_both, and_parts}
use Rattle.sheet_core.proofs.Keys.{key_eq, key_eq_is, keys_total}
use Rattle.sheet_core.proofs.Totals.{entries-empty, of_option, sum-insert, sum-remove}
use Rattle.alloc_core.specs.Allocations.{amount_where, is_for_line, is_for_sale_line, sum_where}
use Rattle.alloc_core.specs.ShareSums.{AreSums, adds_to, amount_of, counted_in, counts_in, is_same_share, share_digits}
use Rattle.alloc_core.specs.ShareSums.{share_in, share_of, sum_at}
use Rattle.alloc_core.specs.declared.allocation.Allocation.{Allocation}
use Rattle.alloc_core.specs.declared.purpose.Purpose.{Purpose}
use Rattle.alloc_core.specs.declared.purpose.Purpose.TheVariants as purpose
use Rattle.alloc_core.specs.declared.share.Share.{Share}
use Rattle.alloc_core.specs.declared.share.Share.TheVariants.{Item, SaleLine, BuildLine}
use Rattle.alloc_core.specs.declared.share_sums.Sum.{Sum}
use Rattle.alloc_core.proofs.SameNumbers.{number-same, same-number}

-- ---- what an allocation counts in

-- a test of two numbers, as keys of two digits
two_digits : (d m n : ℕ) → (m == n) ≡ key_eq (d ∷ n ∷ []) (d ∷ m ∷ [])
two_digits d m n =
    key_eq_is (m == n) (d ∷ n ∷ []) (d ∷ m ∷ [])
    (λ e. ap (λ x. d ∷ x ∷ []) (sym (eqb-true m n e)))
    (λ e. eq-eqb m n (sym (ap (λ (k : List ℕ). get_or k 1 0) e)))

-- the output of a share, as its digits tell it
abbrev output_in : List ℕ → Option ℕ
output_in (a ∷ b ∷ c ∷ o ∷ k) = Some o
output_in k = None

output-told : (b l : ℕ) (o : Option ℕ) → output_in (share_digits (BuildLine b l o)) ≡ o
output-told b l None = refl
output-told b l (Some o) = refl

build-told : (b l : ℕ) (o : Option ℕ) → get_or (share_digits (BuildLine b l o)) 1 0 ≡ b
build-told b l None = refl
build-told b l (Some o) = refl

line-told : (b l : ℕ) (o : Option ℕ) → get_or (share_digits (BuildLine b l o)) 2 0 ≡ l
line-told b l None = refl
line-told b l (Some o) = refl

-- a test of a line of a build and an output, as keys
three_digits : (b l : ℕ) (o : Option ℕ) (b' l' : ℕ) (o' : Option ℕ)
    → (((b' == b) && (l' == l)) && is_same_number o' o) ≡ is_same_share (BuildLine b l o) (BuildLine b' l' o')
three_digits b l o b' l' o' =
    key_eq_is (((b' == b) && (l' == l)) && is_same_number o' o)
    (share_digits (BuildLine b l o)) (share_digits (BuildLine b' l' o')) to from
  where
    to : (((b' == b) && (l' == l)) && is_same_number o' o) ≡ true
        → share_digits (BuildLine b l o) ≡ share_digits (BuildLine b' l' o')
    to e =
        let all = and_parts ((b' == b) && (l' == l)) (is_same_number o' o) e in
        let both = and_parts (b' == b) (l' == l) all.0 in
        ap (λ x. share_digits (BuildLine x l o)) (sym (eqb-true b' b both.0))
        ∙ ap (λ x. share_digits (BuildLine b' x o)) (sym (eqb-true l' l both.1))
        ∙ ap (λ x. share_digits (BuildLine b' l' x)) (sym (same-number o' o all.1))

    from : share_digits (BuildLine b l o) ≡ share_digits (BuildLine b' l' o')
        → (((b' == b) && (l' == l)) && is_same_number o' o) ≡ true
    from e =
        let builds : b ≡ b' = sym (build-told b l o) ∙ ap (λ (k : List ℕ). get_or k 1 0) e ∙ build-told b' l' o' in
        let lines : l ≡ l' = sym (line-told b l o) ∙ ap (λ (k : List ℕ). get_or k 2 0) e ∙ line-told b' l' o' in
        let outputs : o ≡ o' = sym (output-told b l o) ∙ ap output_in e ∙ output-told b' l' o' in
        and_both ((b' == b) && (l' == l)) (is_same_number o' o)
        (and_both (b' == b) (l' == l) (eq-eqb b' b (sym builds)) (eq-eqb l' l (sym lines)))
        (ap (is_same_number o') outputs ∙ number-same o')

-- shares of other kinds differ
sale_not_build : (n b l : ℕ) (o : Option ℕ) → is_same_share (SaleLine n) (BuildLine b l o) ≡ false
sale_not_build n b l None = refl
sale_not_build n b l (Some o) = refl

item_not_build : (n b l : ℕ) (o : Option ℕ) → is_same_share (Item n) (BuildLine b l o) ≡ false
item_not_build n b l None = refl
item_not_build n b l (Some o) = refl

build_not_item : (n b l : ℕ) (o : Option ℕ) → is_same_share (BuildLine b l o) (Item n) ≡ false
build_not_item n b l None = refl
build_not_item n b l (Some o) = refl

build_not_sale : (n b l : ℕ) (o : Option ℕ) → is_same_share (BuildLine b l o) (SaleLine n) ≡ false
build_not_sale n b l None = refl
build_not_sale n b l (Some o) = refl

first_only : (q : ℕ) (b c d : Bool) → b ≡ c → d ≡ false → cond b q 0 ≡ cond c q 0 + cond d q 0
first_only q b c d e off =
    let same : cond b q 0 ≡ cond c q 0 = ap (λ x. cond x q 0) e in
    let none : cond d q 0 ≡ 0 = ap (λ x. cond x q 0) off in
    omega (arith, same, none)

second_only : (q : ℕ) (b c d : Bool) → b ≡ d → c ≡ false → cond b q 0 ≡ cond c q 0 + cond d q 0
second_only q b c d e off =
    let same : cond b q 0 ≡ cond d q 0 = ap (λ x. cond x q 0) e in
    let none : cond c q 0 ≡ 0 = ap (λ x. cond x q 0) off in
    omega (arith, same, none)

-- whether what is for a purpose, and of an item, counts in a share
abbrev counted : Share → ℕ → Purpose → Bool
counted (Item n) item p = item == n
counted (SaleLine line) item p = is_for_sale_line line p
counted (BuildLine build line output) item p = is_for_line build line output p

counts-told : (share : Share) (a : Allocation) → counts_in share a ≡ counted share a.item a.purpose
counts-told (Item n) a = refl
counts-told (SaleLine line) a = refl
counts-told (BuildLine build line output) a = refl

split : (q item : ℕ) (share : Share) (p : Purpose) → cond (counted share item p) q 0
    ≡ cond (is_same_share share (Item item)) q 0 + cond (is_same_share share (share_of p)) q 0
split q item (Item n) (purpose.Sale order line) =
    first_only q (item == n) (is_same_share (Item n) (Item item)) false (two_digits 0 item n) refl
split q item (Item n) (purpose.Build build line output) =
    first_only q (item == n) (is_same_share (Item n) (Item item)) (is_same_share (Item n) (BuildLine build line output))
    (two_digits 0 item n) (item_not_build n build line output)
split q item (SaleLine n) (purpose.Sale order line) =
    second_only q (line == n) false (is_same_share (SaleLine n) (SaleLine line)) (two_digits 1 line n) refl
split q item (SaleLine n) (purpose.Build build line output) =
    second_only q false false (is_same_share (SaleLine n) (BuildLine build line output))
    (sym (sale_not_build n build line output)) refl
split q item (BuildLine b l o) (purpose.Sale order line) =
    second_only q false (is_same_share (BuildLine b l o) (Item item)) (is_same_share (BuildLine b l o) (SaleLine line))
    (sym (build_not_sale line b l o)) (build_not_item item b l o)
split q item (BuildLine b l o) (purpose.Build build line output) =
    second_only q (((build == b) && (line == l)) && is_same_number output o)
    (is_same_share (BuildLine b l o) (Item item)) (is_same_share (BuildLine b l o) (BuildLine build line output))
    (three_digits b l o build line output) (build_not_item item b l o)

-- an allocation counts in the share of its item, in that of what it is for, and in no other
pub counts-split : (a : Allocation) (share : Share) → amount_where (counts_in share) a
    ≡ adds_to (Item a.item) a.quantity share + adds_to (share_of a.purpose) a.quantity share
counts-split a share =
    ap (λ b. cond b a.quantity 0) (counts-told share a) ∙ split a.quantity a.item share a.purpose

-- ---- what is kept, once a sum is written

module _ (t : Table Sum) (share : Share) where
  by_share : (b : Bool) (o p : Option Sum) → amount_of (cond b o p) ≡ cond b (amount_of o) (amount_of p)
  by_share true o p = refl
  by_share false o p = refl

  -- an amount that is put
  pub sum-put : (x : Sum) (other : Share)
      → sum_at other (table.insert t (share_digits share) x) ≡ cond (is_same_share other share) x.amount (sum_at other t)
  sum-put x other =
      ap amount_of (table.get-insert keys_total t (share_digits share) x (share_digits other))
      ∙ by_share (is_same_share other share) (Some x) (table.get t (share_digits other))

  -- and one that goes
  pub sum-gone : (other : Share)
      → sum_at other (table.remove t (share_digits share)) ≡ cond (is_same_share other share) 0 (sum_at other t)
  sum-gone other =
      ap amount_of (table.get-remove keys_total t (share_digits share) (share_digits other))
      ∙ by_share (is_same_share other share) None (table.get t (share_digits other))

-- ---- what is kept, once a row comes or goes

-- the same sums are of the same rows
pub sums-stay : (t t' : Table Allocation) (sums sums' : Table Sum) → t' ≡ t → sums' ≡ sums → AreSums t sums
    → AreSums t' sums'
sums-stay t t' sums sums' rows kept are share =
    ap (sum_at share) kept ∙ are share ∙ sym (ap (share_in share) rows)

-- no rows add up to nothing
pub sums-none : (t : Table Allocation) (sums : Table Sum) → t ≡ table.empty → sums ≡ table.empty → AreSums t sums
sums-none t sums no_rows no_sums share =
    ap (sum_at share) no_sums
    ∙ ap amount_of (table.get-empty key_cmp (share_digits share))
    ∙ sym (ap (share_in share) no_rows
    ∙ ap (λ (es : List (List ℕ × Allocation)). sum_where (counts_in share) (map (λ e. e.1) es)) entries-empty)

module _ (t : Table Allocation) (k : List ℕ) (sums : Table Sum) (are : AreSums t sums) where
  abbrev f : Share → Allocation → ℕ
  f share = amount_where (counts_in share)

  as_option : (share : Share) (o : Option Allocation) → counted_in share o ≡ of_option (f share) o
  as_option share None = refl
  as_option share (Some a) = refl

  -- once what stands under the key is taken out
  pub sums-removed : (new : Table Sum)
      → ((share : Share) → sum_at share new ≡ sum_at share sums - counted_in share (table.get t k))
      → AreSums (table.remove t k) new
  sums-removed new taken share =
      omega (arith, taken share, are share, sum-remove (f share) t k, as_option share (table.get t k))

  -- and once a row has come in its place
  pub sums-inserted : (a : Allocation) (gone new : Table Sum) → AreSums (table.remove t k) gone
      → ((share : Share) → sum_at share new ≡ sum_at share gone + f share a)
      → AreSums (table.insert t k a) new
  sums-inserted a gone new less added share =
      omega (arith, added share, less share, sum-insert (f share) t k a)
