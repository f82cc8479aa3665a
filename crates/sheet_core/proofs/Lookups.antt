-- Look-ups by a key, and reads and writes by a place, as the digits of the keys see them.
use Rattle.std.proofs.Common.{◌≡◌, ◌↔◌, ℕ, suc, zero, ◌<◌, Bool, false, cond, List, [], ◌∷◌, map, Option}
use Rattle.std.proofs.Common.{Some, None, set, get_or, position, length, refl, sym, ap, ◌∙◌, arith}
use Rattle.std.specs.Prelude.{slice_get, option_copied, option_map, is_some, IsTrue, IfSome, IfNone}
use Rattle.std.specs.Borrow.{Bor}
use Rattle.std.specs.List.{AllByRecursion, IsDistinct as IsDistinctBy}
use Rattle.std.specs.Map.{keys_of, values_of, lookup}
use Rattle.std.proofs.lemmas.List.Quantifiers.{position-Some}
use Rattle.std.proofs.lemmas.Option.{slice_get-map, slice_get-get_or}
use Rattle.indexmap.specs.IndexMap.{set_value_at}
use Rattle.sheet_core.specs.declared.slots.Held.{Held}
use Rattle.sheet_core.specs.Sheet.{IsDistinct, HasKeyAt}
use Rattle.std.specs.FinMap as table
use Rattle.sheet_core.specs.Slots.{slots_of, table_by}
use Rattle.sheet_core.proofs.Keys.{key_eq, key_eq_is}
use Rattle.sheet_core.proofs.Entries.{find_in}
use Rattle.sheet_core.proofs.SlotLemmas.{seen, get-table}

pub none_is : {A : Type 0} (o : Option A) → is_some o ≡ false → o ≡ None
none_is None e = refl
none_is (Some x) e = cc

pub is_some-copied : {T : Type 0} (o : Option (Bor T)) → is_some o ≡ is_some (option_copied o)
is_some-copied None = refl
is_some-copied (Some x) = refl

same_test : {K : Type 0} (digits : K → List ℕ) (eq : K → K → Bool)
    (exact : (a b : K) → IsTrue (eq a b) ↔ (digits a ≡ digits b)) (a b : K) → eq a b ≡ key_eq (digits a) (digits b)
same_test digits eq exact a b = key_eq_is (eq a b) (digits a) (digits b) (exact a b).0 (exact a b).1

-- a key stands within the slots
pub within-key : {X : Type 0} (es : List (List ℕ × X)) (i : ℕ) (k : List ℕ) → HasKeyAt es i k → i < length es
within-key [] i k at = cc
within-key (e ∷ es) zero k at = omega arith
within-key (e ∷ es) (suc i) k at = let rest = within-key es i k at in omega arith

module _ {K X : Type 0} (digits : K → List ℕ) where
  keys-slots : (es : List (K × Held X))
      → map (λ (e : List ℕ × Held X). e.0) (slots_of digits es) ≡ map digits (keys_of es)
  keys-slots [] = refl
  keys-slots (e ∷ es) = ap (λ ks. digits e.0 ∷ ks) (keys-slots es)

  -- a value is written
  pub slots-written : (es : List (K × Held X)) (i : ℕ) (k : List ℕ) (h w : Held X)
      → slice_get (slots_of digits es) i ≡ Some (k, h)
      → slots_of digits (set_value_at es i w) ≡ set (slots_of digits es) i (k, w)
  slots-written [] i k h w at = cc
  slots-written (e ∷ es) zero k h w at = ap (λ q. (q, w) ∷ slots_of digits es) (same_key (digits e.0, e.1) (k, h) at)
    where
      same_key : (a b : List ℕ × Held X) → Some a ≡ Some b → a.0 ≡ b.0
      same_key a b s = cc
  slots-written (e ∷ es) (suc i) k h w at = ap (λ r. (digits e.0, e.1) ∷ r) (slots-written es i k h w at)

  -- a write leaves the keys
  pub key-stays : (es : List (K × Held X)) (i j : ℕ) (w : Held X) (k : List ℕ) → HasKeyAt (slots_of digits es) j k
      → HasKeyAt (slots_of digits (set_value_at es i w)) j k
  key-stays [] i j w k at = at
  key-stays (e ∷ es) zero zero w k at = at
  key-stays (e ∷ es) zero (suc j) w k at = at
  key-stays (e ∷ es) (suc i) zero w k at = at
  key-stays (e ∷ es) (suc i) (suc j) w k at = key-stays es i j w k at

  -- an entry stands at each place
  pub entry_at : (es : List (K × Held X)) (i : ℕ) → i < length es → (e : K × Held X) × (slice_get es i ≡ Some e)
  entry_at [] i within = absurd (omega arith)
  entry_at (e ∷ es) zero within = (e, refl)
  entry_at (e ∷ es) (suc i) within = entry_at es i (omega arith)

  -- the entry of a value that stands there
  pub entry_of_value : (es : List (K × Held X)) (i : ℕ) (h : Held X) → slice_get (values_of es) i ≡ Some h
      → (e : K × Held X) × (slice_get es i ≡ Some e) × (Some e.1 ≡ Some h)
  entry_of_value [] i h at = cc
  entry_of_value (e ∷ es) zero h at = (e, refl, at)
  entry_of_value (e ∷ es) (suc i) h at = entry_of_value es i h at

  -- the slot of a value that stands there
  pub slot_of_value : (es : List (K × Held X)) (i : ℕ) (h : Held X) → slice_get (values_of es) i ≡ Some h
      → (k : List ℕ) × (slice_get (slots_of digits es) i ≡ Some (k, h))
  slot_of_value [] i h at = cc
  slot_of_value (e ∷ es) zero h at = (digits e.0, ap (λ (o : Option (Held X)). option_map (λ v. (digits e.0, v)) o) at)
  slot_of_value (e ∷ es) (suc i) h at = slot_of_value es i h at

  pub slot_of_key : (es : List (K × Held X)) (i : ℕ) (k : List ℕ) (h : Held X) → slice_get (values_of es) i ≡ Some h
      → HasKeyAt (slots_of digits es) i k → slice_get (slots_of digits es) i ≡ Some (k, h)
  slot_of_key es i k h at key =
      let s = slot_of_value es i h at in
      let same : s.0 ≡ k = same_key s.0 k (sym (ap (option_map (λ (e : List ℕ × Held X). e.0)) s.1) ∙ key) in
      s.1 ∙ ap (λ q. Some (q, h)) same
    where
      same_key : (a b : List ℕ) → Some a ≡ Some b → a ≡ b
      same_key a b e = cc

  module _ (eq : K → K → Bool) (exact : (a b : K) → IsTrue (eq a b) ↔ (digits a ≡ digits b)) where
    -- what a map has at a key is what is found under its digits
    pub find-lookup : (es : List (K × Held X)) (k : K) → find_in (digits k) (slots_of digits es) ≡ lookup (eq k) es
    find-lookup [] k = refl
    find-lookup (e ∷ es) k =
        ap (λ b. cond b (Some e.1) (find_in (digits k) (slots_of digits es))) (sym (same_test digits eq exact k e.0))
        ∙ ap (cond (eq k e.0) (Some e.1)) (find-lookup es k)

    -- a key with no place is not found
    pub place-absent : (es : List (K × Held X)) (k : K) → is_some (lookup (eq k) es) ≡ false
        → find_in (digits k) (slots_of digits es) ≡ None
    place-absent es k none = find-lookup es k ∙ none_is (lookup (eq k) es) none

    -- a key stands at its place
    pub place-found : (es : List (K × Held X)) (k : K) (i : ℕ) → position (eq k) (keys_of es) ≡ Some i
        → HasKeyAt (slots_of digits es) i (digits k)
    place-found es k i at =
        let here = position-Some (eq k) (keys_of es) i k at in
        let same : digits (get_or (keys_of es) i k) ≡ digits k = sym ((exact k (get_or (keys_of es) i k)).0 here.1) in
        sym (slice_get-map (λ (e : List ℕ × Held X). e.0) (slots_of digits es) i)
        ∙ ap (λ ks. slice_get ks i) (keys-slots es)
        ∙ slice_get-map digits (keys_of es) i
        ∙ ap (option_map digits) (slice_get-get_or (keys_of es) i k here.0)
        ∙ ap Some same

    absent-all : (k : K) (es : List (K × Held X)) → AllByRecursion (λ y. eq k y ≡ false) (keys_of es)
        → find_in (digits k) (slots_of digits es) ≡ None
    absent-all k [] all = refl
    absent-all k (e ∷ es) all =
        ap (λ b. cond b (Some e.1) (find_in (digits k) (slots_of digits es)))
        (sym (same_test digits eq exact k e.0) ∙ all.0) ∙ absent-all k es all.1

    -- a map's keys are distinct, and so are their digits
    pub distinct-slots : (es : List (K × Held X)) → IsDistinctBy eq (keys_of es) → IsDistinct (slots_of digits es)
    unfolding IsDistinctBy
    distinct-slots [] d = tt
    distinct-slots (e ∷ es) d = (absent-all e.0 es d.0, distinct-slots es d.1)

    pub place-is_found : (es : List (K × Held X)) (k : K) (o : Option ℕ) → o ≡ position (eq k) (keys_of es)
        → IfSome o (λ i. HasKeyAt (slots_of digits es) i (digits k))
    place-is_found es k None at = tt
    place-is_found es k (Some i) at = place-found es k i (sym at)

    pub place-is_absent : (es : List (K × Held X)) (k : K) (o : Option ℕ) → is_some o ≡ is_some (lookup (eq k) es)
        → IfNone o (find_in (digits k) (slots_of digits es) ≡ None)
    place-is_absent es k None none = place-absent es k (sym none)
    place-is_absent es k (Some i) none = tt

    -- what a table has at a key is what the map's slot tells
    pub row-lookup : (f : Held X → Option X) (es : List (K × Held X)) (k : K) → IsDistinct (slots_of digits es)
        → table.get (table_by f (slots_of digits es)) (digits k) ≡ seen f (lookup (eq k) es)
    row-lookup f es k d = get-table f (slots_of digits es) (digits k) d ∙ ap (seen f) (find-lookup es k)
