-- A slot that is written, put last or taken out, as the tables and the places of the changes see it.
use Rattle.std.proofs.Common.{◌≡◌, ◌≢◌, ◌⊎◌, inl, inr, ℕ, suc, zero, true, ◌+◌, ◌-◌, ◌<◌, List, [], ◌∷◌, ◌++◌, map}
use Rattle.std.proofs.Common.{take, length, Option, Some, None, set, get_or, refl, sym, ap, ◌∙◌, subst, arith}
use Rattle.std.specs.Prelude.{slice_get, is_some, option_map, swap_remove, ◌^◌}
use Rattle.std.specs.FinMap as table
use Rattle.std.specs.List.Sorted.{IsPermutation}
use Rattle.std.specs.Map.{values_of}
use Rattle.std.proofs.lemmas.List.{map-append, map-set}
use Rattle.std.proofs.lemmas.List.Sorted.{IsPermutation-map, IsPermutation-swap_remove}
use Rattle.std.proofs.lemmas.Option.{slice_get-map, slice_get-get_or, get_or_from_slice_get, slice_get_within}
use Rattle.indexmap.specs.IndexMap.{set_value_at}
use Rattle.sheet_core.specs.declared.slots.Held.{Held}
use Rattle.sheet_core.specs.Sheet.{IsDistinct, HasKeyAt, Table, given}
use Rattle.sheet_core.specs.Slots.{entry_of, slots_of, noted, now_row, row_before, table_by, noted_at}
use Rattle.sheet_core.specs.Slots.{ArePlaces, AreSlots, IsSound, NoneFrom, IsUnnoted}
use Rattle.sheet_core.proofs.Entries.{find_in, IsDistinct-set, IsDistinct-push}
use Rattle.sheet_core.proofs.SlotLemmas.{distinct-taken, get-slot, len-put_same, len-table, table-taken}
use Rattle.sheet_core.proofs.SlotLemmas.{table-written, table-same, table-added, table-added_none}
use Rattle.sheet_core.proofs.Noted.{noted_at-set_same, noted_at-set_other, noted_at-push_same}
use Rattle.sheet_core.proofs.Noted.{noted_at-push_other, noted_at-past, noted_at-slot}
use Rattle.sheet_core.proofs.Noted.{unnoted-taken, same_or_other, ArePlaces-push, ArePlaces-same}
use Rattle.sheet_core.proofs.Lookups.{key-stays, slot_of_key, slot_of_value, slots-written}

map-take : {A B : Type 0} (f : A → B) (n : ℕ) (xs : List A) → map f (take n xs) ≡ take n (map f xs)
map-take f zero xs = refl
map-take f (suc n) [] = refl
map-take f (suc n) (x ∷ xs) = ap (λ l. f x ∷ l) (map-take f n xs)

pub length-slots : {K X : Type 0} (digits : K → List ℕ) (es : List (K × Held X))
    → length (slots_of digits es) ≡ length es
length-slots digits [] = refl
length-slots digits (e ∷ es) = ap suc (length-slots digits es)

-- there are no more rows than slots
pub few-rows : {K X : Type 0} (digits : K → List ℕ) (es : List (K × Held X)) (n : ℕ)
    → n ≡ table.len (table_by now_row (slots_of digits es)) → length es < 2 ^ 63 → n < 2 ^ 63
few-rows digits es n is few =
    let most = len-table now_row (slots_of digits es) in
    let same = length-slots digits es in
    omega arith

-- the tables of sound slots under other slots
pub sound-as : {X : Type 0} {es : List (List ℕ × Held X)} {is : List ℕ} {now before : Table X} {rows rows_before : ℕ}
    → AreSlots es is → table_by now_row es ≡ now → table_by row_before es ≡ before → rows ≡ table.len now
    → rows_before ≡ table.len before → IsSound es is rows rows_before
sound-as s now before len length_before = record {
  slots = s;
  len = len ∙ ap table.len (sym now);
  length_before = length_before ∙ ap table.len (sym before);
}

module _ {K X : Type 0} (digits : K → List ℕ) (es : List (K × Held X)) where
  module _ (i : ℕ) (k : List ℕ) (h w : Held X) (at : slice_get (slots_of digits es) i ≡ Some (k, h)) where
    written : slots_of digits (set_value_at es i w) ≡ set (slots_of digits es) i (k, w)
    written = slots-written digits es i k h w at

    within : i < length (slots_of digits es)
    within = slice_get_within (slots_of digits es) i (k, h) at

    -- what is noted there is what the new slot has noted
    pub noted-here : noted_at (slots_of digits (set_value_at es i w)) i ≡ noted w
    noted-here = ap (λ l. noted_at l i) written ∙ noted_at-set_same (slots_of digits es) i (k, w) within

    pub noted-others : (j : ℕ) → j ≢ i
        → noted_at (slots_of digits (set_value_at es i w)) j ≡ noted_at (slots_of digits es) j
    noted-others j other = ap (λ l. noted_at l j) written ∙ noted_at-set_other (slots_of digits es) i j (k, w) other

    -- a change that was noted there no longer is
    pub unnoted-written : noted w ≡ 0 → IsUnnoted (slots_of digits es) (slots_of digits (set_value_at es i w)) i
    unnoted-written none = record { here = noted-here ∙ none; others = noted-others }

    places-pushed : (is : List ℕ) → ArePlaces is (slots_of digits es) → noted h ≡ 0 → noted w ≡ 1
        → ArePlaces (is ++ i ∷ []) (slots_of digits (set_value_at es i w))
    places-pushed is p old new =
        ArePlaces-push is (slots_of digits es) p i (slots_of digits (set_value_at es i w))
        (noted_at-slot (slots_of digits es) i (k, h) at ∙ old) (noted-here ∙ new) noted-others

    places-same : (is : List ℕ) → ArePlaces is (slots_of digits es) → noted w ≡ noted h
        → ArePlaces is (slots_of digits (set_value_at es i w))
    places-same is p same =
        ArePlaces-same is (slots_of digits es) p (slots_of digits (set_value_at es i w)) (λ j. by j (same_or_other j i))
      where
        by : (j : ℕ) → (j ≡ i) ⊎ (j ≢ i)
            → noted_at (slots_of digits (set_value_at es i w)) j ≡ noted_at (slots_of digits es) j
        by j (inl e) =
            ap (noted_at (slots_of digits (set_value_at es i w))) e
            ∙ noted-here
            ∙ same
            ∙ sym (ap (noted_at (slots_of digits es)) e ∙ noted_at-slot (slots_of digits es) i (k, h) at)
        by j (inr other) = noted-others j other

    module _ (d : IsDistinct (slots_of digits es)) where
      pub distinct-written : IsDistinct (slots_of digits (set_value_at es i w))
      distinct-written =
          subst IsDistinct (sym written)
          (IsDistinct-set (slots_of digits es) i k w d (ap (option_map (λ (e : List ℕ × Held X). e.0)) at))

      pub rows-written : (f : Held X → Option X)
          → table_by f (slots_of digits (set_value_at es i w)) ≡ given k (f w) (table_by f (slots_of digits es))
      rows-written f = ap (table_by f) written ∙ table-written f (slots_of digits es) i k h w d at

      -- a row is put there
      pub rows-put : (x : X) → now_row w ≡ Some x
          → table_by now_row (slots_of digits (set_value_at es i w))
          ≡ table.insert (table_by now_row (slots_of digits es)) k x
      rows-put x now = rows-written now_row ∙ ap (λ o. given k o (table_by now_row (slots_of digits es))) now

      pub rows-same : (f : Held X → Option X) → f w ≡ f h
          → table_by f (slots_of digits (set_value_at es i w)) ≡ table_by f (slots_of digits es)
      rows-same f same = ap (table_by f) written ∙ table-same f (slots_of digits es) i k h w d at same

    pub slots-pushed : (is : List ℕ) → AreSlots (slots_of digits es) is → noted h ≡ 0 → noted w ≡ 1
        → AreSlots (slots_of digits (set_value_at es i w)) (is ++ i ∷ [])
    slots-pushed is s old new =
        record { distinct = distinct-written s.distinct; places = places-pushed is s.places old new }

    pub slots-same : (is : List ℕ) → AreSlots (slots_of digits es) is → noted w ≡ noted h
        → AreSlots (slots_of digits (set_value_at es i w)) is
    slots-same is s same =
        record { distinct = distinct-written s.distinct; places = places-same is s.places same }

    -- a row is put over another, and what was before stays
    pub sound-put : (is : List ℕ) (len length_before : ℕ) (x : X)
        → IsSound (slots_of digits es) is len length_before → is_some (now_row h) ≡ true → now_row w ≡ Some x
        → row_before w ≡ row_before h → noted w ≡ noted h
        → IsSound (slots_of digits (set_value_at es i w)) is len length_before
    sound-put is len length_before x sound some now before same =
        let m = table_by now_row (slots_of digits es) in
        let d = sound.slots.distinct in
        let has = sym (ap is_some (get-slot now_row (slots_of digits es) i k h d at) ∙ some) in
        record {
          slots = slots-same is sound.slots same;
          len = sound.len ∙ sym (ap table.len (rows-put d x now) ∙ len-put_same m k x true has refl);
          length_before = sound.length_before ∙ sym (ap table.len (rows-same d row_before before));
        }

  -- a slot is put last
  module _ (k : K) (h : Held X) (d : IsDistinct (slots_of digits es))
      (none : find_in (digits k) (slots_of digits es) ≡ None) where
    pushed : slots_of digits (es ++ (k, h) ∷ []) ≡ slots_of digits es ++ (digits k, h) ∷ []
    pushed = map-append (entry_of digits) es ((k, h) ∷ [])

    pub rows-added : (f : Held X → Option X)
        → table_by f (slots_of digits (es ++ (k, h) ∷ [])) ≡ given (digits k) (f h) (table_by f (slots_of digits es))
    rows-added f = ap (table_by f) pushed ∙ table-added f (slots_of digits es) (digits k) h d none

    pub rows-added_none : (f : Held X → Option X) → f h ≡ None
        → table_by f (slots_of digits (es ++ (k, h) ∷ [])) ≡ table_by f (slots_of digits es)
    rows-added_none f nothing =
        ap (table_by f) pushed ∙ table-added_none f (slots_of digits es) (digits k) h d none nothing

    distinct-added : IsDistinct (slots_of digits (es ++ (k, h) ∷ []))
    distinct-added = subst IsDistinct (sym pushed) (IsDistinct-push (slots_of digits es) (digits k) h d none)

    places-added : (is : List ℕ) → ArePlaces is (slots_of digits es) → noted h ≡ 1
        → ArePlaces (is ++ length es ∷ []) (slots_of digits (es ++ (k, h) ∷ []))
    places-added is p one =
        let n : length (slots_of digits es) ≡ length es = length-slots digits es in
        let push =
        ArePlaces-push is (slots_of digits es) p (length (slots_of digits es))
        (slots_of digits es ++ (digits k, h) ∷ [])
        (noted_at-past (slots_of digits es) (length (slots_of digits es)) (omega arith))
        (noted_at-push_same (slots_of digits es) (digits k, h) ∙ one)
        (λ j other. noted_at-push_other (slots_of digits es) j (digits k, h) other) in
        subst (λ l. ArePlaces (is ++ length es ∷ []) l) (sym pushed)
        (subst (λ m. ArePlaces (is ++ m ∷ []) (slots_of digits es ++ (digits k, h) ∷ [])) n push)

    pub slots-added : (is : List ℕ) → ArePlaces is (slots_of digits es) → noted h ≡ 1
        → AreSlots (slots_of digits (es ++ (k, h) ∷ [])) (is ++ length es ∷ [])
    slots-added is p one = record { distinct = distinct-added; places = places-added is p one }

  -- a slot is taken out
  module _ (i : ℕ) (e : K × Held X) (at : slice_get es i ≡ Some e) where
    there : i < length es
    there = slice_get_within es i e at

    pub entry-slot : slice_get (slots_of digits es) i ≡ Some (digits e.0, e.1)
    entry-slot = slice_get-map (entry_of digits) es i ∙ ap (option_map (entry_of digits)) at

    moved : IsPermutation (slots_of digits es) ((digits e.0, e.1) ∷ slots_of digits (swap_remove es i e))
    moved =
        IsPermutation-map (entry_of digits) es (e ∷ swap_remove es i e)
        (IsPermutation-swap_remove es i e there (sym (get_or_from_slice_get es i e e at)))

    pub slot-taken : (k : List ℕ) (h : Held X) → slice_get (slots_of digits es) i ≡ Some (k, h)
        → IsPermutation (slots_of digits es) ((k, h) ∷ slots_of digits (swap_remove es i e))
    slot-taken k h here =
        let same : ◌≡◌ {A = List ℕ × Held X} (digits e.0, e.1) (k, h) = same_slot _ _ (sym entry-slot ∙ here) in
        subst (λ (s : List ℕ × Held X). IsPermutation (slots_of digits es) (s ∷ slots_of digits (swap_remove es i e)))
        same moved
      where
        same_slot : (a b : List ℕ × Held X) → Some a ≡ Some b → a ≡ b
        same_slot a b s = cc

    taken_is : slots_of digits (swap_remove es i e)
        ≡ take (length es - 1) (set (slots_of digits es) i (entry_of digits (get_or es (length es - 1) e)))
    taken_is =
        map-take (entry_of digits) (length es - 1) (set es i (get_or es (length es - 1) e))
        ∙ ap (take (length es - 1)) (map-set (entry_of digits) es i (get_or es (length es - 1) e))

    pub unnoted-after : NoneFrom (i + 1) (slots_of digits es)
        → IsUnnoted (slots_of digits es) (slots_of digits (swap_remove es i e)) i
    unnoted-after none =
        let n : length (slots_of digits es) ≡ length es = length-slots digits es in
        let low : i < length es = there in
        let last_within : length es - 1 < length es = omega arith in
        let l = get_or es (length es - 1) e in
        let last : slice_get (slots_of digits es) (length (slots_of digits es) - 1) ≡ Some (entry_of digits l) =
        ap (λ m. slice_get (slots_of digits es) (m - 1)) n
        ∙ slice_get-map (entry_of digits) es (length es - 1)
        ∙ ap (option_map (entry_of digits)) (slice_get-get_or es (length es - 1) e last_within) in
        let is : slots_of digits (swap_remove es i e)
        ≡ take (length (slots_of digits es) - 1) (set (slots_of digits es) i (entry_of digits l)) =
        taken_is ∙ ap (λ m. take (m - 1) (set (slots_of digits es) i (entry_of digits l))) (sym n) in
        subst (λ s. IsUnnoted (slots_of digits es) s i) (sym is)
        (unnoted-taken (slots_of digits es) i (entry_of digits l) (omega arith) last none)

-- the value that stands at a place is taken out
module _ {K X : Type 0} (digits : K → List ℕ) (es : List (K × Held X)) (i : ℕ) (h : Held X)
    (value : slice_get (values_of es) i ≡ Some h) (fs : List (List ℕ × Held X))
    (taken : (k : List ℕ) → (held : Held X) → slice_get (slots_of digits es) i ≡ Some (k, held)
    → IsPermutation (slots_of digits es) ((k, held) ∷ fs)) (d : IsDistinct (slots_of digits es)) where
  pub distinct-out : IsDistinct fs
  distinct-out =
      let s = slot_of_value digits es i h value in
      distinct-taken (slots_of digits es) fs s.0 h d (taken s.0 h s.1)

  pub table-out : (f : Held X → Option X) → f h ≡ None → table_by f fs ≡ table_by f (slots_of digits es)
  table-out f nothing =
      let s = slot_of_value digits es i h value in
      table-taken (slots_of digits es) fs s.0 h d (taken s.0 h s.1) f nothing

-- the value that stands at a place is written
module _ {K X : Type 0} (digits : K → List ℕ) (es : List (K × Held X)) (i : ℕ) (h w : Held X) where
  -- it has the row that is given, and what was before stays
  pub record IsRewritten (row : Option X) : Type 0 where
    pub rows : (k : List ℕ) → HasKeyAt (slots_of digits es) i k
        → table_by now_row (slots_of digits (set_value_at es i w)) ≡ given k row (table_by now_row (slots_of digits es))
    pub before : table_by row_before (slots_of digits (set_value_at es i w)) ≡ table_by row_before (slots_of digits es)
    pub found : (k : List ℕ) → HasKeyAt (slots_of digits es) i k → HasKeyAt (slots_of digits (set_value_at es i w)) i k
    pub here : noted_at (slots_of digits (set_value_at es i w)) i ≡ noted w
    pub had : (k : List ℕ) → HasKeyAt (slots_of digits es) i k
        → is_some (now_row h) ≡ is_some (table.get (table_by now_row (slots_of digits es)) k)

  pub rewritten : slice_get (values_of es) i ≡ Some h → IsDistinct (slots_of digits es) → (row : Option X)
      → now_row w ≡ row → row_before w ≡ row_before h → IsRewritten row
  rewritten value d row now before =
      let s = slot_of_value digits es i h value in
      record {
        rows = λ k key.
            rows-written digits es i k h w (slot_of_key digits es i k h value key) d now_row
            ∙ ap (λ o. given k o (table_by now_row (slots_of digits es))) now;
        before = rows-same digits es i s.0 h w s.1 d row_before before;
        found = λ k key. key-stays digits es i i w k key;
        here = noted-here digits es i s.0 h w s.1;
        had = λ k key.
            sym (ap is_some
            (get-slot now_row (slots_of digits es) i k h d (slot_of_key digits es i k h value key)));
      }

-- the row that stands under a key is lent
module _ {K X : Type 0} (digits : K → List ℕ) (es : List (K × Held X)) (i : ℕ) (k : List ℕ) (h : Held X) where
  -- what the table then has, and what a write through the loan leaves
  pub record IsLent (rows rows_before : Table X) : Type 0 where
    pub row : table.get rows k ≡ now_row h
    pub now : (w : Held X) (x : X) → now_row w ≡ Some x
        → table_by now_row (slots_of digits (set_value_at es i w)) ≡ table.insert rows k x
    pub before : (w : Held X) → row_before w ≡ row_before h
        → table_by row_before (slots_of digits (set_value_at es i w)) ≡ rows_before

  module _ (value : slice_get (values_of es) i ≡ Some h) (key : HasKeyAt (slots_of digits es) i k) where
    pub lent : {rows rows_before : Table X} → IsDistinct (slots_of digits es)
        → table_by now_row (slots_of digits es) ≡ rows → table_by row_before (slots_of digits es) ≡ rows_before
        → IsLent rows rows_before
    lent d now before =
        let at = slot_of_key digits es i k h value key in
        record {
          row = ap (λ m. table.get m k) (sym now) ∙ get-slot now_row (slots_of digits es) i k h d at;
          now = λ w x put. rows-put digits es i k h w at d x put ∙ ap (λ m. table.insert m k x) now;
          before = λ w same. rows-same digits es i k h w at d row_before same ∙ before;
        }

    -- its change is noted
    pub noted-lent : noted_at (slots_of digits es) i ≡ 1 → noted h ≡ 1
    noted-lent one = sym (noted_at-slot (slots_of digits es) i (k, h) (slot_of_key digits es i k h value key)) ∙ one

    pub sound-lent : (w : Held X) (is : List ℕ) (len length_before : ℕ) (x : X)
        → IsSound (slots_of digits es) is len length_before → is_some (now_row h) ≡ true → now_row w ≡ Some x
        → row_before w ≡ row_before h → noted w ≡ noted h
        → IsSound (slots_of digits (set_value_at es i w)) is len length_before
    sound-lent w is len length_before x sound some now before same =
        sound-put digits es i k h w (slot_of_key digits es i k h value key) is len length_before x sound some now before
        same
