-- The slots of a sheet: each key with the row that it has now, and with the one that it had before.
use Rattle.std.specs.Prelude.{◌≡◌, ◌≢◌, ◌≤◌, ℕ, zero, suc, Bool, true, false, List, [], ◌∷◌}
use Rattle.std.specs.Prelude.{Option, Some, None, map, sum_by, nat_eq, if◌then◌else◌}
use Rattle.std.specs.FinMap as table
use Rattle.sheet_core.specs.Sheet.{IsDistinct, Table, table_of}
use Rattle.sheet_core.specs.declared.slots.Held.{Held}
use Rattle.sheet_core.specs.declared.slots.Held.TheVariants.{Settled, Added, Rewritten, Removed, Gone}
use Rattle.sheet_core.specs.declared.slots.KeyedRow.{KeyedRow}

module _ {K X : Type 0} (digits : K → List ℕ) where
  abbrev pub entry_of : K × Held X → List ℕ × Held X
  entry_of e = (digits e.0, e.1)

  -- the slots of a map, by the digits of their keys
  abbrev pub slots_of : List (K × Held X) → List (List ℕ × Held X)
  slots_of es = map entry_of es

  -- a row that was found, under its key
  abbrev pub row_found : KeyedRow K X → List ℕ × X
  row_found f = (digits f.key.now, f.row.now)

-- a row or none under a key, before other rows
abbrev pub with_row : {X : Type 0} → List ℕ → Option X → List (List ℕ × X) → List (List ℕ × X)
with_row k None es = es
with_row k (Some x) es = (k, x) ∷ es

-- how often the number is listed
abbrev pub times : ℕ → List ℕ → ℕ
times j is = sum_by (λ i. if nat_eq j i then 1 else 0) is

module _ {X : Type 0} where
  -- the row now
  abbrev pub now_row : Held X → Option X
  now_row (Settled x) = Some x
  now_row (Added x) = Some x
  now_row (Rewritten row before) = Some row.value
  now_row (Removed x) = None
  now_row Gone = None

  -- the row before the request
  abbrev pub row_before : Held X → Option X
  row_before (Settled x) = Some x
  row_before (Added x) = None
  row_before (Rewritten row before) = Some before
  row_before (Removed x) = Some x
  row_before Gone = None

  -- whether a change is noted
  abbrev pub is_changed : Held X → Bool
  is_changed (Settled x) = false
  is_changed (Added x) = true
  is_changed (Rewritten row before) = true
  is_changed (Removed x) = true
  is_changed Gone = true

  -- 1 where a change is noted
  abbrev pub noted : Held X → ℕ
  noted h = if is_changed h then 1 else 0

  -- the rows that f tells of the slots
  abbrev pub rows_by : (Held X → Option X) → List (List ℕ × Held X) → List (List ℕ × X)
  rows_by f [] = []
  rows_by f (e ∷ es) = with_row e.0 (f e.1) (rows_by f es)

  -- they, as a finite map
  abbrev pub table_by : (Held X → Option X) → List (List ℕ × Held X) → Table X
  table_by f es = table_of (rows_by f es)

  -- 1 where a change of the slot at this place is noted
  abbrev pub noted_at : List (List ℕ × Held X) → ℕ → ℕ
  noted_at [] j = 0
  noted_at (e ∷ es) zero = noted e.1
  noted_at (e ∷ es) (suc j) = noted_at es j

  -- these are the places of the slots with a noted change, each once
  abbrev pub ArePlaces : List ℕ → List (List ℕ × Held X) → Type 0
  ArePlaces is es = (j : ℕ) → times j is ≡ noted_at es j

  -- no change is noted from that place on
  abbrev pub NoneFrom : ℕ → List (List ℕ × Held X) → Type 0
  NoneFrom i es = (j : ℕ) → i ≤ j → noted_at es j ≡ 0

  -- this change is no longer noted, and each other is as it was
  pub record IsUnnoted (old new : List (List ℕ × Held X)) (i : ℕ) : Type 0 where
    pub here : noted_at new i ≡ 0
    pub others : (j : ℕ) → j ≢ i → noted_at new j ≡ noted_at old j

  -- no key stands twice, and these are the places of the changes
  pub record AreSlots (es : List (List ℕ × Held X)) (changed : List ℕ) : Type 0 where
    pub distinct : IsDistinct es
    pub places : ArePlaces changed es

  -- with the numbers of rows, now and before
  pub record IsSound (es : List (List ℕ × Held X)) (changed : List ℕ) (rows rows_before : ℕ) : Type 0 where
    pub slots : AreSlots es changed
    pub len : rows ≡ table.len (table_by now_row es)
    pub length_before : rows_before ≡ table.len (table_by row_before es)
