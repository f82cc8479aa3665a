-- What is gathered line by line is what the lines want.
use Rattle.std.proofs.Common.{◌≡◌, ◌∙◌, ◌+◌, ◌++◌, ◌==◌, ℕ, Bool, true, false, List, [], ◌∷◌, Some}
use Rattle.std.proofs.Common.{ap, arith, cond, filter, map, refl, sym}
use Rattle.std.specs.Prelude.{nat_lt, unwrap_or}
use Rattle.std.specs.FinMap as table
use Rattle.std.proofs.lemmas.Bool.{eqb-true, eq-eqb}
use Rattle.std.proofs.lemmas.List.Sums.{sum_by-cons}
use Rattle.sheet_core.specs.Sheet.{Table, key_cmp}
use Rattle.part_core.specs.declared.part.Part.{Part}
use Rattle.sheet_core.proofs.Keys.{key_eq, key_eq_is, keys_total}
use Rattle.sheet_core.proofs.RowLemmas.{same_digit}
use Rattle.build_core.specs.declared.shortage.Shortage.{Shortage}
use Rattle.desk_core.specs.Machine.{State}
use Rattle.list_core.specs.Gathered.{gathered, gathered_row, is_lacking, no_want, want_in, want_with, with_row}
use Rattle.list_core.specs.ShortageList.{want_row, wanted_of}
use Rattle.list_core.specs.declared.shortage_list.Want.{Want}

-- a test of two numbers, as keys
pub same_key : (n m : ℕ) → (m == n) ≡ key_eq (n ∷ []) (m ∷ [])
same_key n m =
    key_eq_is (m == n) (n ∷ []) (m ∷ []) (λ e. ap (λ x. x ∷ []) (sym (eqb-true m n e)))
    (λ e. eq-eqb m n (sym (same_digit n m e)))

-- a line comes to what is wanted of its component, and of no other part
want_more : (part : ℕ) (row : Shortage) (wants : Table Want)
    → want_in part (with_row row wants)
    ≡ cond (row.component == part) (want_with row (want_in row.component wants)) (want_in part wants)
want_more part row wants =
    let more = want_with row (want_in row.component wants) in
    ap (λ o. unwrap_or o (no_want part)) (table.get-insert keys_total wants (row.component ∷ []) more (part ∷ []))
    ∙ ap (λ b. unwrap_or (cond b (Some more) (table.get wants (part ∷ []))) (no_want part))
    (sym (same_key part row.component))
    ∙ chosen (row.component == part)
  where
    chosen : (b : Bool) → unwrap_or (cond b (Some (want_with row (want_in row.component wants)))
        (table.get wants (part ∷ []))) (no_want part)
        ≡ cond b (want_with row (want_in row.component wants)) (want_in part wants)
    chosen true = refl
    chosen false = refl

-- an amount that grows by what a line has of it
module _ (f : Want → ℕ) (g : Shortage → ℕ) (none : (part : ℕ) → f (no_want part) ≡ 0)
    (grows : (row : Shortage) (want : Want) → f (want_with row want) ≡ f want + g row) where
  one_more : (part : ℕ) (row : Shortage) (wants : Table Want)
      → f (want_in part (with_row row wants)) ≡ f (want_in part wants) + cond (row.component == part) (g row) 0
  one_more part row wants =
      ap f (want_more part row wants)
      ∙ elim (row.component == part) as (λ b. row.component == part ≡ b
      → f (cond b (want_with row (want_in row.component wants)) (want_in part wants))
      ≡ f (want_in part wants) + cond b (g row) 0) [
        | true ↦ λ e. grows row (want_in row.component wants)
            ∙ ap (λ n. f (want_in n wants) + g row) (eqb-true row.component part e)
        | false ↦ λ e. omega arith
      ] refl

  all_more : (part : ℕ) (rows : List Shortage) (wants : Table Want)
      → f (want_in part (gathered rows wants)) ≡ f (want_in part wants) + wanted_of part g rows
  all_more part [] wants = omega arith
  all_more part (r ∷ rs) wants =
      let split : wanted_of part g (r ∷ rs) ≡ cond (r.component == part) (g r) 0 + wanted_of part g rs =
      sum_by-cons (λ (x : Shortage). cond (x.component == part) (g x) 0) r rs in
      let next : f (want_in part (gathered (r ∷ rs) wants)) ≡ f (want_in part (gathered rs (with_row r wants))) =
      refl in
      omega (arith, split, next, all_more part rs (with_row r wants), one_more part r wants)

  -- of all lines it is the sum
  pub amount_told : (part : ℕ) (rows : List Shortage)
      → f (want_in part (gathered rows table.empty)) ≡ wanted_of part g rows
  amount_told part rows =
      let start : f (want_in part table.empty) ≡ 0 =
      ap (λ o. f (unwrap_or o (no_want part))) (table.get-empty key_cmp (part ∷ [])) ∙ none part in
      omega (arith, all_more part rows table.empty, start)

required_told : (part : ℕ) (rows : List Shortage)
    → (want_in part (gathered rows table.empty)).required ≡ wanted_of part (λ r. r.required) rows
required_told = amount_told (λ w. w.required) (λ r. r.required) (λ part. refl) (λ row want. refl)

allocated_told : (part : ℕ) (rows : List Shortage)
    → (want_in part (gathered rows table.empty)).allocated ≡ wanted_of part (λ r. r.allocated) rows
allocated_told = amount_told (λ w. w.allocated) (λ r. r.allocated) (λ part. refl) (λ row want. refl)

missing_told : (part : ℕ) (rows : List Shortage)
    → (want_in part (gathered rows table.empty)).missing ≡ wanted_of part (λ r. r.missing) rows
missing_told = amount_told (λ w. w.missing) (λ r. r.missing) (λ part. refl) (λ row want. refl)

row_told : (s : State) (rows : List Shortage) (part : Part)
    → gathered_row s (want_in part.number (gathered rows table.empty)) part ≡ want_row s rows part
row_told s rows part =
    let required = required_told part.number rows in
    let allocated = allocated_told part.number rows in
    let missing = missing_told part.number rows in
    cc

-- the rows of what is gathered are those of what the lines want
pub rows_told : (s : State) (rows : List Shortage) (wants : Table Want) (parts : List Part)
    → wants ≡ gathered rows table.empty
    → map (λ p. gathered_row s (want_in p.number wants) p) (filter (is_lacking wants) parts)
    ≡ map (want_row s rows) (filter (λ p. nat_lt 0 (wanted_of p.number (λ r. r.missing) rows)) parts)
rows_told s rows wants parts same =
    ap (λ (t : Table Want). map (λ (p : Part). gathered_row s (want_in p.number t) p) (filter (is_lacking t) parts)) same
    ∙ (λ i. map (λ (p : Part). row_told s rows p i)
    (filter (λ (p : Part). nat_lt 0 (missing_told p.number rows i)) parts))

-- lines are gathered one after another
pub gathered_append : (xs ys : List Shortage) (wants : Table Want)
    → gathered (xs ++ ys) wants ≡ gathered ys (gathered xs wants)
gathered_append [] ys wants = refl
gathered_append (x ∷ xs) ys wants = gathered_append xs ys (with_row x wants)
