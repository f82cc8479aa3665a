-- Steps of a walk up from a row, and what they add to its way.
use Rattle.std.proofs.Common.{◌≡◌, ◌≢◌, ◌∙◌, ℕ, ◌-◌, ◌<◌, zero, suc, ◌==◌, Bool, true, false, refl, ap, arith, eq-eqb, rules}
use Rattle.std.proofs.Common.{List, [], ◌∷◌, ◌++◌, length, append_assoc, Option, Some, None, codes}
use Rattle.std.proofs.lemmas.Bool.{ne_eqb}
use Rattle.std.proofs.lemmas.List.{append-nil}
use Rattle.std.specs.FinMap as table
use Rattle.std.specs.List.{list_any}
use Rattle.sheet_core.specs.Sheet.{Table}
use Rattle.word_core.specs.Text.{is_text}
use Rattle.part_core.specs.declared.named_row.NamedRow.{NamedRow}
use Rattle.list_core.specs.Ways.{as_names, joined, names_to, numbers_up, parent_of}

-- ---- numbers

-- whether the row of the top is among those that a walk of so many steps meets
abbrev pub meets : ℕ → ℕ → Option ℕ → Table NamedRow → Bool
meets top d at rows = list_any (λ m. m == top) (numbers_up d at rows)

pub meets-zero : (top : ℕ) (at : Option ℕ) (rows : Table NamedRow) → meets top 0 at rows ≡ false
unfolding numbers_up
meets-zero top at rows = refl

pub meets-none : (top d : ℕ) (rows : Table NamedRow) → meets top d None rows ≡ false
unfolding numbers_up
meets-none top zero rows = refl
meets-none top (suc d) rows = refl

pub meets-here : (top d n : ℕ) (rows : Table NamedRow) → 0 < d → n ≡ top → meets top d (Some n) rows ≡ true
unfolding numbers_up
meets-here top zero n rows pos same = absurd (omega arith)
meets-here top (suc d) n rows pos same = rw (eq-eqb n top same) refl

pub meets-on : (top d n : ℕ) (parent : Option ℕ) (rows : Table NamedRow) → 0 < d → n ≢ top
    → parent_of (table.get rows (n ∷ [])) ≡ parent → meets top d (Some n) rows ≡ meets top (d - 1) parent rows
unfolding numbers_up
meets-on top zero n parent rows pos other e = absurd (omega arith)
meets-on top (suc d) n parent rows pos other e =
    let one : suc d - 1 ≡ d = omega arith in
    rw (ne_eqb n top other, one, e) refl

-- ---- names

-- names, and a way behind them
abbrev pub ending : List (List ℕ) → List ℕ → List ℕ
ending names way = joined (names ++ as_names way)

-- the way that a row with so many steps above it leads to, and a way behind it
abbrev pub way_on : ℕ → Option ℕ → Table NamedRow → List ℕ → List ℕ
way_on d at rows way = ending (names_to d at rows) way

joined_names : (way : List ℕ) → joined (as_names way) ≡ way
joined_names [] = refl
joined_names (c ∷ cs) = refl

pub way_on-zero : (at : Option ℕ) (rows : Table NamedRow) (way : List ℕ) → way_on 0 at rows way ≡ way
unfolding names_to
way_on-zero at rows way = joined_names way

pub way_on-none : (d : ℕ) (rows : Table NamedRow) (way : List ℕ) → way_on d None rows way ≡ way
unfolding names_to
way_on-none zero rows way = joined_names way
way_on-none (suc d) rows way = joined_names way

pub way_on-missing : (d n : ℕ) (rows : Table NamedRow) (way : List ℕ) → table.get rows (n ∷ []) ≡ None
    → way_on d (Some n) rows way ≡ way
unfolding names_to
way_on-missing zero n rows way e = joined_names way
way_on-missing (suc d) n rows way e = rw e (joined_names way)

-- a name before a way may be seen as one way
joined_last : (name c : List ℕ) (names : List (List ℕ))
    → joined (names ++ name ∷ c ∷ []) ≡ joined (names ++ (name ++ (codes " / " ++ c)) ∷ [])
joined_last name c [] = refl
joined_last name c (n ∷ []) = refl
joined_last name c (n ∷ m ∷ names) = ap (λ rest. n ++ (codes " / " ++ rest)) (joined_last name c (m ∷ names))

ending_more : (names : List (List ℕ)) (name way : List ℕ) → 0 < length name
    → ending (names ++ name ∷ []) way ≡ ending names (joined (name ∷ as_names way))
ending_more names [] way pos = absurd (omega arith)
ending_more names (n ∷ ns) [] pos = ap joined (append-nil (names ++ (n ∷ ns) ∷ []))
ending_more names (n ∷ ns) (c ∷ cs) pos =
    ap joined (append_assoc names ((n ∷ ns) ∷ []) ((c ∷ cs) ∷ []))
    ∙ joined_last (n ∷ ns) (c ∷ cs) names

pub way_on-some : (d n : ℕ) (row : NamedRow) (rows : Table NamedRow) (way : List ℕ) → 0 < d
    → table.get rows (n ∷ []) ≡ Some row → 0 < length row.name
    → way_on d (Some n) rows way ≡ way_on (d - 1) row.parent rows (joined (row.name ∷ as_names way))
unfolding names_to
way_on-some zero n row rows way pos e filled = absurd (omega arith)
way_on-some (suc d) n row rows way pos e filled =
    let one : suc d - 1 ≡ d = omega arith in
    rw (e, one) (ending_more (names_to d row.parent rows) row.name way filled)

-- a text that may stand in a row isn't empty
pub filled : (name : List ℕ) → is_text name ≡ true → 0 < length name
filled [] e = absurd (search rules)
filled (c ∷ cs) e = omega arith
