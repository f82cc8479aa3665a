-- The separator of a file, by which its records give something.
use Rattle.std.proofs.Common.{◌≡◌, ℕ, List, [], ◌∷◌, refl, ap, ◌∙◌, sym}
use Rattle.std.specs.Prelude.{Option, Some, None}
use Rattle.csv.specs.Reading.{records}
use Rattle.desk_wire.specs.Records.{Fields, config_by, first_layout}

-- what was found is what the records give
pub layout-first : {C : Type 0} (gives : List Fields → Option C) (text ss : List ℕ) (layout : ℕ × C)
    → first_layout gives text ss ≡ Some layout → gives (records (config_by layout.0) text) ≡ Some layout.1
layout-first gives text [] layout h = cc
layout-first {C} gives text (s ∷ ss) layout h =
    by_first (gives (records (config_by s) text)) (layout-first gives text ss layout) refl
  where
    by_first : (o : Option C)
        → (first_layout gives text ss ≡ Some layout → gives (records (config_by layout.0) text) ≡ Some layout.1)
        → gives (records (config_by s) text) ≡ o
        → gives (records (config_by layout.0) text) ≡ Some layout.1
    by_first None later e = later (rw e at h)
    by_first (Some columns) later e =
        let found : Some (s, columns) ≡ Some layout = rw e at h in
        let is : (s, columns) ≡ layout = cc in
        rw (← is) e

-- so these records don't give nothing
pub not-none : {C : Type 0} (gives : List Fields → Option C) (text ss : List ℕ) (layout : ℕ × C) (bad : Fields)
    (rest : List Fields) → first_layout gives text ss ≡ Some layout → records (config_by layout.0) text ≡ bad ∷ rest
    → gives (bad ∷ rest) ≡ None → ⊥
not-none gives text ss layout bad rest h e n =
    let none : None ≡ Some layout.1 = sym n ∙ ap gives (sym e) ∙ layout-first gives text ss layout h in
    cc
