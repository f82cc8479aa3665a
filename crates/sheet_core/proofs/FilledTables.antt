-- Tables whose rows stand under their own keys.
use Rattle.std.proofs.Common.{◌≡◌, inl, inr, ℕ, List, [], ◌∷◌, Option, Some, None, sym, ap, ◌∙◌}
use Rattle.std.specs.Prelude.{◌↔◌}
use Rattle.std.specs.FinMap as table
use Rattle.sheet_core.specs.Filled.{filled, filled_onto, StandUnderKeys}
use Rattle.sheet_core.specs.Rows.{EachRow}
use Rattle.sheet_core.specs.Sheet.{Rows, Table, key_cmp, now_of}
use Rattle.sheet_core.proofs.RowLemmas.{get-insert_cases}
use Rattle.sheet_core.proofs.Standing.{Stands, each-value, get-Stands}

module _ {X : Type 0} where
  module _ (key_of : X → List ℕ) where
    -- a sheet so far, kept, which the rows that are left make the one of all these rows
    abbrev pub IsFilling : Rows X → List X → List X → Type 0
    IsFilling sheet left all =
        record {
          rows : filled_onto key_of (now_of sheet) left ≡ filled key_of all;
          before : sheet.before ≡ now_of sheet;
        }

    own-insert : (t : Table X) (x : X) → StandUnderKeys key_of t → StandUnderKeys key_of (table.insert t (key_of x) x)
    own-insert t x own k y e =
        elim (get-insert_cases t (key_of x) x k y e) [ inl i ↦ i.0 ∙ ap key_of i.1 | inr i ↦ own k y i ]

    own-onto : (t : Table X) (rows : List X) → StandUnderKeys key_of t
        → StandUnderKeys key_of (filled_onto key_of t rows)
    own-onto t [] own = own
    own-onto t (x ∷ xs) own = own-onto (table.insert t (key_of x) x) xs (own-insert t x own)

    own-empty : StandUnderKeys key_of table.empty
    own-empty k x e = let clash : ◌≡◌ {A = Option X} None (Some x) = sym (table.get-empty key_cmp k) ∙ e in cc

    -- rows that are put one after another stand under their own keys
    pub filled-own : (rows : List X) → StandUnderKeys key_of (filled key_of rows)
    filled-own rows = own-onto table.empty rows own-empty

  -- what holds of each row that stands among a table's
  pub each-iff : (P : X → Type 0) (t : Table X) → ((x : X) → Stands x (table.values t) → P x) ↔ EachRow P t
  each-iff P t = (λ all k x e. all x (get-Stands t k x e), λ each. each-value P t each)
