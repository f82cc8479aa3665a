-- What a sheet ends as, where a reference to one of its rows is returned.
use Rattle.std.specs.Prelude.{◌≡◌, ℕ, List, Result}
use Rattle.std.specs.Borrow.{LendsSoOk, Fml, RattleType, MutBor}
use Rattle.std.specs.FinMap as table
use Rattle.std.specs.HashMap.Lent.{HashMembers}
use Rattle.sheet_core.specs.declared.row.Row as trait_row
use Rattle.sheet_core.specs.declared.row.RowKey as trait_row_key
use Rattle.sheet_core.specs.Sheet.{Rows, now_of}
use Rattle.sheet_core.specs.contracts.sheet.Sheet.{the_row}

-- the key has the row that was left behind the reference, and every other key and the rows before are as they were
pub record RowIsSet {X : Type 0} (old : Rows X) (k : List ℕ) (new : Rows X) (x : X) : Type 0 where
  pub now : now_of new ≡ table.insert (now_of old) k x
  pub before : new.before ≡ old.before

module _ (R K : RattleType) (row : trait_row.Ghosts R.Denot K.Denot) (key : trait_row_key.Ghosts K.Denot)
    (hash : HashMembers K.Denot) where
  -- the row under the key ends as what was left behind r; at an error the sheet is as it was
  abbrev pub lends_row : {E : Type 0} → MutBor (Rows R.Denot) → List ℕ → Result (MutBor R.Denot) E → Fml
  lends_row s k r =
      LendsSoOk (the_row R K row key (record { eq = hash.eq }) (record { hash_input = hash.hash_input })) R s r
      (RowIsSet s.now k) (λ n. n ≡ s.now)
