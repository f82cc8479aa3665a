-- A new row with a name, under the next number: each row has its parent still.
use Rattle.std.proofs.Common.{◌≡◌, ◌<◌, ℕ, [], ◌∷◌, List, Option, Some, arith}
use Rattle.std.specs.FinMap as table
use Rattle.part_core.specs.NamedRows.{HasParent}
use Rattle.sheet_core.specs.Rows.{EachRow, IsThere, StandRight}
use Rattle.sheet_core.specs.Sheet.{Table}
use Rattle.part_core.specs.declared.named_row.NamedRow.{NamedRow}
use Rattle.sheet_core.proofs.RowLemmas.{each-insert, each-so, row_there, same_digit, there-insert}

module _ (next : ℕ) (name : List ℕ) (parent : Option ℕ) (rows : Table NamedRow)
    (right : StandRight (λ r. r.number) next rows) where
  abbrev row : NamedRow
  row = record { number = next; name = name; parent = parent }

  abbrev after : Table NamedRow
  after = table.insert rows (next ∷ []) row

  more : (n : ℕ) → IsThere rows n → IsThere after n
  more = there-insert rows (next ∷ []) row

  below : (n : ℕ) → IsThere rows n → n < next
  below n h =
      let x = row_there rows n h in
      let s = right (n ∷ []) x.0 x.1 in
      let own = same_digit n x.0.number s.own in
      omega (arith, own, s.drawn)

  pub parents-new : ((n : ℕ) → parent ≡ Some n → IsThere rows n) → EachRow (HasParent rows) rows
      → EachRow (HasParent after) after
  parents-new named parents =
      each-insert (HasParent after) rows (next ∷ []) row
      (λ n is. let h = named n is in (more n h, below n h))
      (each-so (HasParent rows) (HasParent after) rows
      (λ k r at has n is. let h = has n is in (more n h.0, h.1)) parents)
