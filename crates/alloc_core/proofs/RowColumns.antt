-- Allocations are read back from their columns, and no other columns are read as them.
use Rattle.std.proofs.Common.{◌≡◌, ℕ, Bool, true, false, List, Some, None, refl, sym, ap, ◌∙◌}
use Rattle.std.specs.Prelude.{slice_get, ◌==◌, if◌then◌else◌}
use Rattle.std.proofs.lemmas.Bool.{eqb-true}
use Rattle.sheet_core.specs.Columns.{◌>>=◌, has, must, number_at}
use Rattle.sheet_core.specs.declared.column.Column.{Column}
use Rattle.sheet_core.specs.declared.column.Column.TheVariants.{Whole}
use Rattle.sheet_core.proofs.ColumnLemmas.{bound, found, has-is, number_at-is, same_columns}
use Rattle.alloc_core.specs.AllocationColumns.{allocation_columns, allocation_from, output_number}
use Rattle.alloc_core.specs.AllocationColumns.{output_of, purpose_at, purpose_line, purpose_of}
use Rattle.alloc_core.specs.AllocationColumns.{purpose_output, purpose_owner, purpose_side, sale_of}
use Rattle.alloc_core.specs.declared.allocation.Allocation.{Allocation}
use Rattle.alloc_core.specs.declared.purpose.Purpose.{Purpose}
use Rattle.alloc_core.specs.declared.purpose.Purpose.TheVariants.{Sale, Build}

-- four numbers are those of the purpose
abbrev AreOf : ℕ → ℕ → ℕ → ℕ → Purpose → Type 0
AreOf side owner line output p =
    (side ≡ purpose_side p) × (owner ≡ purpose_owner p) × (line ≡ purpose_line p) × (output ≡ purpose_output p)

output-is : (n : ℕ) → n ≡ output_number (output_of n)
output-is n = told (n == 0) refl
  where
    told : (b : Bool) → (n == 0) ≡ b → n ≡ output_number (if b then None else Some n)
    told true e = eqb-true n 0 e
    told false e = refl

module _ (side owner line output : ℕ) where
  kept : (one p : Purpose) → AreOf side owner line output one → Some one ≡ Some p → AreOf side owner line output p
  kept one p are e = (
    are.0 ∙ sym (found purpose_side one p e),
    are.1 ∙ sym (found purpose_owner one p e),
    are.2 ∙ sym (found purpose_line one p e),
    are.3 ∙ sym (found purpose_output one p e),
  )

  sale-is : (p : Purpose) → side ≡ 0 → sale_of owner line output ≡ Some p → AreOf side owner line output p
  sale-is p is = told (output == 0) refl
    where
      told : (b : Bool) → (output == 0) ≡ b → (must b >>= λ _. Some (Sale owner line)) ≡ Some p
          → AreOf side owner line output p
      told true zero e = kept (Sale owner line) p (is, refl, refl, eqb-true output 0 zero) e
      told false zero e = cc

  build-is : (p : Purpose) → side ≡ 1 → Some (Build owner line (output_of output)) ≡ Some p
      → AreOf side owner line output p
  build-is p is e = kept (Build owner line (output_of output)) p (is, refl, refl, output-is output) e

  purpose-is : (p : Purpose) → purpose_of side owner line output ≡ Some p → AreOf side owner line output p
  purpose-is p e = sale (side == 0) refl e
    where
      build : (b : Bool) → (side == 1) ≡ b → (if b then Some (Build owner line (output_of output)) else None) ≡ Some p
          → AreOf side owner line output p
      build true one e = build-is p (eqb-true side 1 one) e
      build false one e = cc

      sale : (b : Bool) → (side == 0) ≡ b
          → (if b then sale_of owner line output
          else (if side == 1 then Some (Build owner line (output_of output)) else None))
          ≡ Some p
          → AreOf side owner line output p
      sale true zero e = sale-is p (eqb-true side 0 zero) e
      sale false zero e = build (side == 1) refl e

-- what stands in the columns of a purpose
record StandsThere (cs : List Column) (p : Purpose) : Type 0 where
  pub side : slice_get cs 3 ≡ Some (Whole (purpose_side p))
  pub owner : slice_get cs 4 ≡ Some (Whole (purpose_owner p))
  pub line : slice_get cs 5 ≡ Some (Whole (purpose_line p))
  pub output : slice_get cs 6 ≡ Some (Whole (purpose_output p))

purpose_at-is : (cs : List Column) (p : Purpose) → purpose_at cs ≡ Some p → StandsThere cs p
purpose_at-is cs p e =
    let side = bound (number_at 3 cs) _ p e in
    let owner = bound (number_at 4 cs) _ p side.2 in
    let line = bound (number_at 5 cs) _ p owner.2 in
    let output = bound (number_at 6 cs) _ p line.2 in
    let are = purpose-is side.0 owner.0 line.0 output.0 p output.2 in
    record {
      side = number_at-is 3 cs side.0 side.1 ∙ ap (λ (n : ℕ). Some (Whole n)) are.0;
      owner = number_at-is 4 cs owner.0 owner.1 ∙ ap (λ (n : ℕ). Some (Whole n)) are.1;
      line = number_at-is 5 cs line.0 line.1 ∙ ap (λ (n : ℕ). Some (Whole n)) are.2;
      output = number_at-is 6 cs output.0 output.1 ∙ ap (λ (n : ℕ). Some (Whole n)) are.3;
    }

pub allocation_told : (cs : List Column) (number item quantity : ℕ) (purpose : Purpose)
    → has 7 cs ≡ Some tt → number_at 0 cs ≡ Some number → number_at 1 cs ≡ Some item → number_at 2 cs ≡ Some quantity
    → purpose_at cs ≡ Some purpose
    → allocation_columns (record { number = number; item = item; quantity = quantity; purpose = purpose }) ≡ cs
allocation_told cs number item quantity purpose all c0 c1 c2 c3 =
    let one : Allocation = record { number = number; item = item; quantity = quantity; purpose = purpose } in
    let p = purpose_at-is cs purpose c3 in
    same_columns cs (allocation_columns one) (has-is 7 cs tt all) (
      number_at-is 0 cs number c0,
      (number_at-is 1 cs item c1, (number_at-is 2 cs quantity c2, (p.side, (p.owner, (p.line, (p.output, tt)))))),
    )

pub allocation_read : (row : Allocation)
    → purpose_of (purpose_side row.purpose) (purpose_owner row.purpose) (purpose_line row.purpose)
    (purpose_output row.purpose) ≡ Some row.purpose
    → allocation_from (allocation_columns row) ≡ Some row
allocation_read row read = rw read refl
