-- What lines of bills want of each part, gathered line by line.
use Rattle.std.specs.Prelude.{ℕ, ◌+◌, ◌-◌, nat_lt, Bool, List, [], ◌∷◌, decimal, unwrap_or}
use Rattle.std.specs.FinMap as table
use Rattle.sheet_core.specs.Sheet.{Table}
use Rattle.part_core.specs.declared.part.Part.{Part}
use Rattle.build_core.specs.declared.shortage.Shortage.{Shortage}
use Rattle.desk_core.specs.Machine.{State}
use Rattle.list_core.specs.Amounts.{free_amount}
use Rattle.list_core.specs.declared.shortage_list.Want.{Want}

abbrev pub no_want : ℕ → Want
no_want part = record { part = part; required = 0; allocated = 0; missing = 0 }

-- what is wanted of a part: nothing where it has no row
abbrev pub want_in : ℕ → Table Want → Want
want_in part wants = unwrap_or (table.get wants (part ∷ [])) (no_want part)

-- what is wanted of a part, with what a line wants of it
abbrev pub want_with : Shortage → Want → Want
want_with row want =
    record {
      part = row.component;
      required = want.required + row.required;
      allocated = want.allocated + row.allocated;
      missing = want.missing + row.missing;
    }

-- what a line wants comes to what is wanted of its component
abbrev pub with_row : Shortage → Table Want → Table Want
with_row row wants = table.insert wants (row.component ∷ []) (want_with row (want_in row.component wants))

-- the same of each line
abbrev pub gathered : List Shortage → Table Want → Table Want
gathered [] wants = wants
gathered (r ∷ rs) wants = gathered rs (with_row r wants)

-- whether something is missing of a part
abbrev pub is_lacking : Table Want → Part → Bool
is_lacking wants part = nat_lt 0 (want_in part.number wants).missing

-- a part with what is wanted of it
abbrev pub gathered_row : State → Want → Part → List (List ℕ)
gathered_row s want part =
    decimal part.number
    ∷ part.name
    ∷ decimal want.required
    ∷ decimal want.allocated
    ∷ decimal want.missing
    ∷ decimal (free_amount part.number s)
    ∷ decimal (want.missing - free_amount part.number s)
    ∷ []
