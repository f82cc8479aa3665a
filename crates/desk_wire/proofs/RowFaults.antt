-- The first field of a row that can't be read.
use Rattle.std.proofs.Common.{◌≡◌, ℕ, true, false, List, refl}
use Rattle.std.specs.Prelude.{Option, Some, None, Result, Ok, Err, is_err, is_none}
use Rattle.std.proofs.lemmas.Bool.{false≢true, true≢false}
use Rattle.desk_wire.specs.declared.fault.What.{What}
use Rattle.desk_wire.specs.Steps.{at_fault, or_fault}

pub later_field : {A X : Type 0} (name : List ℕ) (there : X) (reading : Result A What) (later : Option (List ℕ × X))
    → is_err reading ≡ false → at_fault name there reading later ≡ later
later_field name there (Ok x) later h = refl
later_field name there (Err what) later h = absurd (true≢false h)

pub this_field : {A X : Type 0} (name : List ℕ) (there : X) (reading : Result A What) (later : Option (List ℕ × X))
    → is_err reading ≡ true → at_fault name there reading later ≡ Some (name, there)
this_field name there (Ok x) later h = absurd (false≢true h)
this_field name there (Err what) later h = refl

-- the same of a field that is a number
pub later_number : {A X : Type 0} (name : List ℕ) (there : X) (what : What) (o : Option A)
    (later : Option (List ℕ × X)) → is_none o ≡ false → at_fault name there (or_fault what o) later ≡ later
later_number name there what None later h = absurd (true≢false h)
later_number name there what (Some x) later h = refl

pub this_number : {A X : Type 0} (name : List ℕ) (there : X) (what : What) (o : Option A)
    (later : Option (List ℕ × X)) → is_none o ≡ true
    → at_fault name there (or_fault what o) later ≡ Some (name, there)
this_number name there what None later h = refl
this_number name there what (Some x) later h = absurd (false≢true h)

pub ruleset first_faults = (later_field, this_field, later_number, this_number)
