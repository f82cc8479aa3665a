-- Steps of a reading, each of which may find what is wrong.
use Rattle.std.specs.Prelude.{ℕ, ◌≡◌, Bool, true, false, List, Option, Some, None, Result, Ok, Err, alloc_error}
use Rattle.std.specs.declared.alloc.AllocError.{AllocError}
use Rattle.desk_wire.specs.declared.fault.What.{What}
use Rattle.desk_wire.specs.declared.fault.WireFault.{WireFault}
use Rattle.desk_wire.specs.declared.fault.Unread as unreads
use Rattle.desk_wire.specs.declared.fault.Unread.TheVariants as unread
use Rattle.desk_wire.specs.declared.fault.ReadError.{ReadError}
use Rattle.desk_wire.specs.declared.fault.ReadError.TheVariants.{Memory, Wrong}

infixl 10 ◌>>=◌
abbrev pub ◌>>=◌ : {A B E : Type 0} → Result A E → (A → Result B E) → Result B E
(Ok x) >>= f = f x
(Err e) >>= f = Err e

abbrev pub or_fault : {A E : Type 0} → E → Option A → Result A E
or_fault fault None = Err fault
or_fault fault (Some x) = Ok x

-- a test that must hold
abbrev pub must : {E : Type 0} → E → Bool → Result (Unit {0}) E
must fault true = Ok tt
must fault false = Err fault

-- a reading of what may be missing
abbrev pub maybe : {A B : Type 0} → (A → Result B What) → Option A → Result (Option B) What
maybe reading None = Ok None
maybe reading (Some x) = do
  y ← reading x
  Ok (Some y)

-- a reading of the record of that number, which a fault carries
abbrev pub at : {A : Type 0} → ℕ → Result A What → Result A WireFault
at number (Ok x) = Ok x
at number (Err what) = Err (record { line = number; what = what })

-- where the reading of a field fails, that field and what stands in it; else what is wrong later
abbrev pub at_fault : {A X : Type 0} → List ℕ → X → Result A What → Option (List ℕ × X) → Option (List ℕ × X)
at_fault name there (Ok x) later = later
at_fault name there (Err what) later = Some (name, there)

-- what a function of the code answered is what reading gives, unless memory ran out
abbrev pub Fails : {X : Type 0} → unreads.Unread → Result X What → Type 0
Fails unread.Memory reading = Unit {0}
Fails (unread.Wrong what) reading = reading ≡ Err what

abbrev pub Gives : {X : Type 0} → Result X unreads.Unread → Result X What → Type 0
Gives (Ok x) reading = reading ≡ Ok x
Gives (Err e) reading = Fails e reading

-- the same of what the code has in another form, of which this is the view
abbrev pub GivesBy : {X Y : Type 0} → (Y → X) → Result Y unreads.Unread → Result X What → Type 0
GivesBy view (Ok y) reading = reading ≡ Ok (view y)
GivesBy view (Err e) reading = Fails e reading

-- the same of the line of that number, which a fault carries
abbrev pub FailsAt : {X : Type 0} → ℕ → ReadError → Result X What → Type 0
FailsAt number Memory reading = Unit {0}
FailsAt number (Wrong fault) reading = (reading ≡ Err fault.what) × (fault.line ≡ number)

abbrev pub GivesAt : {X : Type 0} → ℕ → Result X ReadError → Result X What → Type 0
GivesAt number (Ok x) reading = reading ≡ Ok x
GivesAt number (Err e) reading = FailsAt number e reading

-- the same of a file, of which a fault carries the number of a record
abbrev pub FailsIn : {X : Type 0} → ReadError → Result X WireFault → Type 0
FailsIn Memory reading = Unit {0}
FailsIn (Wrong fault) reading = reading ≡ Err fault

-- whether what a function of the code answered is a fault, unless memory ran out
abbrev pub has_failed : {X : Type 0} → Result X unreads.Unread → Result Bool AllocError
has_failed (Ok x) = Ok false
has_failed (Err unread.Memory) = Err alloc_error
has_failed (Err (unread.Wrong what)) = Ok true
