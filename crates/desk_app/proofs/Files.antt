-- A file of which as much was read as shows that it is too long.
use Rattle.std.proofs.Common.{◌≡◌, ℕ, Bool, true, false, List, length, nat_le, ap, sym, refl, ◌∙◌}
use Rattle.std.specs.Prelude.{Option, Some, None, Err, IfSome}
use Rattle.word_core.specs.Day.{CivilDay}
use Rattle.desk_core.specs.Machine.{State}
use Rattle.desk_core.specs.Naming.{Naming}
use Rattle.desk_wire.specs.Imports.{import_by}
use Rattle.desk_wire.specs.declared.fault.What.TheVariants.{TooLong}
use Rattle.desk_wire.specs.declared.kind.FileReading.{FileReading}
use Rattle.desk_wire.specs.declared.kind.FileReading.TheVariants.{Strict, Loose, Unchanged}
use Rattle.desk_wire.specs.declared.kind.ImportKind.{ImportKind}
use Rattle.desk_app.specs.Cuts.{enough, ReadsFile}
use Rattle.desk_app.proofs.Cutting.{enough_short}
use Rattle.desk_app.proofs.Stepping.{long_take, short_length}

import_long : (reading : FileReading) (s : State) (names : Option Naming) (kind : ImportKind) (document : List ℕ) (day : CivilDay) (bytes : List ℕ)
    → nat_le (length bytes) 16777216 ≡ false
    → import_by reading s names kind document day bytes ≡ Err (record { line = 0; what = TooLong })
import_long Strict s names kind document day bytes e = rw e refl
import_long Loose s names kind document day bytes e = rw e refl
import_long Unchanged s names kind document day bytes e = rw e refl

long_enough : (file : List ℕ) → nat_le (length file) 16777216 ≡ false → nat_le (length (enough file)) 16777216 ≡ false
unfolding enough
long_enough file e = long_take 16777216 file e

import_enough : (reading : FileReading) (s : State) (names : Option Naming) (kind : ImportKind) (document : List ℕ) (day : CivilDay) (file : List ℕ)
    → import_by reading s names kind document day (enough file) ≡ import_by reading s names kind document day file
import_enough reading s names kind document day file = cases (nat_le (length file) 16777216) refl
  where
    cases : (b : Bool) → nat_le (length file) 16777216 ≡ b
        → import_by reading s names kind document day (enough file) ≡ import_by reading s names kind document day file
    cases true e = ap (import_by reading s names kind document day) (enough_short file (short_length 16777216 file e))
    cases false e =
        import_long reading s names kind document day (enough file) (long_enough file e) ∙ sym
        (import_long reading s names kind document day file e)

-- what is imported of it is what the whole file is
pub imported_as_whole : (o : Option (List ℕ)) (bytes : List ℕ) → ReadsFile o bytes
    → IfSome o (λ file. (reading : FileReading) (s : State) (names : Option Naming) (kind : ImportKind) (document : List ℕ) (day : CivilDay)
    → import_by reading s names kind document day bytes ≡ import_by reading s names kind document day file)
imported_as_whole None bytes h = tt
imported_as_whole (Some file) bytes h =
    λ reading s names kind document day. ap (import_by reading s names kind document day) h ∙ import_enough reading s names kind document day file
