-- The level that two fields of a record say.
use Rattle.std.proofs.Common.{◌≡◌, ◌==◌, ℕ, false, List, [], ◌∷◌, length, refl}
use Rattle.desk_core.specs.Naming.{Naming}
use Rattle.desk_wire.specs.Levels.{FailsAs, level_row, maybe_level}
use Rattle.desk_wire.specs.declared.fault.FileError.{FileError}
use Rattle.desk_wire.specs.declared.fault.FileError.TheVariants.{Memory, Wrong}

-- where they can't be read, there is none
pub fails_so : (names : Naming) (n : ℕ) (part level : List ℕ) (e : FileError) → (length level == 0) ≡ false
    → FailsAs (level_row names n part level) e → FailsAs (maybe_level names n part level) e
fails_so names n part [] e some h = absurd (cc)
fails_so names n part (b ∷ bs) Memory some h = tt
fails_so names n part (b ∷ bs) (Wrong what field) some h = rw h refl
