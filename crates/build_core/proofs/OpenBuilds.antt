-- A build that is open is a row of the table, whose part is a row of the catalogue.
use Rattle.std.proofs.Common.{◌≡◌, ℕ, true, [], ◌∷◌, Option, Some, None, refl}
use Rattle.std.specs.FinMap as table
use Rattle.part_core.specs.Catalogue.{Parts}
use Rattle.sheet_core.specs.Rows.{IsThere}
use Rattle.bom_core.specs.Bills.{Bills}
use Rattle.build_core.specs.Builds.{BuildBooks, build_at, is_open}
use Rattle.build_core.specs.Sound.{AreSoundBuilds}
use Rattle.build_core.specs.declared.build.Build.{Build}
use Rattle.build_core.proofs.Rests.{build_row}

pub open-there : (n : ℕ) (b : BuildBooks) → is_open (build_at n b).state ≡ true
    → table.get b.builds (n ∷ []) ≡ Some (build_at n b)
open-there n b e = go (table.get b.builds (n ∷ [])) e
  where
    go : (o : Option Build) → is_open (build_row o).state ≡ true → o ≡ Some (build_row o)
    go None f = cc
    go (Some y) f = refl

pub open-part : (parts : Parts) (bills : Bills) (b : BuildBooks) (n : ℕ) → AreSoundBuilds parts bills b
    → is_open (build_at n b).state ≡ true → IsThere parts.parts (build_at n b).part
open-part parts bills b n sound e = (sound.each_build (n ∷ []) (build_at n b) (open-there n b e)).part
