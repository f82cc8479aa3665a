-- What builds are looked up by in an index.
use Rattle.std.specs.Prelude.{ℕ, List, [], ◌∷◌, if◌then◌else◌}
use Rattle.sheet_core.specs.Indexed.{index_key_of}
use Rattle.build_core.specs.Builds.{is_open}
use Rattle.build_core.specs.declared.build.Build.{Build}

-- the index key of the open builds
abbrev pub open_key : ℕ
open_key = index_key_of []

-- a build that isn't open is found by its number alone
abbrev pub build_keys : Build → List ℕ
build_keys x = if is_open x.state then open_key ∷ [] else []
