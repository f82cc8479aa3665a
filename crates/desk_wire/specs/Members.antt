-- The names of an object's members.
use Rattle.std.specs.Prelude.{ℕ, List, ◌&&◌, Bool, true, Option, Some, None}
use Rattle.serde_json.specs.Data.{Data, Members, no_members, member}
use Rattle.serde_json.specs.Find.{as_object}
use Rattle.word_core.specs.Forms.{is_among}

abbrev pub all_known : List (List ℕ) → Members → Bool
all_known names no_members = true
all_known names (member k d ms) = is_among k names && all_known names ms

-- each member has one of these names
abbrev pub knows_all : List (List ℕ) → Data → Bool
knows_all names d = in_members (as_object d)
  where
    in_members : Option Members → Bool
    in_members None = true
    in_members (Some ms) = all_known names ms
