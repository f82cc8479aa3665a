-- A command's text while it is written: the values of its members, in their order, and what a writer has written.
use Rattle.std.specs.Prelude.{◌≡◌, ℕ, List, [], ◌∷◌, ◌++◌, Result, OnOk}
use Rattle.std.specs.Borrow.{Bor}
use Rattle.json.specs.Tree.{json_tokens}
use Rattle.json.specs.Written.{Written}
use Rattle.serde_json.specs.Data.{Data, string, Members, no_members, member}
use Rattle.serde_json.specs.Written.{outline}
use Rattle.desk_core.specs.DataOf.{data_of}
use Rattle.desk_core.specs.declared.texts.MemberValue.{MemberValue}
use Rattle.desk_core.specs.declared.texts.MemberValue.TheVariants as value

abbrev pub value_data : MemberValue → Data
value_data (value.Verb verb) = string verb.now
value_data (value.Field field) = data_of field

-- the members of a map, in its order
abbrev pub in_order : List (Bor (List ℕ) × MemberValue) → Members
in_order [] = no_members
in_order (e ∷ es) = member e.0.now (value_data e.1) (in_order es)

-- a writer has written the data after what it had written
pub record Adds {E : Type 0} (r : Result (Unit {0}) E) (old new : Written) (d : Data) : Type 0 where
  pub tokens : OnOk r (new.tokens ≡ old.tokens ++ json_tokens (outline d))
  pub before : new.before ≡ old.before
