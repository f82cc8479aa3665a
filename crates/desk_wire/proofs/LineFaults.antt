-- Which member of a faulty line is wrong.
use Rattle.std.proofs.Common.{◌≡◌, ℕ, List, refl, Some}
use Rattle.std.specs.Prelude.{String}
use Rattle.std.specs.declared.alloc.Global.{Global}
use Rattle.serde_json.specs.Data.{Data}
use Rattle.serde_json.specs.Find.{as_object}
use Rattle.serde_json.specs.declared.value.Value.{Value}
use Rattle.serde_json.specs.View.{members_view}
use Rattle.desk_wire.specs.WrongFields.{first_unknown, unknown_in}

-- at the `Some` of `as_object`
pub unknown_in_members : (names : List (List ℕ)) (d : Data) (es : List (String Global × Value))
    → Some (members_view es) ≡ as_object d → unknown_in names d ≡ first_unknown names (members_view es)
unknown_in_members names d es e = rw (← e) refl
