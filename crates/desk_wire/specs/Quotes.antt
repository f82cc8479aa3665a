-- Quotes that are open where a text ends. What stands behind such a quote is one field, line ends too, so that the records
-- behind it are lost in it.
use Rattle.std.specs.Prelude.{ℕ, ◌∷◌, List, [], length, Bool, true, false, Option, Some, None, if◌then◌else◌}
use Rattle.csv.specs.Machine.{step}
use Rattle.csv.specs.Reading.{records}
use Rattle.csv.specs.declared.parser.Config.{Config}
use Rattle.csv.specs.declared.parser.State.{State}
use Rattle.csv.specs.declared.parser.State.TheVariants as st
use Rattle.desk_wire.specs.Records.{Fields}

-- where a reader stands that has taken this text, which began at that state
abbrev pub state_after : Config → State → List ℕ → State
state_after config state [] = state
state_after config state (byte ∷ text) = state_after config (step config state byte).0 text

-- between a quote and the one that closes it
abbrev pub is_in_quotes : State → Bool
is_in_quotes st.StartRecord = false
is_in_quotes st.StartField = false
is_in_quotes st.InField = false
is_in_quotes st.InQuoted = true
is_in_quotes st.AfterQuote = false
is_in_quotes st.InEscape = true
is_in_quotes st.InComment = false
is_in_quotes st.AfterCr = false

-- nothing closes the last quote that was opened
abbrev pub ends_in_quotes : Config → List ℕ → Bool
ends_in_quotes config text = is_in_quotes (state_after config st.StartRecord text)

-- the number of the record in which that quote stands: the last
abbrev pub open_record : Config → List ℕ → Option ℕ
open_record config text = if ends_in_quotes config text then Some (length (records config text)) else None

-- the other records
abbrev pub but_last : List Fields → List Fields
but_last [] = []
but_last (r ∷ []) = []
but_last (r ∷ s ∷ rs) = r ∷ but_last (s ∷ rs)

-- the records whose quotes are closed, where those of the last may be open
abbrev pub closed_of : Bool → List Fields → List Fields
closed_of false rs = rs
closed_of true rs = but_last rs
