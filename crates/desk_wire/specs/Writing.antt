-- The lines that are answered, each with its LF.
use Rattle.std.specs.Prelude.{ℕ, List, [], ◌∷◌, ◌++◌, decimal, codes, Option, Some, None}
use Rattle.serde_json.specs.Data.{Data, object, no_members, member}
use Rattle.serde_json.specs.Written.{compact_text}
use Rattle.word_core.specs.declared.refusal.Refusal.{Refusal}
use Rattle.word_core.specs.Refusal.{refusal_name}
use Rattle.word_core.specs.declared.answer.Answer.{Answer}
use Rattle.desk_core.specs.AnswerLine.{answer_line}
use Rattle.report_core.specs.Lines.{Lines, report_data}
use Rattle.desk_wire.specs.declared.fault.WireFault.{WireFault}
use Rattle.desk_wire.specs.Faults.{fault_name, fault_field}

abbrev pub answer_text : Answer → List ℕ
answer_text answer = answer_line answer ++ 10 ∷ []

abbrev pub refused_text : Refusal → List ℕ
refused_text refusal = codes "{\"refused\":\"" ++ refusal_name refusal ++ codes "\"}\n"

-- the member of the field that is wrong, where the fault tells it, with the comma before it
abbrev pub field_member : Option (List ℕ) → List ℕ
field_member None = []
field_member (Some name) = codes ",\"field\":\"" ++ name ++ codes "\""

abbrev pub fault_text : WireFault → List ℕ
fault_text fault =
    codes "{\"fault\":\"" ++ fault_name fault.what ++ codes "\"" ++ field_member (fault_field fault.what)
    ++ codes ",\"line\":" ++ decimal fault.line ++ codes "}\n"

-- an object whose one member is the report
abbrev pub report_object : Data → Data
report_object report = object (member (codes "report") report no_members)

abbrev pub report_text : Lines → List ℕ
report_text lines = compact_text (report_object (report_data lines)) ++ 10 ∷ []
