-- The faults' names, and the fields that they tell.
use Rattle.std.specs.Prelude.{ℕ, List, codes, Option, Some, None}
use Rattle.std.specs.Prelude.{option_map, string_bytes}
use Rattle.desk_wire.specs.declared.fault.What.{What}
use Rattle.desk_wire.specs.declared.fault.What.TheVariants.{TooLong, NotJson, NotObject, NoField, WrongType}
use Rattle.desk_wire.specs.declared.fault.What.TheVariants.{UnknownCommand, UnknownField, BadKey, BadDay}
use Rattle.desk_wire.specs.declared.fault.What.TheVariants.{BadText, BadSerials, BadWord}
use Rattle.desk_wire.specs.declared.fault.What.TheVariants.{NoName, Ambiguous, Csv, Header, Changed}
use Rattle.desk_wire.specs.declared.fault.WrongField.{WrongField}

abbrev pub fault_name : What → List ℕ
fault_name TooLong = codes "TooLong"
fault_name NotJson = codes "NotJson"
fault_name NotObject = codes "NotObject"
fault_name NoField = codes "NoField"
fault_name WrongType = codes "WrongType"
fault_name UnknownCommand = codes "UnknownCommand"
fault_name UnknownField = codes "UnknownField"
fault_name BadKey = codes "BadKey"
fault_name BadDay = codes "BadDay"
fault_name BadText = codes "BadText"
fault_name BadSerials = codes "BadSerials"
fault_name BadWord = codes "BadWord"
fault_name (NoName field) = codes "NoName"
fault_name (Ambiguous field) = codes "Ambiguous"
fault_name Csv = codes "Csv"
fault_name Header = codes "Header"
fault_name Changed = codes "Changed"

-- a field that can't be read: its name, and what stands in it
abbrev pub shown_field : WrongField → List ℕ × Option (List ℕ)
shown_field field = (string_bytes field.name, option_map string_bytes field.text)

-- the name of the field that is wrong, where the fault tells it
abbrev pub fault_field : What → Option (List ℕ)
fault_field (NoName field) = Some field
fault_field (Ambiguous field) = Some field
fault_field _ = None
