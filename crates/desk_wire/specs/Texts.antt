-- Texts that say what stands in a row, in a line and in a file alike.
use Rattle.std.specs.Prelude.{ℕ, List, Result, Ok, Err}
use Rattle.word_core.specs.Text.{is_text}
use Rattle.word_core.specs.declared.serials.SerialFault.{SerialFault}
use Rattle.desk_wire.specs.declared.fault.What.{What}
use Rattle.desk_wire.specs.declared.fault.What.TheVariants.{BadText, BadSerials}
use Rattle.desk_wire.specs.Steps.{◌>>=◌, must}

-- a text that may stand in a row
abbrev pub row_text_from : List ℕ → Result (List ℕ) What
row_text_from text = do
  fits ← must BadText (is_text text)
  Ok text

-- the serials that were read, whatever was wrong with them
abbrev pub listed : Result (List (List ℕ)) SerialFault → Result (List (List ℕ)) What
listed (Ok serials) = Ok serials
listed (Err fault) = Err BadSerials
