-- What is printed of a desk.
use Rattle.std.specs.Prelude.{◌≡◌, codes, ℕ, List, Bool, Option}
use Rattle.std.specs.Io.KnownBytes.{Appends}
use Rattle.report_core.specs.Lines.{Lines}
use Rattle.desk_wire.specs.Printed.{printed}

-- it is written whole
abbrev pub IsPrinted : Option (List ℕ) → Option (List ℕ) → Option Lines → Bool → Type 0
IsPrinted w w' lines there = (there ≡ (printed lines).1) × Appends w w' (printed lines).0

-- what is printed of a file that was brought along
abbrev pub migrated_text : List ℕ
migrated_text = codes "migrated\n"
