-- The commands of which a file may be.
use Rattle.std.specs.Prelude.{ℕ, Bool, List, Option, None, ◌||◌, codes, if◌then◌else◌}
use Rattle.std.specs.Str.{bytes_eq}
use Rattle.word_core.specs.Forms.{Form, form_named}
use Rattle.word_core.specs.FormTables.{forms_by}
use Rattle.desk_core.specs.CommandForms.{command_forms}

-- what a file of receipts or of counts asks for has keys of its own: under others a row would be done twice
abbrev pub has_own_files : List ℕ → Bool
has_own_files verb = bytes_eq verb (codes "receive") || bytes_eq verb (codes "count")

-- the form of the command of that name, if a file may be of it
unfoldable pub sheet_form : List ℕ → Option Form
sheet_form verb = if has_own_files verb then None else form_named verb (forms_by command_forms)
