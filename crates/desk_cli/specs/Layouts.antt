-- A list as it is laid out.
use Rattle.std.specs.Prelude.{ℕ, List, Bool, Option}
use Rattle.report_core.specs.Lines.{Lines}
use Rattle.list_words.specs.Lists.{told_list}
use Rattle.desk_cli.specs.declared.show.ListLayout.{ListLayout}

-- what is printed of a list that is laid out so, and whether it is there
abbrev pub laid_out : ListLayout → Option Lines → List ℕ × Bool
laid_out layout lines = told_list layout.csv layout.person layout.most lines
