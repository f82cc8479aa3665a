-- Lines of fields in columns.
use Rattle.std.specs.Prelude.{ℕ, ◌-◌, max, List, [], ◌∷◌, ◌++◌, flat_map, count_by, codes}
use Rattle.std.specs.Fmt.{is_char_start}
use Rattle.std.specs.List.{fold, repeat}
use Rattle.report_core.specs.Lines.{Lines}

-- how many characters a text has: a byte in 128 .. 191 goes on with one
abbrev pub width : List ℕ → ℕ
width text = count_by is_char_start text

-- the widths of columns, each as before or that of the line's field, whichever is larger
abbrev pub wider : List ℕ → List (List ℕ) → List ℕ
wider widths [] = widths
wider [] (f ∷ fs) = width f ∷ wider [] fs
wider (w ∷ ws) (f ∷ fs) = max w (width f) ∷ wider ws fs

-- the width of each column: the largest of its fields over all lines
abbrev pub column_widths : Lines → List ℕ
column_widths lines = fold wider [] lines

-- a field with the spaces that it lacks to its column's width, and two more
abbrev pub filled : ℕ → List ℕ → List ℕ
filled widest field = field ++ (repeat (widest - width field) (codes " ") ++ codes "  ")

-- the fields of a line, each but the last filled up; the widths of all lines have one for each field
abbrev pub in_columns : List ℕ → List (List ℕ) → List ℕ
in_columns widths [] = []
in_columns widths (f ∷ []) = f
in_columns [] (f ∷ g ∷ fs) = filled 0 f ++ in_columns [] (g ∷ fs)
in_columns (w ∷ ws) (f ∷ g ∷ fs) = filled w f ++ in_columns ws (g ∷ fs)

-- a line with its LF
abbrev pub column_line : List ℕ → List (List ℕ) → List ℕ
column_line widths fields = in_columns widths fields ++ 10 ∷ []

abbrev pub columns_text : Lines → List ℕ
columns_text lines = flat_map (column_line (column_widths lines)) lines
