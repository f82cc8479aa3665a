-- Texts that are cut, so that a list fits a terminal.
use Rattle.std.specs.Prelude.{ℕ, ◌-◌, ◌==◌, nat_lt, ◌||◌, List, [], ◌∷◌, ◌++◌, map, if◌then◌else◌}
use Rattle.std.specs.Char.{encode_utf8}
use Rattle.std.specs.Str.{chars}
use Rattle.report_core.specs.Lines.{Lines}

-- what is shown of a character where so many places are left in its line: in the last one stands `…`; an LF stands in any case
abbrev pub kept_char : ℕ → ℕ → List ℕ
kept_char left c =
    if (c == 10) || nat_lt 1 left then encode_utf8 c else if left == 1 then encode_utf8 8230 else []

-- how many places are left behind it, where a line has so many
abbrev pub left_behind : ℕ → ℕ → ℕ → ℕ
left_behind most left c = if c == 10 then most else left - 1

abbrev pub cut_chars : ℕ → ℕ → List ℕ → List ℕ
cut_chars most left [] = []
cut_chars most left (c ∷ cs) = kept_char left c ++ cut_chars most (left_behind most left c) cs

-- each line has at most so many characters: of one that has as many or more the last is `…`
unfoldable pub cut_lines : ℕ → List ℕ → List ℕ
cut_lines most text = cut_chars most most (chars text)

-- a name has at most 32 characters, and of a longer one the first 32 and `…`
abbrev pub cut_name : List ℕ → List ℕ
cut_name text = cut_lines 33 text

-- lines of fields, of which each is cut so
abbrev pub cut_fields : Lines → Lines
cut_fields lines = map (λ line. map cut_name line) lines
