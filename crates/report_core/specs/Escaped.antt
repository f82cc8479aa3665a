-- Texts for a person's terminal.
use Rattle.std.specs.Prelude.{ℕ, ◌/◌, ◌%◌, nat_lt, Bool, ◌||◌, List, [], ◌∷◌, ◌++◌, map, if◌then◌else◌}
use Rattle.std.specs.Char.{digit_char, encode_utf8, is_control}
use Rattle.std.specs.Int.{is_in_range}
use Rattle.std.specs.Str.{chars}
use Rattle.report_core.specs.Lines.{Lines}

-- a mark that turns the direction in which the text around it is shown: ALM, LRM and RLM; the embeddings and overrides, and
-- what ends one; the isolates, and what ends one
abbrev pub turns_text : ℕ → Bool
turns_text c =
    is_in_range 0x61C 0x61C c || (is_in_range 0x200E 0x200F c || (is_in_range 0x202A 0x202E c || is_in_range 0x2066 0x2069 c))

-- no character of a text that is read as it stands: one of control, of either kind, or a mark that turns text
abbrev pub is_acted_on : ℕ → Bool
is_acted_on c = is_control c || turns_text c

-- of a number below 256 its two hexadecimal digits
abbrev pub two_digits : ℕ → List ℕ
two_digits n = encode_utf8 (digit_char (n / 16)) ++ encode_utf8 (digit_char (n % 16))

-- two hexadecimal digits, or of a number from 256 on four
abbrev pub hex_text : ℕ → List ℕ
hex_text n = if nat_lt n 256 then two_digits n else two_digits (n / 256) ++ two_digits (n % 256)

-- `\u{`, the hexadecimal digits of the character and `}`
abbrev pub escape : ℕ → List ℕ
escape c = (92 ∷ 117 ∷ 123 ∷ []) ++ (hex_text c ++ 125 ∷ [])

-- of a character that is acted on its escape
abbrev pub escaped_char : ℕ → List ℕ
escaped_char c = if is_acted_on c then escape c else encode_utf8 c

abbrev pub escaped_chars : List ℕ → List ℕ
escaped_chars [] = []
escaped_chars (c ∷ cs) = escaped_char c ++ escaped_chars cs

unfoldable pub escaped : List ℕ → List ℕ
escaped text = escaped_chars (chars text)

-- lines of fields, of which each is escaped
abbrev pub escaped_lines : Lines → Lines
escaped_lines lines = map (λ line. map escaped line) lines
