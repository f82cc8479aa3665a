-- Texts that list serial numbers, as `3-5,A-1` lists 3, 4, 5 and A-1.
use Rattle.std.specs.Prelude.{ℕ, ◌+◌, ◌-◌, List, [], ◌∷◌, ◌++◌, Bool, ◌&&◌, ◌||◌, ◌==◌, not, nat_lt, nat_le, length}
use Rattle.std.specs.Prelude.{map, slice_index, decimal, Option, Some, None, Result, Ok, Err, if◌then◌else◌}
use Rattle.std.specs.List.{list_all, slice_split, before_first, after_first, range_with_len}
use Rattle.std.specs.Char.{is_ascii_digit}
use Rattle.std.specs.Str.Parse.{digits_value}
use Rattle.word_core.specs.declared.serials.SerialFault.{SerialFault}
use Rattle.word_core.specs.declared.serials.SerialFault.TheVariants.{Empty, BadChar, Falling, TooMany, TooLong}
use Rattle.word_core.specs.Serial.{is_serial_byte}

-- the serials that a text stands for, or why it stands for none
abbrev pub Reading : Type 0
Reading = Result (List (List ℕ)) SerialFault

-- 1 to 18 digits, of which the first is no 0 where others follow
abbrev pub is_number : List ℕ → Bool
is_number text =
    nat_lt 0 (length text) && nat_le (length text) 18 && list_all is_ascii_digit text
    && (length text == 1 || not (slice_index text 0 == 48))

-- such a number's value
abbrev pub number_of : List ℕ → Option ℕ
number_of text = if is_number text then Some (digits_value 10 text) else None

-- the two ends of a range: the numbers before and after its first `-`. Without a `-` nothing stands after it, which is
-- no number
abbrev pub range_of : List ℕ → Option (ℕ × ℕ)
range_of element =
    both (number_of (before_first (λ b. b == 45) element)) (number_of (after_first (λ b. b == 45) element))
  where
    both : Option ℕ → Option ℕ → Option (ℕ × ℕ)
    both (Some first) (Some last) = Some (first, last)
    both (Some first) None = None
    both None (Some last) = None
    both None None = None

-- the numbers from the first to the last, in decimal
abbrev pub decimals : ℕ → ℕ → List (List ℕ)
decimals first last = map decimal (range_with_len first (last + 1 - first))

abbrev pub range_serials : ℕ → ℕ → Reading
range_serials first last =
    if nat_le last first then Err Falling
    else (if nat_lt 1000 (last + 1 - first) then Err TooMany else Ok (decimals first last))

-- a range's serials, or else the element as one serial
abbrev pub range_or_one : Option (ℕ × ℕ) → List ℕ → Reading
range_or_one (Some ends) element = range_serials ends.0 ends.1
range_or_one None element = if nat_lt 24 (length element) then Err TooLong else Ok (element ∷ [])

-- the serials of one element
unfoldable pub element_serials : List ℕ → Reading
element_serials element =
    if length element == 0 then Err Empty
    else (if list_all is_serial_byte element then range_or_one (range_of element) element else Err BadChar)

-- serials, and then those of a reading
abbrev pub put_before : List (List ℕ) → Reading → Reading
put_before serials (Ok more) = Ok (serials ++ more)
put_before serials (Err fault) = Err fault

-- the readings together, where so many serials come before them: all serials, or the first fault
abbrev pub joined : ℕ → List Reading → Reading
joined before [] = Ok []
joined before (Err fault ∷ readings) = Err fault
joined before (Ok serials ∷ readings) =
    if nat_lt 1000 (before + length serials) then Err TooMany
    else put_before serials (joined (before + length serials) readings)

-- the serials of a text, which is cut at commas
abbrev pub serials_in : List ℕ → Reading
serials_in text = joined 0 (map element_serials (slice_split (λ b. b == 44) text))
