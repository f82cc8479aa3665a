-- Where the head of a request ends.
use Rattle.std.specs.Prelude.{◌≡◌, ◌+◌, ◌==◌, ◌||◌, ◌≤◌, nat_lt, nat_eq, length, take, ℕ, List}
use Rattle.std.specs.Prelude.{[], ◌∷◌, Option, Some, None, option_map, if◌then◌else◌}
use Rattle.std.specs.List.{starts_with}
use Rattle.std.specs.Io.KnownBytes.{prepend_known}
use Rattle.desk_http.specs.declared.receive.HeadArrival.{HeadArrival}
use Rattle.desk_http.specs.declared.receive.HeadArrival.TheVariants.{Head, TooLong, Incomplete}

-- how far the first empty line goes: an LF, or a CR LF, straight after an LF
unfoldable pub empty_line_end : List ℕ → Option ℕ
empty_line_end [] = None
empty_line_end (b ∷ bs) =
    if starts_with nat_eq (b ∷ bs) (10 ∷ 10 ∷ []) then Some 2
    else (if starts_with nat_eq (b ∷ bs) (10 ∷ 13 ∷ 10 ∷ []) then Some 3
    else option_map (λ n. n + 1) (empty_line_end bs))

-- how long the head is: it ends with its first empty line behind the first byte that is neither CR nor LF
unfoldable pub head_end : List ℕ → Option ℕ
head_end [] = None
head_end (b ∷ bs) = if b == 13 || b == 10 then option_map (λ n. n + 1) (head_end bs) else empty_line_end (b ∷ bs)

-- no more of the bytes than a head may have
unfoldable pub front : List ℕ → List ℕ
front bytes = take 8192 bytes

abbrev pub arrival_at : List ℕ → Option ℕ → HeadArrival
arrival_at bytes (Some n) = Head n
arrival_at bytes None = if nat_lt (length bytes) 8192 then Incomplete else TooLong

-- whether the bytes begin with a head
abbrev pub arrival : List ℕ → HeadArrival
arrival bytes = arrival_at bytes (head_end (front bytes))

-- the bytes are read until a head has come: before the last read, which gives 4,096 of them at most, it hadn't
pub record EndsWithHead (bytes : List ℕ) : Type 0 where
  pub before : ℕ
  pub last_read : length bytes ≤ before + 4096
  pub not_yet : arrival (take before bytes) ≡ Incomplete

-- what was read, and then what the reader still has
abbrev pub all_of : Option (List ℕ) → List ℕ → Option (List ℕ)
all_of known read = prepend_known read known

-- a head that has come lies in so many bytes
abbrev pub IsInside : ℕ → HeadArrival → Type 0
IsInside len (Head n) = n ≤ len
IsInside len TooLong = Unit {0}
IsInside len Incomplete = Unit {0}
