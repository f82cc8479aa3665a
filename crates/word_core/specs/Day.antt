-- Days, as a text `YYYY-MM-DD` names them.
use Rattle.std.specs.Prelude.{ℕ, ℤ, ◌≤◌, pos, int_lt, unsigned_abs, List, ◌∷◌, ◌++◌, Bool, true, false}
use Rattle.std.specs.Prelude.{codes, decimal, nat_lt, Option, Some, None, Result, Ok, Err, if◌then◌else◌}
use Rattle.jiff_fmt.specs.Temporal.{parse_date, DateParts}
use Rattle.jiff_core.specs.Calendar.{days_in_month}
use Rattle.jiff_core.specs.declared.error.Error.{Error}
use Rattle.word_core.specs.Pattern.{fits_pattern}

-- a day of the calendar
pub record CivilDay : Type 0 where
  pub year : ℕ
  pub month : ℕ
  pub day : ℕ

-- a day from 2000-01-01 to 2099-12-31
pub record IsInUse (year month day : ℕ) : Type 0 where
  pub begun : 2000 ≤ year
  pub ends : year ≤ 2099
  pub month_from : 1 ≤ month
  pub month_to : month ≤ 12
  pub day_from : 1 ≤ day
  pub day_to : day ≤ days_in_month (pos year) month

-- a year that is in use
abbrev pub is_year : ℤ → Bool
is_year y = if int_lt y (pos 2000) then false else (if int_lt (pos 2099) y then false else true)

-- a day of the calendar, as its parts were written
abbrev pub day_from : DateParts → CivilDay
day_from d = record { year = unsigned_abs d.year; month = d.month; day = d.day }

-- the day of a text `YYYY-MM-DD`, where the calendar has it and the year is in use
abbrev pub day_of : List ℕ → Option CivilDay
day_of text = if fits_pattern (codes "0000-00-00") text then of_date (parse_date text) else None
  where
    of_date : Result DateParts Error → Option CivilDay
    of_date (Ok d) = if is_year d.year then Some (day_from d) else None
    of_date (Err e) = None

-- a number below 100, in two digits
abbrev pub two_digits : ℕ → List ℕ
two_digits n = if nat_lt n 10 then 48 ∷ decimal n else decimal n

-- a day as a text `YYYY-MM-DD`
abbrev pub day_text : CivilDay → List ℕ
day_text d = decimal d.year ++ 45 ∷ two_digits d.month ++ 45 ∷ two_digits d.day
