-- What is made under numbers that aren't drawn yet.
use Rattle.std.proofs.Common.{◌≡◌, ℕ, ◌+◌, ◌-◌, ◌≤◌, List, Option, ap, arith}
use Rattle.std.specs.Prelude.{nat_lt}
use Rattle.word_core.specs.Counter.{Counting, lacks, numbering_of, resumed}
use Rattle.word_core.specs.Day.{CivilDay}
use Rattle.word_core.specs.declared.limits.Limits.{Limits}
use Rattle.yard_core.specs.Stock.{Stock, cut}
use Rattle.yard_core.specs.StockBooks.{StockBooks, with_drawn}
use Rattle.stock_core.specs.Steps.{cut_off}

-- the books where this number is the next
abbrev pub from : ℕ → Limits → Stock → StockBooks
from next limits s = record { stock = s; counter = resumed limits next }

-- a piece is cut off under it
pub cut-from : (n quantity : ℕ) (serial : Option (List ℕ)) (day : CivilDay) (next : ℕ) (limits : Limits) (s new : Stock)
    → new ≡ cut n quantity next serial day s → from (next + 1) limits new ≡ cut_off n quantity serial day (from next limits s)
cut-from n quantity serial day next limits s new is = ap (λ (t : Stock). with_drawn t (from next limits s)) is

-- what is past the numbers that aren't drawn yet
pub lacks-none : (first next : ℕ) (c : Counting) → c.next ≡ first → first ≤ next
    → lacks 0 (resumed c.limits next) ≡ lacks (next - first) (numbering_of c)
lacks-none first next c is le =
    ap (nat_lt (c.limits.numbers + 1)) (let e : next + 0 ≡ c.next + (next - first) = omega (arith, le, is) in e)
