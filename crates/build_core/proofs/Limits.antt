-- Books whose numbers and entries are within the limits.
use Rattle.std.proofs.Common.{◌≡◌, ℕ, ◌+◌, ◌≤◌, false, arith}
use Rattle.yard_core.specs.StockBooks.{StockBooks, entries_in, is_full}
use Rattle.stock_core.proofs.Served.{within-limits}

-- where the next number is at most the largest that it may be, and the entries are within the limits, nothing is full
pub within-largest : (b : StockBooks) (largest : ℕ) → largest ≡ b.counter.limits.numbers + 1
    → b.counter.next ≤ largest → entries_in b ≤ b.counter.limits.entries → is_full b ≡ false
within-largest b largest is next within = within-limits b (omega (arith, is, next)) within
