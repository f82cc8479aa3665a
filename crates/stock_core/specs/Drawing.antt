-- What a contract sees of the books while rows are made whose numbers aren't drawn yet.
use Rattle.std.specs.Prelude.{ℕ}
use Rattle.word_core.specs.Counter.{Counting, resumed}
use Rattle.yard_core.specs.StockBooks.{StockBooks}
use Rattle.yard_core.specs.YardView.{stock_of}
use Rattle.yard_core.specs.declared.yard.Yard.{Yard}

-- the books as they are once the numbers below this one are drawn
abbrev pub books_at : ℕ → Yard → Counting → StockBooks
books_at next yard counter = record { stock = stock_of yard; counter = resumed counter.limits next }
