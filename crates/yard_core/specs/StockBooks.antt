-- The stock books, which the commands of the yard read and change: the stock, and the counter that its rows draw
-- their numbers from.
use Rattle.std.specs.Prelude.{ℕ, ◌-◌, ◌||◌, Bool, nat_lt, List, Result}
use Rattle.std.specs.FinMap as table
use Rattle.word_core.specs.Acts.{Acts}
use Rattle.word_core.specs.Checks.{Check}
use Rattle.word_core.specs.Counter.{Counting, Numbering, drawn, numbering_before}
use Rattle.word_core.specs.Counter.{numbering_of, numbers_between, passes_limit}
use Rattle.word_core.specs.declared.answer.Answer.{Answer}
use Rattle.word_core.specs.declared.refusal.CoreFault.{CoreFault}
use Rattle.yard_core.specs.Stock.{Stock}
use Rattle.yard_core.specs.YardView.{stock_before, stock_of}
use Rattle.yard_core.specs.declared.yard.Yard.{Yard}

pub record StockBooks : Type 0 where
  pub stock : Stock
  pub counter : Numbering

-- the stock books now
abbrev pub stock_books_of : Yard → Counting → StockBooks
stock_books_of yard counter = record { stock = stock_of yard; counter = numbering_of counter }

-- the stock books before the request
abbrev pub stock_books_before : Yard → Counting → StockBooks
stock_books_before yard counter = record { stock = stock_before yard; counter = numbering_before counter }

-- the stock books with other stock
abbrev pub with_stock : Stock → StockBooks → StockBooks
with_stock stock b = record { stock = stock; counter = b.counter }

-- the stock books with other stock, for which a number was drawn
abbrev pub with_drawn : Stock → StockBooks → StockBooks
with_drawn stock b = record { stock = stock; counter = drawn 1 b.counter }

-- how many entries the history has
abbrev pub entries_in : StockBooks → ℕ
entries_in b = table.len b.stock.history

-- more numbers are drawn, or more entries written, than the limits allow
abbrev pub is_full : StockBooks → Bool
is_full b = passes_limit b.counter || nat_lt b.counter.limits.entries (entries_in b)

-- what is answered: the numbers drawn, and how many entries were written
abbrev pub answer_of : StockBooks → StockBooks → Answer
answer_of old new = record { ids = numbers_between old.counter new.counter; entries = entries_in new - entries_in old }

-- a command does this to the books and answers what that drew and wrote; or it is refused by the first
-- check that applies, or runs out of memory, and nothing has changed
abbrev pub Does : List Check → StockBooks → StockBooks → Result Answer CoreFault → StockBooks → Type 0
Does checks after old result new = Acts checks (after, answer_of old after) old result new
