-- What a contract sees of the books that a command on stock is lent: what they are now, and what they were before the
-- request.
use Rattle.yard_core.specs.StockBooks.{StockBooks, stock_books_before, stock_books_of}
use Rattle.yard_core.specs.declared.yard_books.YardBooks.{YardBooks}

abbrev pub books_now : YardBooks → StockBooks
books_now s = stock_books_of s.yard s.counter

abbrev pub books_before : YardBooks → StockBooks
books_before s = stock_books_before s.yard s.counter
