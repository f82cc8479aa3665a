-- What goes into an output uses, and what outputs use that are done or written off.
use Rattle.std.proofs.Common.{ℕ, length}
use Rattle.word_core.specs.Day.{CivilDay}
use Rattle.forest.specs.declared.place.Place.TheVariants.{At, Off}
use Rattle.forest.specs.declared.place.Reason.TheVariants.{Scrapped}
use Rattle.forest.specs.Moves.{lift_change}
use Rattle.yard_core.specs.StockBooks.{StockBooks}
use Rattle.yard_core.specs.Stock.{IsHistory, lift_notes, tree_of}
use Rattle.stock_core.specs.Install.{put_in}
use Rattle.stock_core.proofs.Installs.{uses-put_in}
use Rattle.stock_core.proofs.Uses.{Uses, uses-change}
use Rattle.build_core.specs.ScrapOutput.{scrapped}
use Rattle.build_core.specs.CompleteOutput.{brought}

-- what goes into an item writes one
abbrev pub one_entry : StockBooks × ℕ → ℕ
one_entry t = 1

pub uses-fitted : (n : ℕ) (day : CivilDay) (t : StockBooks × ℕ) → IsHistory t.0.stock.history
    → Uses 0 (one_entry t) t.0 (put_in n day t)
uses-fitted n day t h = uses-put_in t.1 n day t.0 h

-- an output that comes to a location
pub uses-brought : (n l : ℕ) (day : CivilDay) (b : StockBooks) → IsHistory b.stock.history
    → Uses 0 (length (lift_notes n (At l) b.stock)) b (brought n l day b)
uses-brought n l day b h = uses-change (lift_change (At l) (tree_of n b.stock)) day b h

-- one that is written off
abbrev pub scrapped_entries : ℕ → StockBooks → ℕ
scrapped_entries n b = length (lift_notes n (Off Scrapped) b.stock)

pub uses-scrapped : (n : ℕ) (day : CivilDay) (b : StockBooks) → IsHistory b.stock.history
    → Uses 0 (scrapped_entries n b) b (scrapped n day b)
uses-scrapped n day b h = uses-change (lift_change (Off Scrapped) (tree_of n b.stock)) day b h
