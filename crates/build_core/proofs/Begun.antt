-- What new outputs use: a number each, and no entry.
use Rattle.std.proofs.Common.{ℕ, List, [], ◌∷◌, length, Option, Some, None, refl, arith}
use Rattle.word_core.specs.Day.{CivilDay}
use Rattle.forest.specs.declared.entry.Kind.TheVariants as kind
use Rattle.forest.specs.declared.place.Place.TheVariants.{Output}
use Rattle.forest.specs.Moves.{make_change}
use Rattle.forest.specs.Tables.{node_of}
use Rattle.yard_core.specs.StockBooks.{StockBooks}
use Rattle.yard_core.specs.Stock.{IsHistory}
use Rattle.stock_core.specs.Arrives.{count_of}
use Rattle.stock_core.specs.Steps.{make_each, make_new, make_one, new_item}
use Rattle.stock_core.specs.declared.arrivals.NewStock.{NewStock}
use Rattle.build_core.specs.NewOutputs.{begun_at}
use Rattle.stock_core.proofs.Uses.{Uses, uses-change_drawn, uses-nothing, uses-then}

module _ (build part : ℕ) where
  uses-one : (quantity : ℕ) (batch serial : Option (List ℕ)) (day : CivilDay) (b : StockBooks)
      → IsHistory b.stock.history → Uses 1 0 b (make_one (begun_at build part) quantity batch serial day b)
  uses-one quantity batch serial day b h =
      let item = new_item b.counter.next (begun_at build part) quantity batch serial in
      uses-change_drawn (make_change kind.Found (Output build) (node_of item)) day b h

  uses-each : (batch : Option (List ℕ)) (serials : List (List ℕ)) (day : CivilDay) (b : StockBooks)
      → IsHistory b.stock.history
      → Uses (length serials) 0 b (make_each (begun_at build part) batch serials day b)
  uses-each batch [] day b h = uses-nothing b h
  uses-each batch (x ∷ xs) day b h =
      let one = uses-one 1 batch (Some x) day b h in
      let rest = uses-each batch xs day (make_one (begun_at build part) 1 batch (Some x) day b) one.history in
      uses-then one rest (omega arith) refl

  pub uses-begun : (new : NewStock) (day : CivilDay) (b : StockBooks) → IsHistory b.stock.history
      → Uses (count_of new.serials) 0 b (make_new (begun_at build part) new day b)
  uses-begun new day b h = go new.serials
    where
      go : (o : Option (List (List ℕ))) → Uses (count_of o) 0 b
          (make_new (begun_at build part) (record { quantity = new.quantity; batch = new.batch; serials = o }) day b)
      go None = uses-one new.quantity new.batch None day b h
      go (Some xs) = uses-each new.batch xs day b h
