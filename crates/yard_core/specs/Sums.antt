-- The sums over one part.
use Rattle.std.specs.Prelude.{ℕ, Bool, if◌then◌else◌, sum_by}
use Rattle.std.specs.FinMap as table
use Rattle.sheet_core.specs.Sheet.{Table}
use Rattle.forest.specs.declared.item.Item.{Item}
use Rattle.forest.specs.declared.place.Place.{Place}
use Rattle.forest.specs.declared.entry.Kind.TheVariants.{Received, Found, Built, Consumed, Shipped, Returned, Written}
use Rattle.forest.specs.Forest.{amount, present, sent, used, recorded}
use Rattle.forest.specs.Tables.{node_of}
use Rattle.yard_core.specs.declared.sums.Sums.{Sums}
use Rattle.yard_core.specs.Stock.{Stock, forest, notes, root_place}

-- what an item adds to a part's quantity under roots at such places
abbrev pub lying : (Place → Bool) → ℕ → Table Item → Item → ℕ
lying at p t x = if at (root_place t x.number) then amount p (node_of x) else 0

abbrev pub lying_sum : (Place → Bool) → ℕ → Stock → ℕ
lying_sum at p s = sum_by (lying at p s.items) (table.values s.items)

abbrev pub sums_of : ℕ → Stock → Sums
sums_of p s = record {
  received = recorded Received p (notes s);
  found = recorded Found p (notes s);
  built = recorded Built p (notes s);
  returned = recorded Returned p (notes s);
  consumed = recorded Consumed p (notes s);
  shipped = recorded Shipped p (notes s);
  written = recorded Written p (notes s);
  present = present p (forest s);
  sent = sent p (forest s);
  used = used p (forest s);
}
