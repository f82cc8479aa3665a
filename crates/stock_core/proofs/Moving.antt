-- What a command does is a chain of moves, for some of which a number is drawn: what holds of none, of each, and of one
-- stage after another holds of all of it, whatever is asked.
use Rattle.std.proofs.Common.{ℕ, ◌-◌, Bool, true, false, List, [], ◌∷◌, ◌++◌, Option, Some, None, map}
use Rattle.std.specs.Prelude.{◌==◌, ◌&&◌, if◌then◌else◌}
use Rattle.word_core.specs.Day.{CivilDay}
use Rattle.word_core.specs.declared.status.Status.{Status}
use Rattle.forest.specs.declared.entry.Kind.{Kind}
use Rattle.forest.specs.declared.entry.Kind.TheVariants as kind
use Rattle.forest.specs.declared.entry.Note.{Note}
use Rattle.forest.specs.declared.item.Item.{Item}
use Rattle.forest.specs.declared.place.Place.{Place}
use Rattle.forest.specs.declared.place.Place.TheVariants.{At, In, Off}
use Rattle.forest.specs.declared.place.Reason.{Reason}
use Rattle.forest.specs.declared.place.Reason.TheVariants.{Counted, Disassembled, Removed}
use Rattle.forest.specs.Forest.{row_of}
use Rattle.forest.specs.Moves.{Change, cut_change, grow_change, lift_change, make_change, pour_change, shrink_change}
use Rattle.forest.specs.Rows.{entry_to}
use Rattle.forest.specs.Tables.{node_of}
use Rattle.alloc_core.specs.declared.allocation.Allocation.{Allocation}
use Rattle.yard_core.specs.StockBooks.{StockBooks, with_drawn, with_stock}
use Rattle.yard_core.specs.Stock.{Stock, at_place, by_change, children_of, grow, item_at}
use Rattle.yard_core.specs.Stock.{lift, mark, moved, pour, prune, relocated, shrink, tree_of, with_status}
use Rattle.stock_core.specs.Count.{counted}
use Rattle.stock_core.specs.Disassemble.{prune_each}
use Rattle.stock_core.specs.Install.{put_in}
use Rattle.stock_core.specs.ItemTests.{has_less, has_more, is_serialised, quantity_at}
use Rattle.stock_core.specs.Merge.{pour_each}
use Rattle.stock_core.specs.Serving.{serve_each}
use Rattle.stock_core.specs.StockMachine.{effect}
use Rattle.stock_core.specs.Steps.{cut_each, cut_off, make_each, make_new, make_one, new_item, take}
use Rattle.stock_core.specs.Transfer.{carried}
use Rattle.stock_core.specs.declared.arrivals.Arrival.{Arrival}
use Rattle.stock_core.specs.declared.arrivals.NewStock.{NewStock}
use Rattle.stock_core.specs.declared.stock_command.StockCommand.{StockCommand}
use Rattle.stock_core.specs.declared.stock_command.StockCommand.TheVariants.{Found, Add, Remove, Count, Transfer, Split}
use Rattle.stock_core.specs.declared.stock_command.StockCommand.TheVariants.{Merge, Serialise, SetStatus, Install}
use Rattle.stock_core.specs.declared.stock_command.StockCommand.TheVariants.{Uninstall, Disassemble, Reinstate}

-- of the stock of the books
abbrev pub OnStock : (Stock → Stock → Type 0) → StockBooks → StockBooks → Type 0
OnStock R b c = R b.stock c.stock

pub record HoldsOfMoves (R : StockBooks → StockBooks → Type 0) : Type 0 where
  pub none : (b : StockBooks) → R b b
  pub more : (b c d : StockBooks) → R b c → R c d → R b d
  pub move : (rows : List Item) (notes : List Note) (day : CivilDay) (b : StockBooks)
      → R b (with_stock (moved rows notes day b.stock) b)
  pub drawn : (rows : List Item) (notes : List Note) (day : CivilDay) (b : StockBooks)
      → R b (with_drawn (moved rows notes day b.stock) b)

module _ (R : StockBooks → StockBooks → Type 0) (holds : HoldsOfMoves R) where
  -- ---- moves

  of-change : (c : Change) (day : CivilDay) (b : StockBooks) → R b (with_stock (by_change c day b.stock) b)
  of-change c day b = holds.move (map row_of (c.roots ++ c.leaves)) c.notes day b

  of-drawn : (c : Change) (day : CivilDay) (b : StockBooks) → R b (with_drawn (by_change c day b.stock) b)
  of-drawn c day b = holds.drawn (map row_of (c.roots ++ c.leaves)) c.notes day b

  pub of-lift : (n : ℕ) (q : Place) (day : CivilDay) (b : StockBooks) → R b (with_stock (lift n q day b.stock) b)
  of-lift n q day b = of-change (lift_change q (tree_of n b.stock)) day b

  pub of-mark : (n : ℕ) (status : Status) (day : CivilDay) (b : StockBooks)
      → R b (with_stock (mark n status day b.stock) b)
  of-mark n status day b =
      let x = item_at n b.stock in holds.move (with_status status x ∷ []) (entry_to kind.Marked x.place x ∷ []) day b

  of-relocated : (k : Kind) (q : Place) (n : ℕ) (day : CivilDay) (b : StockBooks)
      → R b (with_stock (relocated k q n day b.stock) b)
  of-relocated k q n day b =
      holds.move (at_place q (item_at n b.stock) ∷ []) (entry_to k q (item_at n b.stock) ∷ []) day b

  pub of-put_in : (m : ℕ) (day : CivilDay) (t : StockBooks × ℕ) → R t.0 (put_in m day t)
  of-put_in m day t = of-relocated kind.Installed (In m) t.1 day t.0

  -- ---- steps

  of-make_one : (a : Arrival) (q : ℕ) (batch serial : Option (List ℕ)) (day : CivilDay) (b : StockBooks)
      → R b (make_one a q batch serial day b)
  of-make_one a q batch serial day b =
      of-drawn (make_change a.kind a.place (node_of (new_item b.counter.next a q batch serial))) day b

  of-make_each : (a : Arrival) (batch : Option (List ℕ)) (xs : List (List ℕ)) (day : CivilDay) (b : StockBooks)
      → R b (make_each a batch xs day b)
  of-make_each a batch [] day b = holds.none b
  of-make_each a batch (x ∷ xs) day b =
      let one = make_one a 1 batch (Some x) day b in
      holds.more b one (make_each a batch xs day one) (of-make_one a 1 batch (Some x) day b)
      (of-make_each a batch xs day one)

  pub of-make_new : (a : Arrival) (new : NewStock) (day : CivilDay) (b : StockBooks) → R b (make_new a new day b)
  of-make_new a new day b = by_serials new.serials
    where
      by_serials : (o : Option (List (List ℕ)))
          → R b (make_new a (record { quantity = new.quantity; batch = new.batch; serials = o }) day b)
      by_serials None = of-make_one a new.quantity new.batch None day b
      by_serials (Some xs) = of-make_each a new.batch xs day b

  of-cut_off : (n q : ℕ) (serial : Option (List ℕ)) (day : CivilDay) (b : StockBooks) → R b (cut_off n q serial day b)
  of-cut_off n q serial day b = of-drawn (cut_change q b.counter.next serial (tree_of n b.stock)) day b

  pub of-cut_each : (n : ℕ) (xs : List (List ℕ)) (day : CivilDay) (b : StockBooks) → R b (cut_each n xs day b)
  of-cut_each n [] day b = holds.none b
  of-cut_each n (x ∷ xs) day b =
      let one = cut_off n 1 (Some x) day b in
      holds.more b one (cut_each n xs day one) (of-cut_off n 1 (Some x) day b) (of-cut_each n xs day one)

  of-pour_each : (ns : List ℕ) (into : ℕ) (day : CivilDay) (b : StockBooks)
      → R b (with_stock (pour_each ns into day b.stock) b)
  of-pour_each [] into day b = holds.none b
  of-pour_each (n ∷ ns) into day b =
      let one = with_stock (pour n into day b.stock) b in
      holds.more b one (with_stock (pour_each ns into day one.stock) b)
      (of-change (pour_change (tree_of n b.stock) (tree_of into b.stock)) day b) (of-pour_each ns into day one)

  of-prune_each : (ns : List ℕ) (l : ℕ) (day : CivilDay) (b : StockBooks)
      → R b (with_stock (prune_each ns l day b.stock) b)
  of-prune_each [] l day b = holds.none b
  of-prune_each (n ∷ ns) l day b =
      let one = with_stock (prune n l day b.stock) b in
      holds.more b one (with_stock (prune_each ns l day one.stock) b) (of-relocated kind.TakenOut (At l) n day b)
      (of-prune_each ns l day one)

  of-take : (n q : ℕ) (day : CivilDay) (b : StockBooks) → R b (take n q day b).0
  of-take n q day b = go (has_more n q b.stock)
    where
      go : (c : Bool) → R b (if◌then◌else◌ {A = StockBooks × ℕ} c (cut_off n q None day b, b.counter.next) (b, n)).0
      go true = of-cut_off n q None day b
      go false = holds.none b

  -- what is done to what is taken
  module _ (step : StockBooks × ℕ → StockBooks) (each : (t : StockBooks × ℕ) → R t.0 (step t)) where
    pub of-taken : (n q : ℕ) (day : CivilDay) (b : StockBooks) → R b (step (take n q day b))
    of-taken n q day b =
        let t = take n q day b in holds.more b t.0 (step t) (of-take n q day b) (each t)

    pub of-serve_each : (xs : List Allocation) (day : CivilDay) (b : StockBooks) → R b (serve_each step day xs b)
    of-serve_each [] day b = holds.none b
    of-serve_each (a ∷ xs) day b =
        let one = step (take a.item a.quantity day b) in
        holds.more b one (serve_each step day xs one) (of-taken a.item a.quantity day b) (of-serve_each xs day one)

  -- ---- commands

  of-if : (c : Bool) (s t : Stock) (b : StockBooks) → R b (with_stock s b) → R b (with_stock t b)
      → R b (with_stock (if c then s else t) b)
  of-if true s t b first second = first
  of-if false s t b first second = second

  of-shrink : (reason : Reason) (n q : ℕ) (day : CivilDay) (b : StockBooks)
      → R b (with_stock (shrink reason n q day b.stock) b)
  of-shrink reason n q day b = of-change (shrink_change reason q (tree_of n b.stock)) day b

  of-grow : (n q : ℕ) (day : CivilDay) (b : StockBooks) → R b (with_stock (grow n q day b.stock) b)
  of-grow n q day b = of-change (grow_change q (tree_of n b.stock)) day b

  of-counted : (n q : ℕ) (day : CivilDay) (b : StockBooks) → R b (with_stock (counted n q day b.stock) b)
  of-counted n q day b =
      let s = b.stock in
      let more = grow n (q - quantity_at s n) day s in
      let less = shrink Counted n (quantity_at s n - q) day s in
      let other = if has_less n q s then more else less in
      of-if (is_serialised n s && (q == 0)) (lift n (Off Counted) day s) (if q == quantity_at s n then s else other) b
      (of-lift n (Off Counted) day b)
      (of-if (q == quantity_at s n) s other b (holds.none b)
      (of-if (has_less n q s) more less b (of-grow n (q - quantity_at s n) day b)
      (of-shrink Counted n (quantity_at s n - q) day b)))

  pub of-effect : (c : StockCommand) (day : CivilDay) (b : StockBooks) → R b (effect c day b)
  of-effect (Found part location new) day b =
      of-make_new (record { kind = kind.Found; place = At location; part = part }) new day b
  of-effect (Add n quantity) day b = of-grow n quantity day b
  of-effect (Remove n quantity) day b =
      of-if (is_serialised n b.stock) (lift n (Off Removed) day b.stock) (shrink Removed n quantity day b.stock) b
      (of-lift n (Off Removed) day b) (of-shrink Removed n quantity day b)
  of-effect (Count n quantity) day b = of-counted n quantity day b
  of-effect (Transfer n location quantity) day b =
      of-taken (carried location day) (λ t. of-lift t.1 (At location) day t.0) n quantity day b
  of-effect (Split n quantity) day b = of-cut_off n quantity None day b
  of-effect (Merge into items) day b = of-pour_each items into day b
  of-effect (Serialise n quantity serials) day b = of-cut_each n serials day b
  of-effect (SetStatus n status) day b = of-mark n status day b
  of-effect (Install n parent quantity) day b = of-taken (put_in parent day) (of-put_in parent day) n quantity day b
  of-effect (Uninstall n location) day b = of-relocated kind.TakenOut (At location) n day b
  of-effect (Disassemble n location) day b =
      let out = with_stock (prune_each (children_of n b.stock) location day b.stock) b in
      holds.more b out (with_stock (lift n (Off Disassembled) day out.stock) b)
      (of-prune_each (children_of n b.stock) location day b) (of-lift n (Off Disassembled) day out)
  of-effect (Reinstate n location) day b = of-lift n (At location) day b
