use Rattle.std.proofs.Common.{◌≡◌, ℕ, ◌<◌, false, List, map, take, get_or}
use Rattle.std.specs.Prelude.{◌&&◌, Some, nat_eq}
use Rattle.std.specs.List.{list_any}
use Rattle.std.specs.Str.{bytes_eq}
use Rattle.std.specs.HashSet as hash
use Rattle.std.specs.Borrow.{Bor}
use Rattle.part_core.specs.CatalogueView.{parts_of}
use Rattle.forest.specs.declared.item.Item.{Item}
use Rattle.yard_core.specs.Stock.{holds_serial}
use Rattle.stock_core.specs.Opening.{held_key}
use Rattle.stock_core.proofs.opening.serials.serials_stand_once.Given as goal

abbrev pub invariant-loop-i : goal.invariant-loop-i
invariant-loop-i l = record {
  taken :
      (f : ℕ) (s : Bor (List ℕ)) → hash.contains (λ x y. nat_eq x.0 y.0 && bytes_eq x.1.now y.1.now) l.taken (f, s)
      ≡ list_any (holds_serial s.now f (parts_of l.catalogue)) (map (λ x. x.now) (take l.i l.rows));
  fresh :
      (k : ℕ) (r : Bor Item) (f : ℕ) (s : List ℕ) → k < l.i
      → held_key (parts_of l.catalogue) (get_or l.rows k r).now ≡ Some (f, s)
      → list_any (holds_serial s f (parts_of l.catalogue)) (map (λ x. x.now) (take k l.rows)) ≡ false;
}
