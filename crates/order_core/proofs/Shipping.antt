-- What a shipment is done with: the allocations of a sale are covered, and can be done of its lines.
use Rattle.std.proofs.Common.{◌≡◌, ℕ, ◌+◌, ◌≤◌, inl, inr, Bool, true, false, cond, not}
use Rattle.std.proofs.Common.{List, [], ◌∷◌, ◌++◌, refl, ap, ◌∙◌, arith}
use Rattle.std.specs.Prelude.{filter}
use Rattle.std.specs.FinMap as table
use Rattle.part_core.specs.Catalogue.{Parts}
use Rattle.sheet_core.specs.Rows.{IsThere}
use Rattle.sheet_core.proofs.Mapped.{row-mapped}
use Rattle.sheet_core.proofs.Standing.{Stands, each-value}
use Rattle.alloc_core.specs.Allocations.{is_for_order, is_of_item, is_owned}
use Rattle.alloc_core.specs.declared.allocation.Allocation.{Allocation}
use Rattle.alloc_core.specs.declared.purpose.Owner.{Owner}
use Rattle.alloc_core.specs.declared.purpose.Owner.TheVariants as owner
use Rattle.alloc_core.specs.declared.purpose.Purpose.{Purpose}
use Rattle.alloc_core.specs.declared.purpose.Purpose.TheVariants.{Sale, Build}
use Rattle.alloc_core.proofs.Covers.{AreSound, IsCovered, covered-of, covered-split}
use Rattle.alloc_core.proofs.Sums.{sum-append, sum-split}
use Rattle.yard_core.specs.Stock.{Stock}
use Rattle.order_core.specs.Orders.{OrderBooks}
use Rattle.order_core.specs.Ship.{CanDeliver, HaveLines, delivered, sale_rows}
use Rattle.order_core.specs.Sound.{AreSoundBooks, IsSoundPurpose}
use Rattle.order_core.specs.declared.line.OrderLine.{OrderLine}
use Rattle.order_core.proofs.NoneFor.{test_of}

sound-front : (s : Stock) (xs bs : List Allocation) → AreSound s (xs ++ bs) → AreSound s xs
sound-front s [] bs h = tt
sound-front s (a ∷ xs) bs h = (h.0, sound-front s xs bs h.1)

covered-front : (s : Stock) (xs bs : List Allocation) → IsCovered s (xs ++ bs) → IsCovered s xs
covered-front s xs bs h = record {
  each = sound-front s xs bs h.each;
  within = λ n. omega (arith, sum-append (is_of_item n) xs bs, h.within n);
}

module _ (is_build : ℕ → Bool) (parts : Parts) (n : ℕ) (b : OrderBooks) (sound : AreSoundBooks is_build parts b) where
  abbrev own : Owner
  own = owner.Order n

  abbrev all : List Allocation
  all = table.values b.allocations

  pub covered-sale : IsCovered b.books.stock (sale_rows n b)
  covered-sale =
      covered-front b.books.stock (sale_rows n b) (filter (λ a. not (is_owned own a)) all)
      (covered-split b.books.stock (is_owned own) all (covered-of b.allocations b.books sound.allocations))

  for-line : (item : ℕ) (p : Purpose) → is_for_order n p ≡ true → IsSoundPurpose b item p
      → (order : ℕ) × (line : ℕ) × (p ≡ Sale order line) × IsThere b.lines line
  for-line item (Sale order line) e h = (order, line, refl, h.there)
  for-line item (Build build line output) e h = cc

  have-all : (xs : List Allocation) → ((a : Allocation) → Stands a xs → IsSoundPurpose b a.item a.purpose)
      → HaveLines b.lines (filter (is_owned own) xs)
  have-all [] each = tt
  have-all (a ∷ xs) each =
      let rest = have-all xs (λ c h. each c (inr h)) in
      elim (is_owned own a) as (λ c.
      is_owned own a ≡ c → HaveLines b.lines (cond c (a ∷ filter (is_owned own) xs) (filter (is_owned own) xs))) [
        | true ↦ λ e. (for-line a.item a.purpose e (each a (inl refl)), rest)
        | false ↦ λ e. rest
      ] refl

  pub can-deliver : CanDeliver (sale_rows n b) b.lines
  can-deliver = record {
    next = b.books.counter.next;
    right = sound.orders.lines;
    have =
        have-all all (λ a h.
        each-value (λ (x : Allocation). IsSoundPurpose b x.item x.purpose) b.allocations sound.orders.each_sale a h);
    fits = λ k x at.
        let was = row-mapped (delivered (sale_rows n b)) b.lines k x at in
        let l = was.0 in
        let h = sound.orders.each_line k l was.1 in
        let is : x.done ≡ (delivered (sale_rows n b) l).done = ap (λ (m : OrderLine). m.done) was.2 in
        omega (arith, is, h.needed, h.fits, sum-split (test_of l.number) (is_owned own) all);
  }
