-- A list of allocations that the stock covers: their items are loose, and have what they add up to.
use Rattle.std.proofs.Common.{◌≡◌, inl, inr, ℕ, ◌≤◌, Bool, true, false, not, cond, List, []}
use Rattle.std.proofs.Common.{◌∷◌, ◌++◌, refl, sym, ap, ◌∙◌, subst, arith, eqb-true, eq-eqb}
use Rattle.std.specs.Prelude.{◌==◌, filter, nat_lt}
use Rattle.std.proofs.lemmas.Bool.{ltb-false, ltb-true}
use Rattle.forest.specs.Forest.{is_at}
use Rattle.std.specs.FinMap as table
use Rattle.sheet_core.specs.Sheet.{Table}
use Rattle.sheet_core.proofs.Standing.{Stands, each-value}
use Rattle.yard_core.specs.StockBooks.{StockBooks}
use Rattle.yard_core.specs.Stock.{Stock, item_at}
use Rattle.alloc_core.specs.Allocations.{amount_where, is_of_item, sum_where}
use Rattle.alloc_core.specs.Sound.{AreSoundAllocations, IsSoundAllocation}
use Rattle.alloc_core.specs.declared.allocation.Allocation.{Allocation}
pub use Rattle.alloc_core.specs.Covered.{AreSound, IsCovered}
use Rattle.alloc_core.proofs.Sums.{amount-in, amount-out, sum-append, sum-cons, sum-split}

pub all-sound : (s : Stock) (xs : List Allocation) → ((a : Allocation) → Stands a xs → IsSoundAllocation s a)
    → AreSound s xs
all-sound s [] all = tt
all-sound s (a ∷ xs) all = (all a (inl refl), all-sound s xs (λ b h. all b (inr h)))

pub stands-sound : (s : Stock) (xs : List Allocation) → AreSound s xs → (a : Allocation) → Stands a xs
    → IsSoundAllocation s a
stands-sound s [] all a h = absurd h
stands-sound s (x ∷ xs) all a h =
    elim h [ inl same ↦ subst (IsSoundAllocation s) same all.0 | inr later ↦ stands-sound s xs all.1 a later ]

-- those of the table are covered
pub covered-of : (t : Table Allocation) (b : StockBooks) → AreSoundAllocations t b → IsCovered b.stock (table.values t)
covered-of t b sound = record {
  each = all-sound b.stock (table.values t) (λ a h. each-value (IsSoundAllocation b.stock) t sound.each a h);
  within = sound.within;
}

-- ---- parts of a list

sound-append : (s : Stock) (xs bs : List Allocation) → AreSound s xs → AreSound s bs → AreSound s (xs ++ bs)
sound-append s [] bs h k = k
sound-append s (a ∷ xs) bs h k = (h.0, sound-append s xs bs h.1 k)

sound-filter : (s : Stock) (p : Allocation → Bool) (xs : List Allocation) → AreSound s xs → AreSound s (filter p xs)
sound-filter s p [] h = tt
sound-filter s p (a ∷ xs) h = elim (p a) as (λ b. AreSound s (cond b (a ∷ filter p xs) (filter p xs))) [
  | true ↦ (h.0, sound-filter s p xs h.1)
  | false ↦ sound-filter s p xs h.1
]

-- those that pass, and then the others
pub covered-split : (s : Stock) (p : Allocation → Bool) (xs : List Allocation) → IsCovered s xs
    → IsCovered s (filter p xs ++ filter (λ a. not (p a)) xs)
covered-split s p xs h = record {
  each =
      sound-append s (filter p xs) (filter (λ a. not (p a)) xs) (sound-filter s p xs h.each)
      (sound-filter s (λ a. not (p a)) xs h.each);
  within = λ n. omega (
    arith,
    sum-append (is_of_item n) (filter p xs) (filter (λ a. not (p a)) xs),
    sum-split (is_of_item n) p xs,
    h.within n,
  );
}

-- the others alone
pub covered-others : (s : Stock) (p : Allocation → Bool) (xs : List Allocation) → IsCovered s xs
    → IsCovered s (filter (λ a. not (p a)) xs)
covered-others s p xs h = record {
  each = sound-filter s (λ a. not (p a)) xs h.each;
  within = λ n. omega (arith, sum-split (is_of_item n) p xs, h.within n);
}

-- ---- the stock changes

-- an item that isn't loose has none of them
pub sum-away : (s : Stock) (n : ℕ) (xs : List Allocation) → AreSound s xs → is_at (item_at n s).place ≡ false
    → sum_where (is_of_item n) xs ≡ 0
sum-away s n [] h away = refl
sum-away s n (a ∷ xs) h away =
    omega (arith, sum-cons (is_of_item n) a xs, sum-away s n xs h.1 away, go (a.item == n) refl)
  where
    go : (c : Bool) → (a.item == n) ≡ c → amount_where (is_of_item n) a ≡ 0
    go false e = amount-out (is_of_item n) a e
    go true e =
        let clash : true ≡ false = sym h.0.loose ∙ ap (λ m. is_at (item_at m s).place) (eqb-true a.item n e) ∙ away in
        cc

-- each loose item that some of them are of is loose
sound-moved : (s u : Stock) (xs : List Allocation) → AreSound s xs
    → ((n : ℕ) → is_at (item_at n s).place ≡ true → 1 ≤ sum_where (is_of_item n) xs → is_at (item_at n u).place ≡ true)
    → AreSound u xs
sound-moved s u [] h kept = tt
sound-moved s u (a ∷ xs) h kept = (
  record { some = h.0.some; fits = h.0.fits; loose = kept a.item h.0.loose here },
  sound-moved s u xs h.1 (λ n loose some. kept n loose (omega (arith, some, sum-cons (is_of_item n) a xs))),
)
  where
    here : 1 ≤ sum_where (is_of_item a.item) (a ∷ xs)
    here = omega (
      arith,
      h.0.some,
      sum-cons (is_of_item a.item) a xs,
      amount-in (is_of_item a.item) a (eq-eqb a.item a.item refl),
    )

-- what each loose item has is enough for those of it, and it is loose
pub covered-moved : (s u : Stock) (xs : List Allocation) → AreSound s xs
    → ((n : ℕ) → is_at (item_at n s).place ≡ true → 1 ≤ sum_where (is_of_item n) xs
    → (is_at (item_at n u).place ≡ true) × (sum_where (is_of_item n) xs ≤ (item_at n u).quantity))
    → IsCovered u xs
covered-moved s u xs h kept = record {
  each = sound-moved s u xs h (λ n loose some. (kept n loose some).0);
  within = λ n. go n (is_at (item_at n s).place) refl;
}
  where
    go : (n : ℕ) (d : Bool) → is_at (item_at n s).place ≡ d → sum_where (is_of_item n) xs ≤ (item_at n u).quantity
    go n false e = omega (arith, sum-away s n xs h e)
    go n true e = by_some (nat_lt 0 (sum_where (is_of_item n) xs)) refl
      where
        by_some : (f : Bool) → nat_lt 0 (sum_where (is_of_item n) xs) ≡ f
            → sum_where (is_of_item n) xs ≤ (item_at n u).quantity
        by_some false f = omega (arith, ltb-false 0 (sum_where (is_of_item n) xs) f)
        by_some true f = (kept n e (ltb-true 0 (sum_where (is_of_item n) xs) f)).1
