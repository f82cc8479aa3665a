-- Allocations stay sound where some go, where one comes, and where the stock changes but for what they hold.
use Rattle.std.proofs.Common.{◌≡◌, ℕ, ◌+◌, ◌≤◌, Bool, true, false, not, cond, List, [], ◌∷◌, Option}
use Rattle.std.proofs.Common.{Some, None, refl, sym, ap, ◌∙◌, subst, arith, eqb-true, eq-eqb}
use Rattle.std.specs.Prelude.{◌==◌, filter, map, unwrap_or}
use Rattle.std.specs.FinMap as table
use Rattle.std.proofs.lemmas.Bool.{eqb-false, ltb-false}
use Rattle.word_core.specs.Counter.{Numbering}
use Rattle.word_core.specs.Quantity.{largest}
use Rattle.sheet_core.specs.Rows.{StandRight}
use Rattle.sheet_core.specs.Sheet.{Table}
use Rattle.sheet_core.proofs.Keys.{key_eq-other, keys_exact, keys_total}
use Rattle.sheet_core.proofs.RowLemmas.{each-empty, each-insert, get-remove_cases, right-empty}
use Rattle.sheet_core.proofs.RowLemmas.{right-later, right-new, right-none, same_digit}
use Rattle.sheet_core.proofs.Standing.{get-Stands}
use Rattle.sheet_core.proofs.Totals.{entries-empty, sum-insert_new}
use Rattle.forest.specs.Forest.{is_at}
use Rattle.yard_core.specs.StockBooks.{StockBooks}
use Rattle.yard_core.specs.Stock.{Stock, item_at, no_item}
use Rattle.alloc_core.specs.AllocMachine.{EffectsAreSound}
use Rattle.sheet_core.specs.TableRows.{without_rows}
use Rattle.alloc_core.specs.Allocations.{allocated, amount_where, free, has_allocations}
use Rattle.alloc_core.specs.Allocations.{is_above_free, is_of_item, is_owned, released_for, sum_where}
use Rattle.alloc_core.specs.Release.{release}
use Rattle.alloc_core.specs.Sound.{AreSoundAllocations, IsSoundAllocation}
use Rattle.alloc_core.specs.declared.alloc_command.AllocCommand.TheVariants.{Release}
use Rattle.alloc_core.specs.declared.allocation.Allocation.{Allocation}
use Rattle.alloc_core.specs.declared.purpose.Owner.{Owner}
use Rattle.alloc_core.proofs.Covers.{AreSound, IsCovered, covered-moved, covered-of, stands-sound}
use Rattle.alloc_core.proofs.Sums.{amount-in, amount-out, sum-no_one, sum-split, sum-stands}
use Rattle.sheet_core.proofs.TableRows.{get-kept, get-without, values-without}

module _ (t : Table Allocation) (b : StockBooks) (sound : AreSoundAllocations t b) where
  -- ---- some go

  module _ (test : Allocation → Bool) where
    sum-left : (n : ℕ) → allocated n (without_rows test t) ≤ allocated n t
    sum-left n =
        omega
        (arith, ap (sum_where (is_of_item n)) (values-without test t), sum-split (is_of_item n) test (table.values t))

    pub sound-without : AreSoundAllocations (without_rows test t) b
    sound-without = record {
      rows = λ k x e. sound.rows k x (get-without test t k x e).0;
      each = λ k x e. sound.each k x (get-without test t k x e).0;
      within = λ n. omega (arith, sum-left n, sound.within n);
    }

  -- the owner's go
  pub sound-released : (owner : Owner) → AreSoundAllocations (released_for owner t) b
  sound-released owner = sound-without (is_owned owner)

  -- ---- one comes

  -- an allocation under the next number, of no more than what is free of a loose item
  pub sound-allocated : (a : Allocation) (c : StockBooks) → c.stock ≡ b.stock → c.counter.next ≡ b.counter.next + 1
      → 1 ≤ b.counter.next → a.number ≡ b.counter.next → 1 ≤ a.quantity
      → a.quantity ≤ largest → is_at (item_at a.item b.stock).place ≡ true → a.quantity ≤ free a.item t b.stock
      → AreSoundAllocations (table.insert t (b.counter.next ∷ []) a) c
  sound-allocated a c same more one own some fits loose enough = record {
    rows =
        subst (λ m. StandRight (λ x. x.number) m (table.insert t (b.counter.next ∷ []) a)) (sym more)
        (right-new (λ (x : Allocation). x.number) b.counter.next a t own one sound.rows);
    each =
        each-insert (IsSoundAllocation c.stock) t (b.counter.next ∷ []) a
        (as_now a (record { some = some; fits = fits; loose = loose })) (λ k x e. as_now x (sound.each k x e));
    within =
        λ n. subst (λ s. allocated n (table.insert t (b.counter.next ∷ []) a) ≤ (item_at n s).quantity) (sym same)
        (go n (a.item == n) refl);
  }
    where
      as_now : (x : Allocation) → IsSoundAllocation b.stock x → IsSoundAllocation c.stock x
      as_now x h = subst (λ s. IsSoundAllocation s x) (sym same) h

      sum : (n : ℕ)
          → allocated n (table.insert t (b.counter.next ∷ []) a) ≡ amount_where (is_of_item n) a + allocated n t
      sum n =
          sum-insert_new (amount_where (is_of_item n)) t (b.counter.next ∷ []) a
          (right-none (λ (x : Allocation). x.number) b.counter.next b.counter.next t sound.rows (omega arith))

      go : (n : ℕ) (d : Bool) → (a.item == n) ≡ d
          → allocated n (table.insert t (b.counter.next ∷ []) a) ≤ (item_at n b.stock).quantity
      go n false e = omega (arith, sum n, amount-out (is_of_item n) a e, sound.within n)
      go n true e =
          let here : a.quantity ≤ free n t b.stock =
          subst (λ m. a.quantity ≤ free m t b.stock) (eqb-true a.item n e) enough in
          omega (arith, sum n, amount-in (is_of_item n) a e, sound.within n, here)

  -- ---- the stock changes

  -- each loose item of which some is allocated is loose, and has as much as is allocated of it
  pub sound-changed : (c : StockBooks) → b.counter.next ≤ c.counter.next
      → ((n : ℕ) → is_at (item_at n b.stock).place ≡ true → 1 ≤ allocated n t
      → (is_at (item_at n c.stock).place ≡ true) × (allocated n t ≤ (item_at n c.stock).quantity))
      → AreSoundAllocations t c
  sound-changed c le kept =
      let covered = covered-moved b.stock c.stock (table.values t) (covered-of t b sound).each kept in record {
        rows = right-later (λ (x : Allocation). x.number) b.counter.next c.counter.next t le sound.rows;
        each =
            λ k x e. let h = sound.each k x e in
            record { some = h.some; fits = h.fits; loose = (kept x.item h.loose (some-of k x e)).0 };
        within = covered.within;
      }
    where
      some-of : (k : List ℕ) (x : Allocation) → table.get t k ≡ Some x → 1 ≤ allocated x.item t
      some-of k x e =
          let h = sound.each k x e in
          omega (
            arith,
            h.some,
            amount-in (is_of_item x.item) x (eq-eqb x.item x.item refl),
            sum-stands (is_of_item x.item) x (table.values t) (get-Stands t k x e),
          )

-- more numbers are drawn
pub sound-later : (t : Table Allocation) (b : StockBooks) (counter : Numbering) → b.counter.next ≤ counter.next
    → AreSoundAllocations t b → AreSoundAllocations t (record { stock = b.stock; counter = counter })
sound-later t b counter le sound =
    sound-changed t b sound (record { stock = b.stock; counter = counter }) le (λ n loose some. (loose, sound.within n))

-- the items stay as they are
pub sound-items : (t : Table Allocation) (b c : StockBooks) → c.stock.items ≡ b.stock.items
    → b.counter.next ≤ c.counter.next → AreSoundAllocations t b → AreSoundAllocations t c
sound-items t b c same le sound =
    let item : (n : ℕ) → item_at n c.stock ≡ item_at n b.stock =
    λ n. ap (λ items. unwrap_or (table.get items (n ∷ [])) no_item) same in
    sound-changed t b sound c le (λ n loose some. (
      ap (λ x. is_at x.place) (item n) ∙ loose,
      (let quantity = ap (λ x. x.quantity) (item n) in omega (arith, quantity, sound.within n)),
    ))

-- there are none
pub sound-nothing : (b : StockBooks) → AreSoundAllocations table.empty b
sound-nothing b = record {
  rows = right-empty (λ (a : Allocation). a.number) b.counter.next;
  each = each-empty (IsSoundAllocation b.stock);
  within =
      λ n. (let none =
      ap (λ (es : List (List ℕ × Allocation)). sum_where (is_of_item n) (map (λ e. e.1) es)) entries-empty in
      omega (arith, none));
}

-- the owner's are gone, and the stock covers the others
pub sound-served : (owner : Owner) (t : Table Allocation) (b c : StockBooks) → AreSoundAllocations t b
    → b.counter.next ≤ c.counter.next
    → IsCovered c.stock (filter (λ a. not (is_owned owner a)) (table.values t))
    → AreSoundAllocations (released_for owner t) c
sound-served owner t b c sound le covered =
    let left = released_for owner t in
    let values = values-without (is_owned owner) t in
    let all = subst (λ xs. AreSound c.stock xs) (sym values) covered.each in record {
      rows =
          right-later (λ (x : Allocation). x.number) b.counter.next c.counter.next left le
          (sound-without t b sound (is_owned owner)).rows;
      each = λ k x e. stands-sound c.stock (table.values left) all x (get-Stands left k x e);
      within = λ n. omega (arith, ap (sum_where (is_of_item n)) values, covered.within n);
    }

-- ---- what is asked of items

-- none of the item is allocated
pub none-allocated : (n : ℕ) (t : Table Allocation) → has_allocations n t ≡ false → allocated n t ≡ 0
none-allocated n t e = sum-no_one (is_of_item n) (table.values t) e

-- an amount that isn't above what is free
pub free-enough : (n q : ℕ) (t : Table Allocation) (s : Stock) → is_above_free n q t s ≡ false → q ≤ free n t s
free-enough n q t s e = ltb-false (free n t s) q e

-- ---- an allocation is released

-- it goes, and no other
pub release-is : (next n : ℕ) (t : Table Allocation) → StandRight (λ a. a.number) next t
    → release n t ≡ without_rows (λ a. a.number == n) t
release-is next n t right = table.same_map keys_total keys_exact _ _ (λ q. by_row q (table.get (release n t) q) refl)
  where
    is_own : Allocation → Bool
    is_own a = a.number == n

    -- a row that is left has another number
    other : (q : List ℕ) (x : Allocation) → table.get (release n t) q ≡ Some x → (x.number == n) ≡ false
    other q x e = go (x.number == n) refl
      where
        go : (d : Bool) → (x.number == n) ≡ d → d ≡ false
        go false f = refl
        go true f =
            let cases = get-remove_cases t (n ∷ []) q x e in
            absurd (cases.0 ((right q x cases.1).own ∙ ap (λ m. m ∷ []) (eqb-true x.number n f)))

    by_row : (q : List ℕ) (o : Option Allocation) → table.get (release n t) q ≡ o
        → table.get (release n t) q ≡ table.get (without_rows is_own t) q
    by_row q (Some x) e = e ∙ sym (get-kept is_own t q x (get-remove_cases t (n ∷ []) q x e).1 (other q x e))
    by_row q None e = e ∙ sym (none_left (table.get (without_rows is_own t) q) refl)
      where
        none_left : (o : Option Allocation) → table.get (without_rows is_own t) q ≡ o → o ≡ None
        none_left None f = refl
        none_left (Some y) f =
            let was = get-without is_own t q y f in
            let differ =
            key_eq-other q (n ∷ [])
            (λ same. eqb-false y.number n was.1 (same_digit y.number n (sym (right q y was.0).own ∙ same))) in
            let still : table.get (release n t) q ≡ Some y =
            table.get-remove keys_total t (n ∷ []) q ∙ ap (λ d. cond d None (table.get t q)) differ ∙ was.0 in
            let clash : None ≡ Some y = sym e ∙ still in
            cc

pub sound-effect : EffectsAreSound
sound-effect (Release n) t b sound e =
    subst (λ u. AreSoundAllocations u b) (sym (release-is b.counter.next n t sound.rows))
    (sound-without t b sound (λ a. a.number == n))
