-- Item by item what is missing is shared out as by the closed form, and no item is allocated beyond its quantity.
use Rattle.std.proofs.Common.{◌≡◌, inl, inr, ℕ, ◌+◌, ◌-◌, ◌≤◌, Bool, true, false, List, []}
use Rattle.std.proofs.Common.{◌∷◌, map, min, refl, sym, ap, ◌∙◌, subst, arith, eqb-true}
use Rattle.std.specs.Prelude.{◌==◌, if◌then◌else◌}
use Rattle.std.proofs.lemmas.Bool.{eqb-false}
use Rattle.word_core.specs.Quantity.{largest}
use Rattle.sheet_core.specs.Rows.{EachRow, StandRight}
use Rattle.sheet_core.proofs.Conditions.{or_none, turned}
use Rattle.sheet_core.proofs.RowLemmas.{each-insert, right-new, right-none}
use Rattle.sheet_core.proofs.Standing.{Stands}
use Rattle.forest.specs.Forest.{is_at}
use Rattle.yard_core.specs.StockBooks.{StockBooks}
use Rattle.yard_core.specs.Stock.{Stock, item_at}
use Rattle.alloc_core.specs.Allocations.{allocated, allocated_where, free}
use Rattle.alloc_core.specs.Automatic.{counted_down, shares}
use Rattle.alloc_core.specs.Allotting.{Allotments, allocate, allocate_each}
use Rattle.alloc_core.specs.Allotting.{allocate_some, new_allocation, allot_in_turn}
use Rattle.alloc_core.specs.Sound.{AreSoundAllocations, IsSoundAllocation}
use Rattle.alloc_core.specs.declared.allocation.Allocation.{Allocation}
use Rattle.alloc_core.specs.declared.purpose.Purpose.{Purpose}
use Rattle.alloc_core.proofs.Amounts.{IsNew, allocated-some, where-some}
use Rattle.alloc_core.proofs.Once.{HasNo, StandOnce}
use Rattle.alloc_core.proofs.Shares.{shares-counted}

-- the rows stand under numbers that were drawn
pub record AreDrawn (b : Allotments) : Type 0 where
  pub some : 1 ≤ b.counter.next
  pub rows : StandRight (λ a. a.number) b.counter.next b.allocations

pub new-drawn : (b : Allotments) → AreDrawn b → IsNew b
new-drawn b drawn =
    right-none (λ (a : Allocation). a.number) b.counter.next b.counter.next b.allocations drawn.rows (omega arith)

pub drawn-some : (purpose : Purpose) (n quantity : ℕ) (b : Allotments) → AreDrawn b
    → AreDrawn (allocate_some purpose n quantity b)
drawn-some purpose n quantity b drawn = go (quantity == 0)
  where
    go : (c : Bool) → AreDrawn (if c then b else allocate purpose n quantity b)
    go true = drawn
    go false = record {
      some = omega (arith, drawn.some);
      rows =
          right-new (λ (a : Allocation). a.number) b.counter.next (new_allocation b.counter.next purpose n quantity)
          b.allocations refl drawn.some drawn.rows;
    }

module _ (purpose : Purpose) (s : Stock) where
  -- what is free of other items is as it was
  free-same : (n quantity : ℕ) (b : Allotments) → AreDrawn b → (ks : List ℕ) → HasNo n ks
      → map (λ k. free k (allocate_some purpose n quantity b).allocations s) ks ≡ map (λ k. free k b.allocations s) ks
  free-same n quantity b drawn [] none = refl
  free-same n quantity b drawn (k ∷ ks) none =
      let both = or_none _ _ none in
      let more = allocated-some purpose n quantity b (new-drawn b drawn) k in
      ap (λ x. ((item_at k s).quantity - x) ∷ map (λ k. free k (allocate_some purpose n quantity b).allocations s) ks)
      (more ∙ ap (λ c. (if c then quantity else 0) + allocated k b.allocations) (turned k n both.0))
      ∙ ap (λ l. ((item_at k s).quantity - (0 + allocated k b.allocations)) ∷ l)
      (free-same n quantity b drawn ks both.1)
      ∙ ap (λ x. ((item_at k s).quantity - x) ∷ map (λ k. free k b.allocations s) ks)
      (let e : 0 + allocated k b.allocations ≡ allocated k b.allocations = omega arith in e)

  -- with no item twice, each gives by the closed form
  pub allotted-each : (ns : List ℕ) (missing : ℕ) (b : Allotments) → AreDrawn b → StandOnce ns
      → allot_in_turn purpose ns missing s b
      ≡ allocate_each purpose ns (shares missing (map (λ n. free n b.allocations s) ns)) b
  allotted-each ns missing b drawn once =
      counted ns missing b drawn once
      ∙ ap (λ l. allocate_each purpose ns l b) (sym (shares-counted missing (map (λ n. free n b.allocations s) ns)))
    where
      counted : (ns : List ℕ) (missing : ℕ) (b : Allotments) → AreDrawn b → StandOnce ns
          → allot_in_turn purpose ns missing s b
          ≡ allocate_each purpose ns (counted_down missing (map (λ n. free n b.allocations s) ns)) b
      counted [] missing b drawn once = refl
      counted (n ∷ ns) missing b drawn once =
          let both = or_none _ _ once in
          let amount = min (free n b.allocations s) missing in
          let next = allocate_some purpose n amount b in
          counted ns (missing - amount) next (drawn-some purpose n amount b drawn) both.1
          ∙ ap (λ l. allocate_each purpose ns (counted_down (missing - amount) l) next)
          (free-same n amount b drawn ns both.0)

  -- ---- what stays sound

  abbrev pub beside : Allotments → StockBooks
  beside b = record { stock = s; counter = b.counter }

  -- loose items within the largest quantity
  abbrev pub AreAllotable : List ℕ → Type 0
  AreAllotable ns = (n : ℕ) → Stands n ns → (is_at (item_at n s).place ≡ true) × ((item_at n s).quantity ≤ largest)

  -- a row of at most what is free
  sound-some : (n quantity : ℕ) (b : Allotments) → 1 ≤ b.counter.next → AreSoundAllocations b.allocations (beside b)
      → is_at (item_at n s).place ≡ true → (item_at n s).quantity ≤ largest
      → quantity ≤ free n b.allocations s → AreSoundAllocations (allocate_some purpose n quantity b).allocations
      (beside (allocate_some purpose n quantity b))
  sound-some n quantity b some sound loose fits le =
      let drawn : AreDrawn b = record { some = some; rows = sound.rows } in
      record {
        rows = (drawn-some purpose n quantity b drawn).rows;
        each = each (quantity == 0) refl;
        within = within;
      }
    where
      each : (c : Bool) → (quantity == 0) ≡ c
          → EachRow (IsSoundAllocation s) (if c then b else allocate purpose n quantity b).allocations
      each true e = sound.each
      each false e =
          let row = new_allocation b.counter.next purpose n quantity in
          each-insert (IsSoundAllocation s) b.allocations (b.counter.next ∷ []) row
          (record {
            some = (let other = eqb-false quantity 0 e in omega (arith, other));
            fits = omega (arith, le, fits);
            loose = loose;
          }) sound.each

      within : (k : ℕ) → allocated k (allocate_some purpose n quantity b).allocations ≤ (item_at k s).quantity
      within k = by_item (n == k) refl
        where
          more : allocated k (allocate_some purpose n quantity b).allocations
              ≡ (if n == k then quantity else 0) + allocated k b.allocations
          more = allocated-some purpose n quantity b (new-drawn b (record { some = some; rows = sound.rows })) k

          by_item : (c : Bool) → (n == k) ≡ c
              → allocated k (allocate_some purpose n quantity b).allocations ≤ (item_at k s).quantity
          by_item true e =
              let same : n ≡ k = eqb-true n k e in
              let is = more ∙ ap (λ c. (if c then quantity else 0) + allocated k b.allocations) e in
              let left : quantity ≤ (item_at k s).quantity - allocated k b.allocations =
              subst (λ (j : ℕ). quantity ≤ free j b.allocations s) same le in
              omega (arith, is, left, sound.within k)
          by_item false e =
              let is = more ∙ ap (λ c. (if c then quantity else 0) + allocated k b.allocations) e in
              omega (arith, is, sound.within k)

  next-some : (n quantity : ℕ) (b : Allotments) → 1 ≤ b.counter.next
      → 1 ≤ (allocate_some purpose n quantity b).counter.next
  next-some n quantity b some = go (quantity == 0)
    where
      go : (c : Bool) → 1 ≤ (if c then b else allocate purpose n quantity b).counter.next
      go true = some
      go false = omega (arith, some)

  pub next-turn : (ns : List ℕ) (missing : ℕ) (b : Allotments) → 1 ≤ b.counter.next
      → 1 ≤ (allot_in_turn purpose ns missing s b).counter.next
  next-turn [] missing b some = some
  next-turn (n ∷ ns) missing b some =
      let amount = min (free n b.allocations s) missing in
      next-turn ns (missing - amount) (allocate_some purpose n amount b) (next-some n amount b some)

  -- no item is allocated beyond its quantity
  pub sound-allotted : (ns : List ℕ) (missing : ℕ) (b : Allotments) → 1 ≤ b.counter.next
      → AreSoundAllocations b.allocations (beside b) → AreAllotable ns
      → AreSoundAllocations (allot_in_turn purpose ns missing s b).allocations
      (beside (allot_in_turn purpose ns missing s b))
  sound-allotted [] missing b some sound good = sound
  sound-allotted (n ∷ ns) missing b some sound good =
      let amount = min (free n b.allocations s) missing in
      let here = good n (inl refl) in
      sound-allotted ns (missing - amount) (allocate_some purpose n amount b) (next-some n amount b some)
      (sound-some n amount b some sound here.0 here.1 (omega arith)) (λ k t. good k (inr t))

  -- no more is allocated for anything than was missing
  pub allotted-within : (ns : List ℕ) (missing : ℕ) (b : Allotments) → AreDrawn b → (test : Purpose → Bool)
      → allocated_where test (allot_in_turn purpose ns missing s b).allocations
      ≤ allocated_where test b.allocations + missing
  allotted-within [] missing b drawn test = omega arith
  allotted-within (n ∷ ns) missing b drawn test =
      let amount = min (free n b.allocations s) missing in
      let next = allocate_some purpose n amount b in
      let rest = allotted-within ns (missing - amount) next (drawn-some purpose n amount b drawn) test in
      let more = where-some purpose n amount b (new-drawn b drawn) test in
      go (test purpose) more rest
    where
      go : (c : Bool)
          → allocated_where test (allocate_some purpose n (min (free n b.allocations s) missing) b).allocations
          ≡ (if c then min (free n b.allocations s) missing else 0) + allocated_where test b.allocations
          → allocated_where test
          (allot_in_turn purpose ns (missing - min (free n b.allocations s) missing) s
          (allocate_some purpose n (min (free n b.allocations s) missing) b)).allocations
          ≤ allocated_where test (allocate_some purpose n (min (free n b.allocations s) missing) b).allocations
          + (missing - min (free n b.allocations s) missing)
          → allocated_where test
          (allot_in_turn purpose ns (missing - min (free n b.allocations s) missing) s
          (allocate_some purpose n (min (free n b.allocations s) missing) b)).allocations
          ≤ allocated_where test b.allocations + missing
      go true more rest = omega (arith, more, rest)
      go false more rest = omega (arith, more, rest)

  -- what is allocated for other things is as before
  pub allotted-other : (ns : List ℕ) (missing : ℕ) (b : Allotments) → AreDrawn b → (test : Purpose → Bool)
      → test purpose ≡ false
      → allocated_where test (allot_in_turn purpose ns missing s b).allocations ≡ allocated_where test b.allocations
  allotted-other [] missing b drawn test other = refl
  allotted-other (n ∷ ns) missing b drawn test other =
      let amount = min (free n b.allocations s) missing in
      let next = allocate_some purpose n amount b in
      allotted-other ns (missing - amount) next (drawn-some purpose n amount b drawn) test other
      ∙ where-some purpose n amount b (new-drawn b drawn) test
      ∙ ap (λ c. (if c then amount else 0) + allocated_where test b.allocations) other
      ∙ (let e : 0 + allocated_where test b.allocations ≡ allocated_where test b.allocations = omega arith in e)
