-- Allocations that are served while the limits leave room for it: what one of them uses, what is left midway, and that
-- where there is no room for one there is none for all.
use Rattle.std.proofs.Common.{◌≡◌, ℕ, ◌+◌, ◌<◌, ◌≤◌, Bool, true, false, ◌||◌, inl, inr, List, ◌∷◌}
use Rattle.std.proofs.Common.{◌++◌, map, drop, length, get_or, None, refl, sym, ap, ◌∙◌, subst, arith}
use Rattle.std.specs.Prelude.{nat_lt}
use Rattle.std.specs.Borrow.{Bor}
use Rattle.std.proofs.lemmas.Bool.{lt-ltb, ltb-false, ltb-true}
use Rattle.std.proofs.lemmas.List.{drop_more}
use mathlib.Core.Bool.{or-true}
use Rattle.part_core.specs.Catalogue.{Parts}
use Rattle.word_core.specs.Counter.{lacks, passes_limit}
use Rattle.word_core.specs.Day.{CivilDay}
use Rattle.word_core.specs.declared.limits.Limits.{Limits}
use Rattle.sheet_core.proofs.Conditions.{or_cases, or_none}
use Rattle.alloc_core.specs.Covered.{IsCovered}
use Rattle.alloc_core.specs.declared.allocation.Allocation.{Allocation}
use Rattle.yard_core.specs.StockBooks.{StockBooks, entries_in, is_full}
use Rattle.forest.specs.declared.place.Place.{Place}
use Rattle.forest.specs.Moves.{lift_change}
use Rattle.yard_core.specs.Stock.{IsHistory, item_at, lift_notes, tree_of}
use Rattle.stock_core.specs.ItemTests.{has_more}
use Rattle.stock_core.specs.Pieces.{CanCut}
use Rattle.stock_core.specs.Serving.{away, serve, serve_each}
use Rattle.stock_core.specs.Sound.{Owners}
use Rattle.stock_core.specs.StockMachine.{Grows}
use Rattle.stock_core.specs.Steps.{cut_off, take}
use Rattle.stock_core.proofs.Serving.{GoesOn, IsServed, served-all, served-one}
use Rattle.stock_core.proofs.Steps.{can-cut, serial-one}
use Rattle.stock_core.proofs.Taking.{there-loose}
use Rattle.stock_core.proofs.Upright.{Upright}
use Rattle.stock_core.proofs.Uses.{Uses, full-used, take-part, uses-both, uses-change, uses-cut_off}

not_less : (a b : ℕ) → b ≤ a → nat_lt a b ≡ false
not_less a b le = go (nat_lt a b) refl
  where
    go : (d : Bool) → nat_lt a b ≡ d → d ≡ false
    go false e = refl
    go true e = absurd (omega (arith, ltb-true a b e, le))

-- ---- what one of them uses

-- what was taken goes on, with so many entries
module _ (go : StockBooks × ℕ → StockBooks) (entries : StockBooks × ℕ → ℕ)
    (uses : (t : StockBooks × ℕ) → IsHistory t.0.stock.history → Uses 0 (entries t) t.0 (go t)) where
  pub full-go : (t : StockBooks × ℕ) → IsHistory t.0.stock.history
      → (lacks 0 t.0.counter || nat_lt t.0.counter.limits.entries (entries_in t.0 + entries t)) ≡ true
      → is_full (go t) ≡ true
  full-go t h full = sym (full-used 0 (entries t) t.0 (go t) (uses t h)) ∙ full

  pub within-go : (t : StockBooks × ℕ) → IsHistory t.0.stock.history
      → (lacks 0 t.0.counter || nat_lt t.0.counter.limits.entries (entries_in t.0 + entries t)) ≡ false
      → entries_in (go t) ≤ t.0.counter.limits.entries
  within-go t h room =
      let few =
      ltb-false t.0.counter.limits.entries (entries_in t.0 + entries t)
      (or_none (lacks 0 t.0.counter) (nat_lt t.0.counter.limits.entries (entries_in t.0 + entries t)) room).1 in
      omega (arith, few, (uses t h).len)

  -- there is no room for the cut
  pub full-cut : (n q : ℕ) (day : CivilDay) (b : StockBooks) → IsHistory b.stock.history → has_more n q b.stock ≡ true
      → (lacks 1 b.counter || nat_lt b.counter.limits.entries (entries_in b + 1)) ≡ true
      → is_full (go (take n q day b)) ≡ true
  full-cut n q day b h more full =
      let cut = cut_off n q None day b in
      let t : StockBooks × ℕ = (cut, b.counter.next) in
      let first = uses-cut_off n q None day b h in
      let all = uses-both 1 1 0 (entries t) b cut (go t) first (uses t first.history) in
      ap (λ u. is_full (go u)) (take-part n q day b more)
      ∙ sym (full-used (1 + 0) (1 + entries t) b (go t) all)
      ∙ elim (or_cases (lacks 1 b.counter) (nat_lt b.counter.limits.entries (entries_in b + 1)) full) [
        | inl l ↦ ap (λ c. c || nat_lt b.counter.limits.entries (entries_in b + (1 + entries t))) l
        | inr r ↦
            let lt = ltb-true b.counter.limits.entries (entries_in b + 1) r in
            ap (λ c. lacks 1 b.counter || c)
            (lt-ltb b.counter.limits.entries (entries_in b + (1 + entries t)) (omega (arith, lt)))
            ∙ or-true (lacks 1 b.counter)
      ]

-- ---- what is left midway

-- some are still to be served, which comes to what all came to at first
pub record IsLeft (go : StockBooks × ℕ → StockBooks) (day : CivilDay) (Ready : List Allocation → StockBooks → Type 0)
    (rows rest : List Allocation) (old new : StockBooks) : Type 0 where
  pub owners : Owners
  pub parts : Parts
  pub others : List Allocation
  pub one : (a : Allocation) (xs : List Allocation) (c : StockBooks) → Upright owners parts c
      → IsCovered c.stock (a ∷ (xs ++ others)) → Ready (a ∷ xs) c
      → GoesOn owners parts (take a.item a.quantity day c) (serve go day a c) × Ready xs (serve go day a c)
  pub upright : Upright owners parts new
  pub covered : IsCovered new.stock (rest ++ others)
  pub ready : Ready rest new
  pub served : serve_each go day rest new ≡ serve_each go day rows old
  pub within : entries_in new ≤ new.counter.limits.entries

-- what is full stays so
pub full-grows : (b c : StockBooks) → Grows b c → is_full b ≡ true → is_full c ≡ true
full-grows b c g full = elim (or_cases (passes_limit b.counter) (nat_lt b.counter.limits.entries (entries_in b)) full) [
  | inl l ↦
      let lt = ltb-true (b.counter.limits.numbers + 1) b.counter.next l in
      let more : passes_limit c.counter ≡ true =
      lt-ltb (c.counter.limits.numbers + 1) c.counter.next
      (omega (arith, lt, g.numbers, ap (λ (k : Limits). k.numbers) g.limits)) in
      ap (λ d. d || nat_lt c.counter.limits.entries (entries_in c)) more
  | inr r ↦
      let lt = ltb-true b.counter.limits.entries (entries_in b) r in
      let more : nat_lt c.counter.limits.entries (entries_in c) ≡ true =
      lt-ltb c.counter.limits.entries (entries_in c)
      (omega (arith, lt, g.entries, ap (λ (k : Limits). k.entries) g.limits)) in
      ap (λ d. passes_limit c.counter || d) more ∙ or-true (passes_limit c.counter)
]

module _ (go : StockBooks × ℕ → StockBooks) (day : CivilDay) (Ready : List Allocation → StockBooks → Type 0)
    (rows : List Allocation) (a : Allocation) (xs : List Allocation) (old b : StockBooks)
    (left : IsLeft go day Ready rows (a ∷ xs) old b) where
  step : GoesOn left.owners left.parts (take a.item a.quantity day b) (serve go day a b) × Ready xs (serve go day a b)
  step = left.one a xs b left.upright left.covered left.ready

  first-done : IsServed left.owners left.parts b (serve go day a b) (xs ++ left.others)
  first-done = served-one left.owners left.parts day go a (xs ++ left.others) b left.upright left.covered step.0

  -- the first of them was served
  pub left-one : (new : StockBooks) → new ≡ serve go day a b → entries_in new ≤ new.counter.limits.entries
      → IsLeft go day Ready rows xs old new
  left-one new is within = record {
    owners = left.owners;
    parts = left.parts;
    others = left.others;
    one = left.one;
    upright = subst (Upright left.owners left.parts) (sym is) first-done.leads.upright;
    covered = subst (λ (c : StockBooks). IsCovered c.stock (xs ++ left.others)) (sym is) first-done.covered;
    ready = subst (Ready xs) (sym is) step.1;
    served = ap (serve_each go day xs) is ∙ left.served;
    within = within;
  }

  -- there is no room for the first, so there is none for all
  pub left-full : is_full (serve go day a b) ≡ true → is_full (serve_each go day rows old) ≡ true
  left-full full =
      let after = serve go day a b in
      let more =
      served-all left.owners left.parts day go left.others Ready left.one xs after first-done.leads.upright
      first-done.covered step.1 in
      subst (λ c. is_full c ≡ true) left.served (full-grows after (serve_each go day xs after) more.0.leads.grows full)

  -- less than the whole of its item can be cut off
  pub left-cut : has_more a.item a.quantity b.stock ≡ true → lacks 1 b.counter ≡ false
      → b.counter.limits.entries ≤ 10000000000 → CanCut a.item a.quantity None b
  left-cut more room small =
      let loose = left.covered.each.0.loose in
      let there = there-loose a.item b.stock loose in
      let some = left.covered.each.0.some in
      let less = ltb-true a.quantity (item_at a.item b.stock).quantity more in
      let plain =
      serial-one a.item b.stock left.upright.stock there loose (λ single. omega (arith, single, less, some)) in
      record {
        stock = left.upright.stock;
        item =
            can-cut left.owners left.parts b left.upright a.item there
            (record { there = there; loose = loose; plain = plain }) a.quantity None some (omega (arith, less)) tt;
        number = room;
        entry = omega (arith, left.within, small);
      }

-- ---- over rows that are borrowed

abbrev pub seen : List (Bor Allocation) → List Allocation
seen rows = map (λ (r : Bor Allocation). r.now) rows

-- what is seen of the rows from a place on
pub seen-more : (rows : List (Bor Allocation)) (i : ℕ) (d : Bor Allocation) → i < length rows → d ≡ get_or rows i d
    → seen (drop i rows) ≡ d.now ∷ seen (drop (i + 1) rows)
seen-more rows i d lt is =
    ap seen (drop_more rows i d lt) ∙ ap (λ (q : Bor Allocation). q.now ∷ seen (drop (i + 1) rows)) (sym is)

-- the row at that place is the first of what is left
pub left-from : (go : StockBooks × ℕ → StockBooks) (day : CivilDay) (Ready : List Allocation → StockBooks → Type 0)
    (rows : List (Bor Allocation)) (i : ℕ) (d : Bor Allocation) (old b : StockBooks)
    → i < length rows → d ≡ get_or rows i d → IsLeft go day Ready (seen rows) (seen (drop i rows)) old b
    → IsLeft go day Ready (seen rows) (d.now ∷ seen (drop (i + 1) rows)) old b
left-from go day Ready rows i d old b lt is left =
    subst (λ xs. IsLeft go day Ready (seen rows) xs old b) (seen-more rows i d lt is) left

-- no number and no entry is past the limits
pub within-limits : (b : StockBooks) → b.counter.next ≤ b.counter.limits.numbers + 1
    → entries_in b ≤ b.counter.limits.entries → is_full b ≡ false
within-limits b numbers entries =
    ap (λ c. c || nat_lt b.counter.limits.entries (entries_in b))
    (not_less (b.counter.limits.numbers + 1) b.counter.next numbers)
    ∙ not_less b.counter.limits.entries (entries_in b) entries

-- ---- what goes away

-- how many entries the lift of what was taken writes
abbrev pub away_entries : Place → StockBooks × ℕ → ℕ
away_entries place t = length (lift_notes t.1 place t.0.stock)

pub uses-away : (place : Place) (day : CivilDay) (t : StockBooks × ℕ) → IsHistory t.0.stock.history
    → Uses 0 (away_entries place t) t.0 (away place day t)
uses-away place day t h = uses-change (lift_change place (tree_of t.1 t.0.stock)) day t.0 h
