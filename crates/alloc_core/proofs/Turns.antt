-- What an allotment by turns leaves: numbers are drawn and none comes back, and rows stand under numbers that were
-- drawn.
use Rattle.std.proofs.Common.{◌≡◌, ℕ, ◌+◌, ◌-◌, ◌<◌, ◌≤◌, Bool, true, false, List, [], ◌∷◌}
use Rattle.std.proofs.Common.{drop, get_or, length, min, refl, sym, ap, ◌∙◌, subst, arith}
use Rattle.std.specs.Prelude.{◌==◌, if◌then◌else◌, map}
use Rattle.std.proofs.lemmas.Bool.{lt-ltb, ltb-true}
use Rattle.std.proofs.lemmas.List.{at_drop_all, at_drop_more}
use Rattle.part_core.specs.Catalogue.{Parts}
use Rattle.word_core.specs.Counter.{passes_limit}
use Rattle.word_core.specs.declared.limits.Limits.{Limits}
use Rattle.bom_core.specs.Bills.{Bills}
use Rattle.yard_core.specs.Stock.{Stock}
use Rattle.alloc_core.specs.Allocations.{free}
use Rattle.alloc_core.specs.Allotting.{Allotments, Need, allocate, allocate_each}
use Rattle.alloc_core.specs.Allotting.{allocate_some, allot_in_turn, allot_line, allot_lines}
use Rattle.alloc_core.specs.Allotments.{for_line}
use Rattle.alloc_core.specs.Automatic.{shares}
use Rattle.alloc_core.specs.Candidates.{candidate_numbers}
use Rattle.alloc_core.specs.declared.purpose.Purpose.{Purpose}
use Rattle.alloc_core.proofs.Allotted.{AreDrawn, drawn-some}

-- numbers were drawn, and the limits are the same
pub record HasDrawn (a b : Allotments) : Type 0 where
  pub next : a.counter.next ≤ b.counter.next
  pub limits : b.counter.limits ≡ a.counter.limits

pub drawn-none : (a : Allotments) → HasDrawn a a
drawn-none a = record { next = omega arith; limits = refl }

pub drawn-both : (a b c : Allotments) → HasDrawn a b → HasDrawn b c → HasDrawn a c
drawn-both a b c f g = record { next = omega (arith, f.next, g.next); limits = g.limits ∙ f.limits }

-- what is past the limit stays so
pub drawn-past : (a b : Allotments) → HasDrawn a b → passes_limit a.counter ≡ true → passes_limit b.counter ≡ true
drawn-past a b g past =
    let lt = ltb-true (a.counter.limits.numbers + 1) a.counter.next past in
    lt-ltb (b.counter.limits.numbers + 1) b.counter.next
    (omega (arith, lt, g.next, ap (λ (k : Limits). k.numbers) g.limits))

pub drawn-by_some : (purpose : Purpose) (n quantity : ℕ) (b : Allotments)
    → HasDrawn b (allocate_some purpose n quantity b)
drawn-by_some purpose n quantity b = go (quantity == 0)
  where
    go : (c : Bool) → HasDrawn b (if c then b else allocate purpose n quantity b)
    go true = drawn-none b
    go false = record { next = omega arith; limits = refl }

module _ (purpose : Purpose) where
  pub drawn-by_each : (ns amounts : List ℕ) (b : Allotments) → HasDrawn b (allocate_each purpose ns amounts b)
  drawn-by_each [] amounts b = drawn-none b
  drawn-by_each (n ∷ ns) [] b = drawn-none b
  drawn-by_each (n ∷ ns) (q ∷ qs) b =
      let next = allocate_some purpose n q b in
      drawn-both b next (allocate_each purpose ns qs next) (drawn-by_some purpose n q b) (drawn-by_each ns qs next)

  module _ (s : Stock) where
    pub drawn-by_turn : (ns : List ℕ) (missing : ℕ) (b : Allotments) → HasDrawn b (allot_in_turn purpose ns missing s b)
    drawn-by_turn [] missing b = drawn-none b
    drawn-by_turn (n ∷ ns) missing b =
        let amount = min (free n b.allocations s) missing in
        let next = allocate_some purpose n amount b in
        drawn-both b next (allot_in_turn purpose ns (missing - amount) s next) (drawn-by_some purpose n amount b)
        (drawn-by_turn ns (missing - amount) next)

    pub turn-drawn : (ns : List ℕ) (missing : ℕ) (b : Allotments) → AreDrawn b
        → AreDrawn (allot_in_turn purpose ns missing s b)
    turn-drawn [] missing b drawn = drawn
    turn-drawn (n ∷ ns) missing b drawn =
        let amount = min (free n b.allocations s) missing in
        turn-drawn ns (missing - amount) (allocate_some purpose n amount b) (drawn-some purpose n amount b drawn)

    -- ---- a loop over the items

    module _ (items : List ℕ) (i left : ℕ) (b whole : Allotments)
        (so_far : allot_in_turn purpose (drop i items) left s b ≡ whole) where
      module _ (d item amount : ℕ) (here : i < length items) (is : item ≡ get_or items i d)
          (given : amount ≡ min (free item b.allocations s) left) where
        rest : allot_in_turn purpose (drop (i + 1) items) (left - amount) s (allocate_some purpose item amount b)
            ≡ whole
        rest =
            ap (λ a. allot_in_turn purpose (drop (i + 1) items) (left - a) s (allocate_some purpose item a b)) given
            ∙ ap (λ n. allot_in_turn purpose (n ∷ drop (i + 1) items) left s b) is
            ∙ sym (at_drop_more (λ ns. allot_in_turn purpose ns left s b) items i d here) ∙ so_far

        pub turn-more : (new : Allotments) → new ≡ allocate_some purpose item amount b
            → allot_in_turn purpose (drop (i + 1) items) (left - amount) s new ≡ whole
        turn-more new put = ap (allot_in_turn purpose (drop (i + 1) items) (left - amount) s) put ∙ rest

        -- no number is left for one of them, so there is none for all
        pub turn-past : passes_limit (allocate_some purpose item amount b).counter ≡ true
            → passes_limit whole.counter ≡ true
        turn-past past =
            let next = allocate_some purpose item amount b in
            subst (λ (c : Allotments). passes_limit c.counter ≡ true) rest
            (drawn-past next (allot_in_turn purpose (drop (i + 1) items) (left - amount) s next)
            (drawn-by_turn (drop (i + 1) items) (left - amount) next) past)

      pub turn-all : length items ≤ i → b ≡ whole
      turn-all end = sym (at_drop_all (λ ns. allot_in_turn purpose ns left s b) items i end) ∙ so_far

-- ---- lines

pub drawn-by_lines : (with_substitutes : Bool) (parts : Parts) (bills : Bills) (s : Stock) (build : ℕ)
    (needs : List Need) (b : Allotments)
    → HasDrawn b (allot_lines with_substitutes parts bills s build needs b)
drawn-by_lines with_substitutes parts bills s build [] b = drawn-none b
drawn-by_lines with_substitutes parts bills s build (need ∷ needs) b =
    let items = candidate_numbers with_substitutes parts bills need.line s in
    let next = allot_line with_substitutes parts bills s build need b in
    drawn-both b next (allot_lines with_substitutes parts bills s build needs next)
    (drawn-by_each (for_line build need.line.number) items
    (shares need.missing (map (λ n. free n b.allocations s) items)) b)
    (drawn-by_lines with_substitutes parts bills s build needs next)
