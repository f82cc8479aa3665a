-- Changes by which no allocation of some kind comes: rows for something else come, and any may go.
use Rattle.std.proofs.Common.{◌≡◌, inl, inr, ℕ, ◌≤◌, Bool, true, false, List}
use Rattle.std.proofs.Common.{[], ◌∷◌, None, refl, sym, ap, ◌∙◌, subst, arith}
use Rattle.std.specs.Prelude.{◌==◌, if◌then◌else◌, map}
use Rattle.std.specs.FinMap as table
use Rattle.sheet_core.specs.Rows.{StandRight}
use Rattle.sheet_core.specs.Sheet.{Table}
use Rattle.sheet_core.specs.TableRows.{without_rows}
use Rattle.sheet_core.proofs.RowLemmas.{get-insert_cases, get-insert_other, same_digit}
use Rattle.sheet_core.proofs.TableRows.{get-without, values-without}
use Rattle.sheet_core.proofs.Totals.{sum-insert_new}
use Rattle.alloc_core.specs.AllocMachine as alloc
use Rattle.alloc_core.specs.Allocations.{amount_where, sum_where}
use Rattle.alloc_core.specs.Allotting.{Allotments, Need, allocate, allocate_each}
use Rattle.alloc_core.specs.Allotting.{allocate_some, allot_line, allot_lines, new_allocation}
use Rattle.alloc_core.specs.Automatic.{shares}
use Rattle.alloc_core.specs.Allocations.{free}
use Rattle.alloc_core.specs.Candidates.{candidate_numbers}
use Rattle.alloc_core.specs.NoneComes.{NoneComes}
use Rattle.alloc_core.specs.declared.alloc_command.AllocCommand.{AllocCommand}
use Rattle.alloc_core.specs.declared.alloc_command.AllocCommand.TheVariants.{Release}
use Rattle.alloc_core.specs.declared.allocation.Allocation.{Allocation}
use Rattle.alloc_core.specs.declared.purpose.Purpose.{Purpose}
use Rattle.alloc_core.specs.declared.purpose.Purpose.TheVariants.{Build}
use Rattle.bom_core.specs.Bills.{Bills}
use Rattle.part_core.specs.Catalogue.{Parts}
use Rattle.yard_core.specs.Stock.{Stock}
use Rattle.alloc_core.proofs.Sound.{release-is}
use Rattle.alloc_core.proofs.Sums.{amount-out, sum-split}

module _ (test : Purpose → Bool) where
  pub none-same : (t : Table Allocation) → NoneComes test t t
  none-same t = record { was = λ k a at e. at; less = λ of only. omega arith }

  pub none-more : (t u v : Table Allocation) → NoneComes test t u → NoneComes test u v → NoneComes test t v
  none-more t u v first second = record {
    was = λ k a at e. first.was k a (second.was k a at e) e;
    less = λ of only. omega (arith, first.less of only, second.less of only);
  }

  -- some rows go
  pub none-without : (go : Allocation → Bool) (t : Table Allocation) → NoneComes test t (without_rows go t)
  none-without go t = record {
    was = λ k a at e. (get-without go t k a at).0;
    less = λ of only.
        let mine = λ (a : Allocation). of a.purpose in
        omega (arith, ap (sum_where mine) (values-without go t), sum-split mine go (table.values t));
  }

  -- a row for something else comes
  pub none-insert : (k : List ℕ) (a : Allocation) (t : Table Allocation) → table.get t k ≡ None → test a.purpose ≡ false
      → NoneComes test t (table.insert t k a)
  none-insert k a t new other = record {
    was = λ j b at e. elim (get-insert_cases t k a j b at) [
      | inl i ↦ (let clash : false ≡ true = sym other ∙ ap (λ (x : Allocation). test x.purpose) i.1 ∙ e in cc)
      | inr i ↦ i
    ];
    less = λ of only.
        let mine = λ (b : Allocation). of b.purpose in
        omega
        (arith, sum-insert_new (amount_where mine) t k a new, amount-out mine a (fails of only (of a.purpose) refl));
  }
    where
      fails : (of : Purpose → Bool) → ((p : Purpose) → of p ≡ true → test p ≡ true) → (c : Bool)
          → of a.purpose ≡ c → c ≡ false
      fails of only false e = refl
      fails of only true e = let clash : false ≡ true = sym other ∙ only a.purpose e in cc

  -- what the command on allocations does
  pub none-released : (c : AllocCommand) (next : ℕ) (t : Table Allocation) → StandRight (λ a. a.number) next t
      → NoneComes test t (alloc.effect c t)
  none-released (Release n) next t right =
      subst (NoneComes test t) (sym (release-is next n t right)) (none-without (λ a. a.number == n) t)

  -- ---- rows under numbers that are drawn

  -- no row stands under a number that is still to be drawn
  abbrev pub AreUndrawn : Allotments → Type 0
  AreUndrawn b = (n : ℕ) → b.counter.next ≤ n → table.get b.allocations (n ∷ []) ≡ None

  abbrev Comes : Allotments → Allotments → Type 0
  Comes b c = NoneComes test b.allocations c.allocations × AreUndrawn c

  more : (b c d : Allotments) → Comes b c → (AreUndrawn c → Comes c d) → Comes b d
  more b c d first then_ =
      let second = then_ first.1 in
      (none-more b.allocations c.allocations d.allocations first.0 second.0, second.1)

  pub none-allocate : (purpose : Purpose) (n quantity : ℕ) (b : Allotments) → test purpose ≡ false → AreUndrawn b
      → Comes b (allocate purpose n quantity b)
  none-allocate purpose n quantity b other undrawn =
      let next = b.counter.next in
      let row : Allocation = new_allocation next purpose n quantity in (
        none-insert (next ∷ []) row b.allocations (undrawn next (omega arith)) other,
        λ m le.
            get-insert_other b.allocations (next ∷ []) row (m ∷ []) (λ same. omega (arith, same_digit m next same, le))
            ∙ undrawn m (omega (arith, le)),
      )

  none-some : (purpose : Purpose) (n quantity : ℕ) (b : Allotments) → test purpose ≡ false → AreUndrawn b
      → Comes b (allocate_some purpose n quantity b)
  none-some purpose n quantity b other undrawn = go (quantity == 0)
    where
      go : (c : Bool) → Comes b (if c then b else allocate purpose n quantity b)
      go true = (none-same b.allocations, undrawn)
      go false = none-allocate purpose n quantity b other undrawn

  none-each : (purpose : Purpose) (ns amounts : List ℕ) (b : Allotments) → test purpose ≡ false → AreUndrawn b
      → Comes b (allocate_each purpose ns amounts b)
  none-each purpose [] amounts b other undrawn = (none-same b.allocations, undrawn)
  none-each purpose (n ∷ ns) [] b other undrawn = (none-same b.allocations, undrawn)
  none-each purpose (n ∷ ns) (q ∷ qs) b other undrawn =
      let one = allocate_some purpose n q b in
      more b one (allocate_each purpose ns qs one) (none-some purpose n q b other undrawn)
      (none-each purpose ns qs one other)

  module _ (with_substitutes : Bool) (parts : Parts) (bills : Bills) (s : Stock) (build : ℕ)
      (other : (line : ℕ) → test (Build build line None) ≡ false) where
    none-line : (need : Need) (b : Allotments) → AreUndrawn b
        → Comes b (allot_line with_substitutes parts bills s build need b)
    none-line need b undrawn =
        let items = candidate_numbers with_substitutes parts bills need.line s in
        none-each (Build build need.line.number None) items
        (shares need.missing (map (λ n. free n b.allocations s) items)) b (other need.line.number) undrawn

    -- what is taken for a build, automatically
    pub none-lines : (needs : List Need) (b : Allotments) → AreUndrawn b
        → Comes b (allot_lines with_substitutes parts bills s build needs b)
    none-lines [] b undrawn = (none-same b.allocations, undrawn)
    none-lines (need ∷ needs) b undrawn =
        let one = allot_line with_substitutes parts bills s build need b in
        more b one (allot_lines with_substitutes parts bills s build needs one) (none-line need b undrawn)
        (none-lines needs one)
