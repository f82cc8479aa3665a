-- Lines in order: each by the items in turn, and what is sound stays so.
use Rattle.std.proofs.Common.{◌≡◌, inl, inr, ℕ, ◌≤◌, Bool, true, false, List, [], ◌∷◌, Some, None, sym, ap, ◌∙◌, subst}
use Rattle.std.specs.Prelude.{◌==◌, ◌&&◌, flat_map, if◌then◌else◌}
use Rattle.std.specs.FinMap as table
use Rattle.part_core.specs.Catalogue.{Parts}
use Rattle.word_core.specs.Quantity.{largest}
use Rattle.sheet_core.specs.Rows.{StandRight}
use Rattle.word_core.specs.Status.{is_allocatable}
use Rattle.sheet_core.proofs.Conditions.{and_parts}
use Rattle.sheet_core.proofs.Standing.{Stands, Stands-get}
use Rattle.forest.specs.declared.item.Item.{Item}
use Rattle.forest.specs.Forest.{is_at}
use Rattle.bom_core.specs.Bills.{Bills}
use Rattle.bom_core.specs.Sound.{IsSoundBill}
use Rattle.bom_core.specs.declared.line.Line.{Line}
use Rattle.bom_core.specs.declared.substitute.Substitute.{Substitute}
use Rattle.yard_core.specs.Stock.{IsSound, Stock, item_at, no_item}
use Rattle.std.specs.Prelude.{unwrap_or}
use Rattle.yard_core.proofs.Keeping.{bounds_at, good_at}
use Rattle.alloc_core.specs.Allotting.{Allotments, Need, allot_in_turn, allot_line, allot_lines}
use Rattle.alloc_core.specs.Candidates.{candidate_numbers, candidates, group}
use Rattle.alloc_core.specs.Candidates.{is_candidate, is_variant_for, substitutes_on}
use Rattle.alloc_core.specs.Sound.{AreSoundAllocations}
use Rattle.alloc_core.specs.declared.purpose.Purpose.TheVariants.{Build}
use Rattle.alloc_core.proofs.Allotted.{AreAllotable, AreDrawn, allotted-each, beside, next-turn, sound-allotted}
use Rattle.alloc_core.proofs.Groups.{candidates-once}
use Rattle.alloc_core.proofs.Once.{Stands-append, Stands-number, Stands-passes}

module _ (s : Stock) (sound : IsSound s) (next : ℕ) (right : StandRight (λ i. i.number) next s.items) where
  -- a loose item that is there
  abbrev IsLooseRow : Item → Type 0
  IsLooseRow x = Stands x (table.values s.items) × (is_at x.place ≡ true)

  of-group : (p : ℕ → Bool) (x : Item) → Stands x (group p s) → IsLooseRow x
  of-group p x h =
      let both = Stands-passes (is_candidate p) (table.values s.items) x h in (
        both.0,
        (and_parts (is_at x.place) (is_allocatable x.lot.status)
            (and_parts (is_at x.place && is_allocatable x.lot.status) (p x.part) both.1).0).0,
      )

  of-substitutes : (subs : List Substitute) (x : Item) → Stands x (flat_map (λ y. group (λ p. p == y.part) s) subs)
      → IsLooseRow x
  of-substitutes [] x h = absurd h
  of-substitutes (y ∷ ys) x h =
      elim (Stands-append (group (λ p. p == y.part) s) (flat_map (λ z. group (λ p. p == z.part) s) ys) x h) [
        | inl a ↦ of-group (λ p. p == y.part) x a
        | inr b ↦ of-substitutes ys x b
      ]

  loose-row : (x : Item) → IsLooseRow x
      → (is_at (item_at x.number s).place ≡ true) × ((item_at x.number s).quantity ≤ largest)
  loose-row x h =
      let at = Stands-get s.items x h.0 in
      let row : table.get s.items (x.number ∷ []) ≡ Some x =
      ap (λ k. table.get s.items k) (sym (right at.0 x at.1).own) ∙ at.1 in
      let is : item_at x.number s ≡ x = ap (λ o. unwrap_or o no_item) row in
      let bounds = bounds_at x h.1 (good_at s.items sound.items x.number x row) in
      (ap (λ (i : Item). is_at i.place) is ∙ h.1, subst (λ (i : Item). i.quantity ≤ largest) (sym is) bounds.1)

  module _ (with_substitutes : Bool) (parts : Parts) (bills : Bills) (bill : IsSoundBill parts bills next)
      (build : ℕ) where
    allotable : (l : Line)
        → AreAllotable (Build build l.number None) s (candidate_numbers with_substitutes parts bills l s)
    allotable l n h =
        let x = Stands-number (λ (i : Item). i.number) (candidates with_substitutes parts bills l s) n h in
        subst (λ (k : ℕ). (is_at (item_at k s).place ≡ true) × ((item_at k s).quantity ≤ largest)) x.2
        (loose-row x.0 (row x.0 x.1))
      where
        row : (x : Item) → Stands x (candidates with_substitutes parts bills l s) → IsLooseRow x
        row x h = elim (Stands-append (group (λ p. p == l.component) s) _ x h) [
          | inl a ↦ of-group (λ p. p == l.component) x a
          | inr b ↦ elim (Stands-append (group (is_variant_for parts l) s) _ x b) [
            | inl c ↦ of-group (is_variant_for parts l) x c
            | inr d ↦ third with_substitutes d
          ]
        ]
          where
            third : (b : Bool) → Stands x
                (if b then flat_map (λ y. group (λ p. p == y.part) s) (substitutes_on l.number bills) else [])
                → IsLooseRow x
            third true d = of-substitutes (substitutes_on l.number bills) x d
            third false d = absurd d

    -- a line is served item by item, as code goes
    pub line-in_turn : (need : Need) (b : Allotments) → table.get bills.lines (need.line.number ∷ []) ≡ Some need.line
        → AreDrawn b
        → allot_line with_substitutes parts bills s build need b
        ≡ allot_in_turn (Build build need.line.number None) (candidate_numbers with_substitutes parts bills need.line s)
        need.missing s b
    line-in_turn need b is_line drawn =
        sym (allotted-each (Build build need.line.number None) s
        (candidate_numbers with_substitutes parts bills need.line s) need.missing b drawn
        (candidates-once with_substitutes parts bills need.line s next bill is_line right))

    -- the lines are rows of the bills
    abbrev pub AreLines : List Need → Type 0
    AreLines [] = Unit {0}
    AreLines (need ∷ needs) = (table.get bills.lines (need.line.number ∷ []) ≡ Some need.line) × AreLines needs

    -- no item is allocated beyond its quantity, line after line
    pub sound-allot_lines : (needs : List Need) (b : Allotments) → AreLines needs → 1 ≤ b.counter.next
        → AreSoundAllocations b.allocations (beside (Build build 0 None) s b)
        → AreSoundAllocations (allot_lines with_substitutes parts bills s build needs b).allocations
        (beside (Build build 0 None) s (allot_lines with_substitutes parts bills s build needs b))
    sound-allot_lines [] b lines some allocations = allocations
    sound-allot_lines (need ∷ needs) b lines some allocations =
        let purpose = Build build need.line.number None in
        let items = candidate_numbers with_substitutes parts bills need.line s in
        let turn = allot_in_turn purpose items need.missing s b in
        let after = allot_line with_substitutes parts bills s build need b in
        let is = line-in_turn need b lines.0 (record { some = some; rows = allocations.rows }) in
        let good = sound-allotted purpose s items need.missing b some allocations (allotable need.line) in
        let more = next-turn purpose s items need.missing b some in
        sound-allot_lines needs after lines.1 (subst (λ (c : Allotments). 1 ≤ c.counter.next) (sym is) more)
        (subst (λ (c : Allotments). AreSoundAllocations c.allocations (record { stock = s; counter = c.counter }))
        (sym is) good)
