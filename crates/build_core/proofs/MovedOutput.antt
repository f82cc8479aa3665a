-- An item that moves as a whole: the rows of the others stay as they are, and with them what is allocated of them.
use Rattle.std.proofs.Common.{◌≡◌, ℕ, Bool, true, false, List, [], ◌∷◌, Some, refl, sym, ap, ◌∙◌, arith, eqb-true}
use Rattle.std.specs.Prelude.{◌==◌}
use Rattle.std.specs.FinMap as table
use Rattle.word_core.specs.Day.{CivilDay}
use Rattle.sheet_core.specs.Rows.{StandRight}
use Rattle.sheet_core.proofs.Conditions.{turned}
use Rattle.sheet_core.proofs.RowLemmas.{right-number}
use Rattle.forest.specs.declared.item.Item.{Item}
use Rattle.forest.specs.declared.place.Place.{Place}
use Rattle.forest.specs.Forest.{is_at, row_of}
use Rattle.forest.specs.Moves.{lifted_root}
use Rattle.alloc_core.specs.declared.allocation.Allocation.{Allocation}
use Rattle.alloc_core.specs.Covered.{IsCovered}
use Rattle.alloc_core.proofs.Covers.{covered-moved}
use Rattle.yard_core.specs.Stock.{Stock, item_at, lift, tree_of}
use Rattle.yard_core.proofs.Rows.{get-other, get-own}
use Rattle.stock_core.proofs.Plain.{item_of}

module _ (n : ℕ) (q : Place) (day : CivilDay) (next : ℕ) (s : Stock)
    (rows : StandRight (λ (i : Item). i.number) next s.items)
    (there : table.get s.items (n ∷ []) ≡ Some (item_at n s)) where
  abbrev x : Item
  x = item_at n s

  own_number : x.number ≡ n
  own_number = right-number (λ (i : Item). i.number) next n x s.items rows there

  -- it stands under its own number
  pub under-own : table.get s.items (x.number ∷ []) ≡ Some x
  under-own = ap (λ k. table.get s.items (k ∷ [])) own_number ∙ there

  abbrev pub moved_item : Item
  moved_item = row_of (lifted_root q (tree_of n s))

  abbrev after : Stock
  after = lift n q day s

  pub row-moved : table.get after.items (n ∷ []) ≡ Some moved_item
  row-moved = ap (λ k. table.get after.items (k ∷ [])) (sym own_number) ∙ get-own x.number moved_item s.items

  pub row-other : (k : ℕ) → (k == n) ≡ false → table.get after.items (k ∷ []) ≡ table.get s.items (k ∷ [])
  row-other k other = get-other x.number k moved_item s.items (ap (λ j. j == k) own_number ∙ turned k n other)

  module _ (not_loose : is_at x.place ≡ false) where
    -- a loose item is another
    pub other-item : (k : ℕ) → is_at (item_at k s).place ≡ true → (k == n) ≡ false
    other-item k loose = go (k == n) refl
      where
        go : (c : Bool) → (k == n) ≡ c → c ≡ false
        go false f = refl
        go true f =
            let clash : true ≡ false =
            sym loose ∙ ap (λ j. is_at (item_at j s).place) (eqb-true k n f) ∙ not_loose in
            cc

    pub covered-beside : (rest : List Allocation) → IsCovered s rest → IsCovered after rest
    covered-beside rest covered = covered-moved s after rest covered.each (λ k loose some.
        let row = row-other k (other-item k loose) in (
          ap (λ o. is_at (item_of o).place) row ∙ loose,
          (let has = ap (λ o. (item_of o).quantity) row in omega (arith, has, covered.within k)),
        ))
