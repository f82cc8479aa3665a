-- An output that is named and there has a number that isn't 0.
use Rattle.std.proofs.Common.{◌≡◌, ℕ, ◌≤◌, false, [], ◌∷◌, Option, Some, None, refl, arith, is_none}
use Rattle.std.specs.Prelude.{IfSome}
use Rattle.std.specs.FinMap as table
use Rattle.sheet_core.specs.Rows.{StandRight}
use Rattle.sheet_core.proofs.RowLemmas.{same_digit}
use Rattle.forest.specs.declared.item.Item.{Item}
use Rattle.yard_core.specs.Stock.{Stock}
use Rattle.build_core.specs.AllocateBuild.{is_no_named}

pub named-some : (next : ℕ) (output : Option ℕ) (s : Stock) → StandRight (λ i. i.number) next s.items
    → is_no_named output s ≡ false → IfSome output (λ n. 1 ≤ n)
named-some next None s right there = tt
named-some next (Some o) s right there = go (table.get s.items (o ∷ [])) refl there
  where
    go : (row : Option Item) → table.get s.items (o ∷ []) ≡ row → is_none row ≡ false → 1 ≤ o
    go None e h = cc
    go (Some x) e h = let r = right (o ∷ []) x e in omega (arith, r.some, same_digit o x.number r.own)
