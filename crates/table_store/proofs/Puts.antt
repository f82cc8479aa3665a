-- The rows that a log was given, as changes of its table.
use Rattle.std.proofs.Common.{◌≡◌, ℕ, ◌+◌, ◌<◌, ◌≤◌, List, [], ◌∷◌, ◌++◌, map, drop, length, get_or, Some}
use Rattle.std.proofs.Common.{inl, inr, Option, refl, sym, ap, subst, ◌∙◌}
use Rattle.std.specs.Prelude.{All}
use Rattle.std.specs.FinMap.{insert, values}
use Rattle.std.proofs.lemmas.List.{drop_all, drop_more}
use Rattle.std.proofs.lemmas.List.Elements.{All-cons, All-nil}
use Rattle.sheet_core.specs.Filled.{StandUnderKeys, filled_onto}
use Rattle.sheet_core.specs.Rows.{EachRow}
use Rattle.sheet_core.specs.Sheet.{Table}
use Rattle.sheet_core.proofs.Standing.{Stands, each-value}
use Rattle.sqlite.specs.Order.{Row}
use Rattle.sqlite.specs.State.{State}
use Rattle.table_store.specs.Written.{tree_of, given_all}
use Rattle.table_store.specs.declared.name.TableName.{TableName}
use Rattle.table_store.proofs.Changes.{IsMidway}

module _ {X : Type 0} (P : X → Type 0) where
  all-stands : (xs : List X) → ((x : X) → Stands x xs → P x) → All P xs
  all-stands [] has = All-nil P
  all-stands (x ∷ xs) has = All-cons P x xs (has x (inl refl)) (all-stands xs (λ y s. has y (inr s)))

  stands-behind : (xs ys : List X) (x : X) → Stands x ys → Stands x (xs ++ ys)
  stands-behind [] ys x s = s
  stands-behind (y ∷ xs) ys x s = inr (stands-behind xs ys x s)

  -- what holds of each row holds of those that stand behind the rows before
  pub all-behind : (now before : Table X) (new : List X) → values now ≡ values before ++ new → EachRow P now
      → All P new
  all-behind now before new behind each =
      all-stands new (λ x s. each-value P now each x (subst (Stands x) (sym behind) (stands-behind (values before) new x s)))

module _ {X : Type 0} (key_of : X → List ℕ) where
  -- the keys of the rows, each with its row
  abbrev pub puts_of : List X → List (List ℕ × Option X)
  puts_of xs = map (λ x. (key_of x, Some x)) xs

  puts-onto : (xs : List X) (t : Table X) → given_all (puts_of xs) t ≡ filled_onto key_of t xs
  puts-onto [] t = refl
  puts-onto (x ∷ xs) t = puts-onto xs (insert t (key_of x) x)

  -- the rows that are left, the first of them apart
  pub puts-more : (xs : List X) (i : ℕ) (x : X) → i < length xs → x ≡ get_or xs i x
      → puts_of (drop i xs) ≡ (key_of x, Some x) ∷ puts_of (drop (i + 1) xs)
  puts-more xs i x within is =
      ap puts_of (drop_more xs i x within)
      ∙ ap (λ y. (key_of y, Some y) ∷ puts_of (drop (i + 1) xs)) (sym is)

  -- where no row is left, they stand in the table
  pub puts-done : (Is : List Row → Table X → Type 0) (table : TableName) (xs : List X) (i : ℕ) (old now : State)
      → length xs ≤ i → IsMidway Is key_of table (puts_of (drop i xs)) (puts_of xs) old now
      → (t : Table X) → StandUnderKeys key_of t → Is (tree_of table old) t
      → Is (tree_of table now) (filled_onto key_of t xs)
  puts-done Is table xs i old now end m t own is =
      let mid = m.rows t own is in
      let none : given_all (puts_of (drop i xs)) mid.0 ≡ mid.0 =
      ap (λ ys. given_all (puts_of ys) mid.0) (drop_all i xs end) in
      subst (Is (tree_of table now)) (sym none ∙ mid.3 ∙ puts-onto xs t) mid.2
