-- The items at the outputs of builds, and what leaves them alone.
use Rattle.std.specs.Prelude.{◌≡◌, ℕ, Bool, true, false, if◌then◌else◌, List, [], ◌∷◌, filter, map, sum_by, unwrap_or}
use Rattle.std.specs.FinMap as table
use Rattle.std.specs.List.{list_any}
use Rattle.sheet_core.specs.Sheet.{Table}
use Rattle.forest.specs.declared.item.Item.{Item}
use Rattle.forest.specs.declared.place.Place.{Place}
use Rattle.forest.specs.declared.place.Place.TheVariants.{Output}
use Rattle.forest.specs.Rows.{is_output_of}
use Rattle.yard_core.specs.Stock.{Stock, no_item}

-- the numbers of the items at the build's output, in order
abbrev pub outputs_of : ℕ → Stock → List ℕ
outputs_of n s = map (λ x. x.number) (filter (λ x. is_output_of n x.place) (table.values s.items))

-- whether an item is at the build's output
abbrev pub has_output : ℕ → Stock → Bool
has_output n s = list_any (λ x. is_output_of n x.place) (table.values s.items)

-- what an item adds to the quantities at the build's output
abbrev pub amount_out : ℕ → Item → ℕ
amount_out n x = if is_output_of n x.place then x.quantity else 0

-- the quantities at the build's output, in a table of items
abbrev pub amounts : ℕ → Table Item → ℕ
amounts n t = sum_by (amount_out n) (table.values t)

-- the quantities at the build's output
abbrev pub quantity_out : ℕ → Stock → ℕ
quantity_out n s = amounts n s.items

-- whether the place is the output of some build
abbrev pub is_output : Place → Bool
is_output (Output build) = true
is_output _ = false

-- the place of the item of a number
abbrev pub place_at : ℕ → Table Item → Place
place_at k t = (unwrap_or (table.get t (k ∷ [])) no_item).place

-- of two tables of items: what is an output was that, what was one still is, and they add up to as much
pub record LeavesOutputs (old new : Table Item) : Type 0 where
  pub was : (k build : ℕ) → place_at k new ≡ Output build → table.get new (k ∷ []) ≡ table.get old (k ∷ [])
  pub stays : (k build : ℕ) → place_at k old ≡ Output build → table.get new (k ∷ []) ≡ table.get old (k ∷ [])
  pub sums : (build : ℕ) → amounts build new ≡ amounts build old
