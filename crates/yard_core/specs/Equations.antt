-- The three equations of conservation, each as two sides of shares.
use Rattle.std.specs.Prelude.{ℕ, Bool, true, false, if◌then◌else◌, List, map, ◌++◌, Option, Some, None, suc, zero}
use Rattle.forest.specs.declared.item.Item.{Item}
use Rattle.forest.specs.declared.entry.Entry.{Entry}
use Rattle.forest.specs.declared.entry.Kind.{Kind}
use Rattle.forest.specs.declared.entry.Kind.TheVariants.{Received, Found, Built, Consumed, Shipped, Returned, Written}
use Rattle.forest.specs.declared.place.Place.{Place}
use Rattle.forest.specs.Forest.{State, Balanced, is_at, is_sent, is_used}
use Rattle.forest.specs.Tables.{is_root, forest_of}
use Rattle.yard_core.specs.Climbs.{over, in_rows}
use Rattle.yard_core.specs.declared.opening.shares.Share.{Share}
use Rattle.yard_core.specs.declared.opening.equations.Equation.{Equation}
use Rattle.yard_core.specs.declared.opening.equations.Equation.TheVariants.{Accounted, Sent, Used}

-- what stands on the left, of the history
abbrev pub is_left : Equation → Kind → Bool
is_left Accounted Received = true
is_left Accounted Found = true
is_left Accounted Built = true
is_left Accounted Returned = true
is_left Sent Shipped = true
is_left Used Consumed = true
is_left _ _ = false

-- what stands on the right, of the history
abbrev pub is_right : Equation → Kind → Bool
is_right Accounted Consumed = true
is_right Accounted Shipped = true
is_right Accounted Written = true
is_right Sent Returned = true
is_right _ _ = false

-- the places of the items on the right
abbrev pub is_counted : Equation → Place → Bool
is_counted Accounted q = is_at q
is_counted Sent q = is_sent q
is_counted Used q = is_used q

abbrev pub entry_share : Equation → Entry → Share
entry_share e x = record {
  part = x.note.part;
  left = if is_left e x.note.kind then x.note.quantity else 0;
  right = if is_right e x.note.kind then x.note.quantity else 0;
}

-- the place that is found from a row, where there is one
abbrev pub place_from : (Item → Option Place) → Option Item → Option Place
place_from f None = None
place_from f (Some y) = f y

-- the place of the item that lies in no other, at most so many steps up
unfoldable pub place_up : (ℕ → Option Item) → ℕ → Item → Option Place
place_up look zero x = if is_root x then Some x.place else None
place_up look (suc d) x = if is_root x then Some x.place else place_from (place_up look d) (over look x)

abbrev pub is_place : (Place → Bool) → Option Place → Bool
is_place at None = false
is_place at (Some q) = at q

abbrev pub item_share : Equation → (ℕ → Option Item) → Item → Share
item_share e look x = record {
  part = x.part;
  left = 0;
  right = if is_place (is_counted e) (place_up look 16 x) then x.quantity else 0;
}

abbrev pub shares_of : Equation → List Item → List Entry → List Share
shares_of e rows entries = map (entry_share e) entries ++ map (item_share e (in_rows rows)) rows

-- the forest that rows are, with the history that entries are
abbrev pub state_of : List Item → List Entry → State
state_of rows entries = record { forest = forest_of rows; history = map (λ e. e.note) entries }

abbrev pub AreBalanced : List Item → List Entry → Type 0
AreBalanced rows entries = (p : ℕ) → Balanced p (state_of rows entries)
