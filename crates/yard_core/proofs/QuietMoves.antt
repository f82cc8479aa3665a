-- Each move on items that are no outputs leaves the outputs of builds as they are.
use Rattle.std.proofs.Common.{◌≡◌, ℕ, ◌+◌, ◌-◌, Bool, true, false, List, [], ◌∷◌}
use Rattle.std.proofs.Common.{Option, Some, None, refl, sym, ap, ◌∙◌, eqb-true}
use Rattle.std.specs.Prelude.{◌==◌, if◌then◌else◌}
use Rattle.std.specs.FinMap as table
use Rattle.word_core.specs.Day.{CivilDay}
use Rattle.sheet_core.specs.Rows.{StandRight}
use Rattle.sheet_core.specs.Sheet.{Table}
use Rattle.word_core.specs.declared.status.Status.{Status}
use Rattle.forest.specs.declared.entry.Kind.{Kind}
use Rattle.forest.specs.declared.entry.Kind.TheVariants.{Installed, Marked, TakenOut}
use Rattle.forest.specs.declared.entry.Note.{Note}
use Rattle.forest.specs.declared.item.Item.{Item}
use Rattle.forest.specs.declared.place.Place.{Place}
use Rattle.forest.specs.declared.place.Place.TheVariants.{At, In, Output, Sent, Used, Off, Gone}
use Rattle.forest.specs.declared.place.Reason.{Reason}
use Rattle.forest.specs.Forest.{is_at, row_of}
use Rattle.forest.specs.Moves.{cut_change, cut_leaf, grow_change, lift_change, lifted_root, make_change}
use Rattle.forest.specs.Moves.{place_left, pour_change, shrink_change, with_quantity}
use Rattle.forest.specs.Rows.{entry_to}
use Rattle.forest.specs.Tables.{node_of}
use Rattle.yard_core.specs.Outputs.{LeavesOutputs, is_output}
use Rattle.yard_core.specs.Stock.{Stock, at_place, cut, graft, grow, item_at, lift, make}
use Rattle.yard_core.specs.Stock.{mark, moved, pour, prune, put_rows, shrink, tree_of, with_status}
use Rattle.yard_core.proofs.OwnKeys.{own-keyed}
use Rattle.yard_core.proofs.Quiet.{leaves-kept, leaves-more, leaves-new, leaves-none}
use Rattle.yard_core.proofs.Rows.{by_number, get-other, get-own, own-changed, own-new}

-- a location is no output
pub at-quiet : (q : Place) → is_at q ≡ true → is_output q ≡ false
at-quiet (At l) e = refl
at-quiet (In l) e = cc
at-quiet (Output l) e = cc
at-quiet (Sent l) e = cc
at-quiet (Used l) e = cc
at-quiet (Off l) e = cc
at-quiet Gone e = cc

-- nor is where something is left
pub left-quiet : (r : ℕ) (q : Place) → is_output q ≡ false → is_output (place_left r q) ≡ false
left-quiet r q out = go (r == 0)
  where
    go : (c : Bool) → is_output (if c then Gone else q) ≡ false
    go true = refl
    go false = out

-- the rows stand under their own numbers
abbrev pub HasOwn : Table Item → Type 0
HasOwn t = table.entries t ≡ by_number (table.values t)

pub own-right : (next : ℕ) (t : Table Item) → StandRight (λ i. i.number) next t → HasOwn t
own-right next t right = own-keyed (λ (i : Item). i.number) t (λ k x e. (right k x e).own)

-- a row comes, or takes the place of one, and neither is an output
abbrev pub IsQuiet : Table Item → Item → Type 0
IsQuiet t x =
    (is_output x.place ≡ false) × ((old : Item) → table.get t (x.number ∷ []) ≡ Some old → is_output old.place ≡ false)

leaves-row : (x : Item) (t : Table Item) → HasOwn t → IsQuiet t x
    → LeavesOutputs t (table.insert t (x.number ∷ []) x) × HasOwn (table.insert t (x.number ∷ []) x)
leaves-row x t own quiet = go (table.get t (x.number ∷ [])) refl
  where
    go : (o : Option Item) → table.get t (x.number ∷ []) ≡ o
        → LeavesOutputs t (table.insert t (x.number ∷ []) x) × HasOwn (table.insert t (x.number ∷ []) x)
    go None e = (leaves-new x t quiet.0 e, own-new x t own e)
    go (Some old) e = (leaves-kept x t quiet.0 old own e (quiet.1 old e), own-changed x old t own e)

-- what stands under a number is no output, where what stood there was none and the row that comes is none
beside-quiet : (t : Table Item) (y : Item) (j : ℕ) → is_output y.place ≡ false
    → ((old : Item) → table.get t (j ∷ []) ≡ Some old → is_output old.place ≡ false) → (old : Item)
    → table.get (table.insert t (y.number ∷ []) y) (j ∷ []) ≡ Some old → is_output old.place ≡ false
beside-quiet t y j away was old e = go (y.number == j) refl
  where
    go : (c : Bool) → (y.number == j) ≡ c → is_output old.place ≡ false
    go true same =
        let here : Some y ≡ Some old =
        sym (get-own y.number y t)
        ∙ ap (λ k. table.get (table.insert t (y.number ∷ []) y) (k ∷ [])) (eqb-true y.number j same)
        ∙ e in
        let is : y ≡ old = cc in
        ap (λ (i : Item). is_output i.place) (sym is) ∙ away
    go false other = was old (sym (get-other y.number j y t other) ∙ e)

-- rows are put, one after another
abbrev pub AreQuiet : Table Item → List Item → Type 0
AreQuiet t [] = Unit {0}
AreQuiet t (x ∷ xs) = IsQuiet t x × AreQuiet (table.insert t (x.number ∷ []) x) xs

pub leaves-put_rows : (rows : List Item) (t : Table Item) → HasOwn t → AreQuiet t rows
    → LeavesOutputs t (put_rows rows t)
leaves-put_rows [] t own quiet = leaves-none t
leaves-put_rows (x ∷ xs) t own quiet =
    let one = leaves-row x t own quiet.0 in
    let u = table.insert t (x.number ∷ []) x in
    leaves-more t u (put_rows xs u) one.0 (leaves-put_rows xs u one.1 quiet.1)

-- what every move does
pub leaves-moved : (rows : List Item) (notes : List Note) (day : CivilDay) (s : Stock) → HasOwn s.items
    → AreQuiet s.items rows → LeavesOutputs s.items (moved rows notes day s).items
leaves-moved rows notes day s own quiet = leaves-put_rows rows s.items own quiet

module _ (s : Stock) (own : HasOwn s.items) (day : CivilDay) where
  -- ---- a new item

  pub leaves-make : (k : Kind) (x : Item) → is_output x.place ≡ false → table.get s.items (x.number ∷ []) ≡ None
      → LeavesOutputs s.items (make k x day s).items
  leaves-make k x out none =
      leaves-moved (x ∷ []) (make_change k x.place (node_of x)).notes day s own
      ((out, (λ old e. (let clash : None ≡ Some old = sym none ∙ e in cc))), tt)

  -- ---- an item that is no output

  module _ (n : ℕ) (under : table.get s.items ((item_at n s).number ∷ []) ≡ Some (item_at n s))
      (out : is_output (item_at n s).place ≡ false) where
    abbrev x : Item
    x = item_at n s

    -- another row takes the place of its own
    quiet : (y : Item) → y.number ≡ x.number → is_output y.place ≡ false → IsQuiet s.items y
    quiet y same away = (away, was)
      where
        was : (old : Item) → table.get s.items (y.number ∷ []) ≡ Some old → is_output old.place ≡ false
        was old e =
            let both : Some x ≡ Some old = sym under ∙ ap (λ k. table.get s.items (k ∷ [])) (sym same) ∙ e in
            let is : x ≡ old = cc in
            ap (λ (i : Item). is_output i.place) (sym is) ∙ out

    pub leaves-lift : (q : Place) → is_output q ≡ false → LeavesOutputs s.items (lift n q day s).items
    leaves-lift q away =
        let y = row_of (lifted_root q (tree_of n s)) in
        leaves-moved (y ∷ []) (lift_change q (tree_of n s)).notes day s own (quiet y refl away, tt)

    pub leaves-shrink : (reason : Reason) (q : ℕ) → LeavesOutputs s.items (shrink reason n q day s).items
    leaves-shrink reason q =
        let y = row_of (with_quantity (x.quantity - q) (tree_of n s)) in
        leaves-moved (y ∷ []) (shrink_change reason q (tree_of n s)).notes day s own
        (quiet y refl (left-quiet (x.quantity - q) x.place out), tt)

    pub leaves-grow : (q : ℕ) → LeavesOutputs s.items (grow n q day s).items
    leaves-grow q =
        let y = row_of (with_quantity (x.quantity + q) (tree_of n s)) in
        leaves-moved (y ∷ []) (grow_change q (tree_of n s)).notes day s own
        (quiet y refl (left-quiet (x.quantity + q) x.place out), tt)

    pub leaves-mark : (status : Status) → LeavesOutputs s.items (mark n status day s).items
    leaves-mark status =
        leaves-moved (with_status status x ∷ []) (entry_to Marked x.place x ∷ []) day s own
        (quiet (with_status status x) refl out, tt)

    pub leaves-graft : (m : ℕ) → LeavesOutputs s.items (graft n m day s).items
    leaves-graft m =
        leaves-moved (at_place (In m) x ∷ []) (entry_to Installed (In m) x ∷ []) day s own
        (quiet (at_place (In m) x) refl refl, tt)

    pub leaves-prune : (l : ℕ) → LeavesOutputs s.items (prune n l day s).items
    leaves-prune l =
        leaves-moved (at_place (At l) x ∷ []) (entry_to TakenOut (At l) x ∷ []) day s own
        (quiet (at_place (At l) x) refl refl, tt)

    -- a piece comes beside it, under a number that was none's
    pub leaves-cut : (q m : ℕ) (serial : Option (List ℕ)) → table.get s.items (m ∷ []) ≡ None
        → LeavesOutputs s.items (cut n q m serial day s).items
    leaves-cut q m serial none =
        let smaller = row_of (with_quantity (x.quantity - q) (tree_of n s)) in
        let piece = row_of (cut_leaf q m serial (tree_of n s)) in
        let away = left-quiet (x.quantity - q) x.place out in
        leaves-moved (smaller ∷ piece ∷ []) (cut_change q m serial (tree_of n s)).notes day s own (
          quiet smaller refl away,
          (
            (out, beside-quiet s.items smaller m away (λ old e. (let clash : None ≡ Some old = sym none ∙ e in cc))),
            tt,
          ),
        )

  -- ---- an item goes into another

  pub leaves-pour : (n m : ℕ) → table.get s.items ((item_at n s).number ∷ []) ≡ Some (item_at n s)
      → is_output (item_at n s).place ≡ false
      → table.get s.items ((item_at m s).number ∷ []) ≡ Some (item_at m s) → is_output (item_at m s).place ≡ false
      → LeavesOutputs s.items (pour n m day s).items
  leaves-pour n m from away into out =
      let x = item_at n s in
      let y = item_at m s in
      let emptied = row_of (with_quantity 0 (tree_of n s)) in
      let fuller = row_of (with_quantity (y.quantity + x.quantity) (tree_of m s)) in
      let second = quiet m into out fuller refl (left-quiet (y.quantity + x.quantity) y.place out) in
      leaves-moved (emptied ∷ fuller ∷ []) (pour_change (tree_of n s) (tree_of m s)).notes day s own
      (quiet n from away emptied refl refl, ((second.0, beside-quiet s.items emptied y.number refl second.1), tt))
