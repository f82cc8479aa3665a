-- An item that isn't gone is the one that its part and its serial name.
use Rattle.std.proofs.Common.{◌≡◌, ◌⊎◌, inl, inr, ℕ, Bool, true, false, cond, List, [], ◌∷◌, Some, refl, sym, ap, ◌∙◌}
use Rattle.std.proofs.Common.{subst, eqb-true}
use Rattle.std.specs.Prelude.{◌==◌, not, filter, if◌then◌else◌}
use Rattle.std.specs.FinMap as table
use Rattle.std.proofs.lemmas.Bool.{eq-eqb}
use Rattle.std.proofs.lemmas.Slice.Eq.{bytes_eq-Decides}
use Rattle.part_core.specs.Catalogue.{family}
use Rattle.part_core.specs.declared.found.Found.{Found}
use Rattle.part_core.specs.declared.found.Found.TheVariants.{Nothing, One}
use Rattle.sheet_core.proofs.Conditions.{and_both, and_parts}
use Rattle.sheet_core.proofs.Standing.{Stands, Stands-get, get-Stands}
use Rattle.forest.specs.declared.item.Item.{Item}
use Rattle.alloc_core.proofs.Once.{Stands-passes}
use Rattle.yard_core.specs.ItemNames.{is_item_named, newest, newest_left}
use Rattle.yard_core.specs.Stock.{has_serial, is_gone}
use Rattle.desk_core.specs.Machine.{State, IsSoundState}
use Rattle.desk_core.specs.NamesStay.{LeftItemsAreNamed}

-- ---- lists

module _ {X : Type 0} (p : X → Bool) where
  -- what stands in a list and passes stands in what passes
  passing-Stands : (xs : List X) (x : X) → Stands x xs → p x ≡ true → Stands x (filter p xs)
  passing-Stands [] x h e = h
  passing-Stands (y ∷ ys) x h e = go (p y) refl h (λ later. passing-Stands ys x later e)
    where
      go : (b : Bool) → p y ≡ b → (y ≡ x) ⊎ Stands x ys → (Stands x ys → Stands x (filter p ys))
          → Stands x (cond b (y ∷ filter p ys) (filter p ys))
      go true q (inl same) ih = inl same
      go true q (inr later) ih = inr (ih later)
      go false q (inl same) ih = (let clash = sym q ∙ ap p same ∙ e in cc)
      go false q (inr later) ih = ih later

-- of these items those that aren't gone have one number
abbrev AreOne : ℕ → List Item → Type 0
AreOne n xs = (y : Item) → Stands y xs → is_gone y.place ≡ false → y.number ≡ n

-- it is what is found once it was found
stays-found : (n : ℕ) (xs : List Item) → AreOne n xs → (found : Found) → found ≡ One n → newest_left found xs ≡ One n
stays-found n [] one found e = e
stays-found n (x ∷ xs) one found e =
    stays-found n xs (λ y stands. one y (inr stands)) (if is_gone x.place then found else One x.number)
    (go (is_gone x.place) refl)
  where
    go : (b : Bool) → is_gone x.place ≡ b → (if b then found else One x.number) ≡ One n
    go true is = e
    go false is = ap One (one x (inl refl) is)

-- and it is found where one of them isn't gone
is-found : (n : ℕ) (xs : List Item) → AreOne n xs → (item : Item) → Stands item xs → is_gone item.place ≡ false
    → (found : Found) → newest_left found xs ≡ One n
is-found n [] one item stands left found = absurd stands
is-found n (x ∷ xs) one item stands left found =
    let others : AreOne n xs = λ y later. one y (inr later) in
    let next = if is_gone x.place then found else One x.number in
    elim stands [
      | inl same ↦
          let here : is_gone x.place ≡ false = ap (λ (y : Item). is_gone y.place) same ∙ left in
          stays-found n xs others next
          (ap (λ b. if b then found else One x.number) here ∙ ap One (one x (inl refl) here))
      | inr later ↦ is-found n xs others item later left next
    ]

-- ---- the items of a sound state

has_own : (item : Item) (serial : List ℕ) → item.lot.serial ≡ Some serial → has_serial serial item ≡ true
has_own item serial own = rw own ((bytes_eq-Decides serial serial).1 refl)

module _ (s : State) (sound : IsSoundState s) (n : ℕ) (item : Item) (serial : List ℕ)
    (there : table.get s.stock.items (n ∷ []) ≡ Some item) (left : is_gone item.place ≡ false)
    (own : item.lot.serial ≡ Some serial) where
  abbrev named : Item → Bool
  named = is_item_named item.part serial

  passes : named item ≡ true
  passes = and_both _ _ (has_own item serial own) (eq-eqb item.part item.part refl)

  -- one of that part with that serial that isn't gone is the item
  one : AreOne n (filter named (table.values s.stock.items))
  one y stands here =
      let among = Stands-passes named (table.values s.stock.items) y stands in
      let both = and_parts (has_serial serial y) (y.part == item.part) among.1 in
      let row = Stands-get s.stock.items y among.0 in
      let at : table.get s.stock.items (y.number ∷ []) ≡ Some y =
      subst (λ key. table.get s.stock.items key ≡ Some y) (sound.stock.items.rows row.0 y row.1).own row.1 in
      let kin = family item.part s.parts in
      let same : family y.part s.parts ≡ kin = ap (λ p. family p s.parts) (eqb-true y.part item.part both.1) in
      sound.stock.once serial kin y.number n y item at there
      (and_both _ _ (and_both _ _ (ap not here) both.0) (eq-eqb (family y.part s.parts) kin same))
      (and_both _ _ (and_both _ _ (ap not left) (has_own item serial own)) (eq-eqb kin kin refl))

pub left_items_are_named : LeftItemsAreNamed
left_items_are_named s sound n item serial there left own =
    let among = filter (is_item_named item.part serial) (table.values s.stock.items) in
    is-found n among (one s sound n item serial there left own) item
    (passing-Stands (is_item_named item.part serial) (table.values s.stock.items) item
    (get-Stands s.stock.items (n ∷ []) item there) (passes s sound n item serial there left own))
    left (newest Nothing among)
