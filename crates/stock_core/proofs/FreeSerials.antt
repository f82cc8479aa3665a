-- Serials that are free in a family, before and after an item gets one of them.
use Rattle.std.proofs.Common.{◌≡◌, ℕ, Bool, true, false, not, List, [], ◌∷◌, Option, Some, sym, ◌∙◌, subst, rules}
use Rattle.std.specs.FinMap as table
use Rattle.std.specs.List.{list_any}
use Rattle.std.specs.Str.{bytes_eq}
use Rattle.std.proofs.lemmas.Slice.Eq.{bytes_eq-Decides}
use Rattle.std.proofs.lemmas.Bool.{not-true}
use Rattle.part_core.specs.Catalogue.{Parts, family}
use Rattle.sheet_core.specs.Sheet.{Table}
use Rattle.word_core.specs.Twice.{stands_twice}
use Rattle.sheet_core.proofs.Conditions.{not_false, or_none}
use Rattle.sheet_core.proofs.Tables.{none-passes}
use Rattle.forest.specs.declared.item.Item.{Item}
use Rattle.yard_core.specs.Stock.{Stock, holds_serial, is_serial_free}
use Rattle.stock_core.specs.Serials.{are_taken, is_one_held}
use Rattle.stock_core.proofs.Kept.{IsFree}

-- each is free in the family, and none stands twice
abbrev pub AreFree : Parts → ℕ → List (List ℕ) → Table Item → Type 0
AreFree parts kin [] t = Unit {0}
AreFree parts kin (x ∷ xs) t = IsFree parts kin x t × (list_any (λ y. bytes_eq y x) xs ≡ false) × AreFree parts kin xs t

self_bytes : (a : List ℕ) → bytes_eq a a ≡ true
self_bytes a = search (rules, bytes_eq-Decides)

free-from : (parts : Parts) (part : ℕ) (xs : List (List ℕ)) (s : Stock) → stands_twice bytes_eq xs ≡ false
    → is_one_held part parts s xs ≡ false → AreFree parts (family part parts) xs s.items
free-from parts part [] s once free = tt
free-from parts part (x ∷ xs) s once free =
    let a = or_none (list_any (λ y. bytes_eq y x) xs) (stands_twice bytes_eq xs) once in
    let b =
    or_none (not (is_serial_free x part parts s)) (list_any (λ y. not (is_serial_free y part parts s)) xs) free in
    let none =
    not-true (list_any (holds_serial x (family part parts) parts) (table.values s.items))
    (not_false (is_serial_free x part parts s) b.0) in (
      λ m z e. none-passes (holds_serial x (family part parts) parts) s.items (m ∷ []) z none e,
      a.0,
      free-from parts part xs s a.1 b.1,
    )

-- serials that aren't taken are free
pub free-checked : (parts : Parts) (part : ℕ) (xs : List (List ℕ)) (s : Stock) → are_taken part parts s xs ≡ false
    → AreFree parts (family part parts) xs s.items
free-checked parts part xs s e =
    let both = or_none (stands_twice bytes_eq xs) (is_one_held part parts s xs) e in
    free-from parts part xs s both.0 both.1

-- the others stay free after an item with the first
pub free-after : (parts : Parts) (kin : ℕ) (x : List ℕ) (xs : List (List ℕ)) (t u : Table Item)
    → ((s : List ℕ) → (s ≡ x → ⊥) → IsFree parts kin s t → IsFree parts kin s u)
    → list_any (λ y. bytes_eq y x) xs ≡ false → AreFree parts kin xs t → AreFree parts kin xs u
free-after parts kin x [] t u still other free = tt
free-after parts kin x (y ∷ ys) t u still other free =
    let apart = or_none (bytes_eq y x) (list_any (λ z. bytes_eq z x) ys) other in (
      still y (λ same. differ (bytes_eq y x) apart.0 (subst (λ z. bytes_eq y z ≡ true) same (self_bytes y))) free.0,
      free.1,
      free-after parts kin x ys t u still apart.1 free.2,
    )
  where
    differ : (c : Bool) → c ≡ false → c ≡ true → ⊥
    differ c f g = (let clash : true ≡ false = sym g ∙ f in cc)

pub same-serial : (a c : List ℕ) → ◌≡◌ {A = Option (List ℕ)} (Some a) (Some c) → a ≡ c
same-serial a c e = cc

-- the serial that is free, by another name
pub free-serial : (parts : Parts) (kin : ℕ) (x : List ℕ) (t : Table Item) → IsFree parts kin x t → (s : List ℕ)
    → ◌≡◌ {A = Option (List ℕ)} (Some x) (Some s) → IsFree parts kin s t
free-serial parts kin x t free s e = subst (λ y. IsFree parts kin y t) (same-serial x s e) free
