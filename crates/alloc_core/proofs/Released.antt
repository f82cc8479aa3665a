-- Rows that go one after another, by the numbers of those that pass a test, leave the others.
use Rattle.std.proofs.Common.{◌≡◌, inl, inr, ℕ, Bool, true, false, cond, ◌||◌, List, []}
use Rattle.std.proofs.Common.{◌∷◌, map, Option, Some, None, refl, sym, ap, ◌∙◌, subst}
use Rattle.std.specs.Prelude.{filter}
use Rattle.std.specs.Borrow.{Bor}
use Rattle.std.specs.FinMap as table
use Rattle.std.specs.List.{list_any}
use Rattle.std.proofs.lemmas.Option.{same_Some}
use Rattle.sheet_core.specs.Filled.{StandUnderKeys}
use Rattle.sheet_core.specs.Sheet.{Table}
use Rattle.sheet_core.specs.TableRows.{without_rows}
use Rattle.sheet_core.proofs.Keys.{key_eq, key_eq-self, key_eq-true, keys_exact, keys_total}
use Rattle.sheet_core.proofs.Standing.{Stands, Stands-filtered, Stands-get, any-from, get-Stands}
use Rattle.sheet_core.proofs.TableRows.{get-kept, get-without}
use Rattle.bom_core.specs.Lines.{removed_all}
use Rattle.alloc_core.proofs.Once.{Stands-filter, Stands-passes}

-- whether one of these numbers is the key
abbrev is_one : List ℕ → ℕ → Bool
is_one q n = key_eq q (n ∷ [])

get-removed_all : {X : Type 0} (ns : List ℕ) (t : Table X) (q : List ℕ)
    → table.get (removed_all ns t) q ≡ cond (list_any (is_one q) ns) None (table.get t q)
get-removed_all [] t q = refl
get-removed_all {X} (n ∷ ns) t q =
    get-removed_all ns (table.remove t (n ∷ [])) q
    ∙ ap (λ o. cond (list_any (is_one q) ns) None o) (table.get-remove keys_total t (n ∷ []) q)
    ∙ both (is_one q n) (list_any (is_one q) ns)
  where
    both : (c d : Bool) → cond d None (cond c None (table.get t q)) ≡ cond (c || d) None (table.get t q)
    both true true = refl
    both true false = refl
    both false d = refl

module _ {X : Type 0} where
  any-none : (p : X → Bool) (xs : List X) → ((x : X) → Stands x xs → p x ≡ false) → list_any p xs ≡ false
  any-none p [] all = refl
  any-none p (y ∷ ys) all = ap (λ b. b || list_any p ys) (all y (inl refl)) ∙ any-none p ys (λ x h. all x (inr h))

module _ {X : Type 0} (number : X → ℕ) (test : X → Bool) (t : Table X) (right : StandUnderKeys (λ x. number x ∷ []) t) where
  -- whether one of these stands under the key
  abbrev is_row : List ℕ → X → Bool
  is_row q x = is_one q (number x)

  abbrev gone : List X
  gone = filter test (table.values t)

  any-numbers : (q : List ℕ) (xs : List X) → list_any (is_one q) (map number xs) ≡ list_any (is_row q) xs
  any-numbers q [] = refl
  any-numbers q (x ∷ xs) = ap (λ b. is_row q x || b) (any-numbers q xs)

  -- a row of the list that stands under the key of x is x
  is_it : (q : List ℕ) (x a : X) → table.get t q ≡ Some x → Stands a gone → is_row q a ≡ true → a ≡ x
  is_it q x a e h one =
      let found = Stands-get t a (Stands-filtered test (table.values t) a h) in
      let under : table.get t (number a ∷ []) ≡ Some a =
      subst (λ k. table.get t k ≡ Some a) (right found.0 a found.1) found.1 in
      same_Some a x (sym under ∙ ap (table.get t) (sym (key_eq-true q (number a ∷ []) one)) ∙ e)

  none-left : (q : List ℕ) (o : Option X) → table.get (without_rows test t) q ≡ o → (table.get t q ≡ None) → o ≡ None
  none-left q None f e = refl
  none-left q (Some y) f e = let was = get-without test t q y f in let clash : None ≡ Some y = sym e ∙ was.0 in cc

  is-gone : (q : List ℕ) (x : X) → table.get t q ≡ Some x → test x ≡ true → (o : Option X)
      → table.get (without_rows test t) q ≡ o → o ≡ None
  is-gone q x e passes None f = refl
  is-gone q x e passes (Some y) f =
      let was = get-without test t q y f in
      let clash : true ≡ false = sym passes ∙ ap test (same_Some x y (sym e ∙ was.0)) ∙ was.1 in
      cc

  by_row : (q : List ℕ) (o : Option X) → table.get t q ≡ o
      → cond (list_any (is_row q) gone) None (table.get t q) ≡ table.get (without_rows test t) q
  by_row q None e =
      ap (λ o. cond (list_any (is_row q) gone) None o) e
      ∙ none_either (list_any (is_row q) gone)
      ∙ sym (none-left q (table.get (without_rows test t) q) refl e)
    where
      none_either : (b : Bool) → ◌≡◌ {A = Option X} (cond b None None) None
      none_either true = refl
      none_either false = refl
  by_row q (Some x) e = by_test (test x) refl
    where
      by_test : (b : Bool) → test x ≡ b
          → cond (list_any (is_row q) gone) None (table.get t q) ≡ table.get (without_rows test t) q
      by_test true passes =
          let here =
          any-from (is_row q) gone x (Stands-filter test (table.values t) x (get-Stands t q x e) passes)
          (ap (key_eq q) (sym (right q x e)) ∙ key_eq-self q) in
          ap (λ b. cond b None (table.get t q)) here ∙ sym (is-gone q x e passes (table.get (without_rows test t) q) refl)
      by_test false other =
          let none = any-none (is_row q) gone (λ a h. apart a h (is_row q a) refl) in
          ap (λ b. cond b None (table.get t q)) none ∙ e ∙ sym (get-kept test t q x e other)
        where
          apart : (a : X) → Stands a gone → (b : Bool) → is_row q a ≡ b → b ≡ false
          apart a h false f = refl
          apart a h true f =
              let clash : true ≡ false =
              sym (Stands-passes test (table.values t) a h).1 ∙ ap test (is_it q x a e h f) ∙ other in
              cc

  removed-each : removed_all (map number gone) t ≡ without_rows test t
  removed-each = table.same_map keys_total keys_exact _ _ (λ q.
      get-removed_all (map number gone) t q
      ∙ ap (λ b. cond b None (table.get t q)) (any-numbers q gone)
      ∙ by_row q (table.get t q) refl)

  -- by the numbers of rows that were read
  pub numbers-told : (rows : List (Bor X)) → map (λ r. r.now) rows ≡ gone
      → removed_all (map (λ r. number r.now) rows) t ≡ without_rows test t
  numbers-told rows are =
      ap (λ ns. removed_all ns t) (numbers rows) ∙ ap (λ xs. removed_all (map number xs) t) are ∙ removed-each
    where
      numbers : (xs : List (Bor X)) → map (λ (r : Bor X). number r.now) xs ≡ map number (map (λ (r : Bor X). r.now) xs)
      numbers [] = refl
      numbers (x ∷ xs) = ap (λ l. number x.now ∷ l) (numbers xs)
