-- Changes of items that leave the outputs of builds as they are.
use Rattle.std.proofs.Common.{◌≡◌, ℕ, ◌+◌, Bool, true, false, List, [], ◌∷◌, Option}
use Rattle.std.proofs.Common.{Some, None, refl, sym, ap, ◌∙◌, arith, eqb-true}
use Rattle.std.specs.Prelude.{◌==◌, if◌then◌else◌, sum_by, unwrap_or}
use Rattle.std.specs.FinMap as table
use Rattle.std.proofs.lemmas.List.Sums.{sum_by-cons}
use Rattle.sheet_core.specs.Sheet.{Table}
use Rattle.sheet_core.proofs.Totals.{sum-insert_new}
use Rattle.forest.specs.declared.item.Item.{Item}
use Rattle.forest.specs.declared.place.Place.{Place}
use Rattle.forest.specs.declared.place.Place.TheVariants.{At, In, Output, Sent, Used, Off, Gone}
use Rattle.forest.specs.Rows.{is_output_of, row_at, set_row}
use Rattle.yard_core.specs.Stock.{IsItemTable, keyed, no_item}
use Rattle.yard_core.proofs.Rows.{get-other, get-own, get-row_at, values-changed}
use Rattle.yard_core.specs.Outputs.{LeavesOutputs, amount_out, amounts, is_output, place_at}

abbrev place_of : Option Item → Place
place_of o = (unwrap_or o no_item).place

pub leaves-none : (t : Table Item) → LeavesOutputs t t
leaves-none t = record { was = λ k build e. refl; stays = λ k build e. refl; sums = λ n. refl }

pub leaves-more : (t u v : Table Item) → LeavesOutputs t u → LeavesOutputs u v → LeavesOutputs t v
leaves-more t u v first second = record {
  was = λ k build e. let one = second.was k build e in one ∙ first.was k build (ap place_of (sym one) ∙ e);
  stays = λ k build e. let one = first.stays k build e in second.stays k build (ap place_of one ∙ e) ∙ one;
  sums = λ n. second.sums n ∙ first.sums n;
}

-- ---- a row

pub none-out : (n : ℕ) (x : Item) → is_output x.place ≡ false → amount_out n x ≡ 0
none-out n x e = go x.place e
  where
    go : (q : Place) → is_output q ≡ false → (if is_output_of n q then x.quantity else 0) ≡ 0
    go (At l) e = refl
    go (In l) e = refl
    go (Output l) e = cc
    go (Sent l) e = refl
    go (Used l) e = refl
    go (Off l) e = refl
    go Gone e = refl

sum-set_row : (f : Item → ℕ) (x old : Item) (xs : List Item) → row_at x.number xs ≡ Some old
    → sum_by f (set_row x xs) + f old ≡ sum_by f xs + f x
sum-set_row f x old [] e = cc
sum-set_row f x old (y ∷ ys) e = go (y.number == x.number) e (sum-set_row f x old ys)
  where
    go : (b : Bool) → (if b then Some y else row_at x.number ys) ≡ Some old
        → (row_at x.number ys ≡ Some old → sum_by f (set_row x ys) + f old ≡ sum_by f ys + f x)
        → sum_by f (if b then x ∷ ys else y ∷ set_row x ys) + f old ≡ sum_by f (y ∷ ys) + f x
    go true e ih = let same : y ≡ old = cc in omega (arith, sum_by-cons f x ys, sum_by-cons f y ys, ap f same)
    go false e ih = omega (arith, ih e, sum_by-cons f y (set_row x ys), sum_by-cons f y ys)

-- another row in the place of one: so much comes, and so much goes
sum-put : (n : ℕ) (x old : Item) (t : Table Item) → table.entries t ≡ keyed (λ i. i.number) (table.values t)
    → table.get t (x.number ∷ []) ≡ Some old
    → amounts n (table.insert t (x.number ∷ []) x) + amount_out n old ≡ amounts n t + amount_out n x
sum-put n x old t own is =
    ap (λ xs. sum_by (amount_out n) xs + amount_out n old) (values-changed x old t own is)
    ∙ sum-set_row (amount_out n) x old (table.values t) (sym (get-row_at t x.number own) ∙ is)

pub sum-changed : (n : ℕ) (x old : Item) (t : Table Item) → IsItemTable t → table.get t (x.number ∷ []) ≡ Some old
    → amounts n (table.insert t (x.number ∷ []) x) + amount_out n old ≡ amounts n t + amount_out n x
sum-changed n x old t h is = sum-put n x old t h.own is

module _ (x : Item) (t : Table Item) (out : is_output x.place ≡ false) where
  abbrev u : Table Item
  u = table.insert t (x.number ∷ []) x

  clash : (build : ℕ) (q : Place) → is_output q ≡ false → q ≡ Output build → ⊥
  clash build q e f = let both : false ≡ true = sym e ∙ ap is_output f in cc

  row-was : (k build : ℕ) → place_at k u ≡ Output build → table.get u (k ∷ []) ≡ table.get t (k ∷ [])
  row-was k build e = go (x.number == k) refl
    where
      go : (c : Bool) → (x.number == k) ≡ c → table.get u (k ∷ []) ≡ table.get t (k ∷ [])
      go true same =
          let is : table.get u (k ∷ []) ≡ Some x =
          ap (λ j. table.get u (j ∷ [])) (sym (eqb-true x.number k same)) ∙ get-own x.number x t in
          absurd (clash build x.place out (sym (ap place_of is) ∙ e))
      go false other = get-other x.number k x t other

  -- a row comes that is no output
  pub leaves-new : table.get t (x.number ∷ []) ≡ None → LeavesOutputs t u
  leaves-new new = record {
    was = row-was;
    stays = λ k build e. stays k build e (x.number == k) refl;
    sums =
        λ n.
        (let more = sum-insert_new (amount_out n) t (x.number ∷ []) x new in omega (arith, more, none-out n x out));
  }
    where
      stays : (k build : ℕ) → place_at k t ≡ Output build → (c : Bool) → (x.number == k) ≡ c
          → table.get u (k ∷ []) ≡ table.get t (k ∷ [])
      stays k build e true same =
          let none : table.get t (k ∷ []) ≡ None =
          ap (λ j. table.get t (j ∷ [])) (sym (eqb-true x.number k same)) ∙ new in
          absurd (clash build (place_of None) refl (sym (ap place_of none) ∙ e))
      stays k build e false other = get-other x.number k x t other

  -- a row in the place of one that was no output, either
  pub leaves-kept : (old : Item) → table.entries t ≡ keyed (λ i. i.number) (table.values t)
      → table.get t (x.number ∷ []) ≡ Some old → is_output old.place ≡ false → LeavesOutputs t u
  leaves-kept old own is old_out = record {
    was = row-was;
    stays = λ k build e. stays k build e (x.number == k) refl;
    sums = λ n. omega (arith, sum-put n x old t own is, none-out n x out, none-out n old old_out);
  }
    where
      stays : (k build : ℕ) → place_at k t ≡ Output build → (c : Bool) → (x.number == k) ≡ c
          → table.get u (k ∷ []) ≡ table.get t (k ∷ [])
      stays k build e true same =
          let here : table.get t (k ∷ []) ≡ Some old =
          ap (λ j. table.get t (j ∷ [])) (sym (eqb-true x.number k same)) ∙ is in
          absurd (clash build old.place old_out (sym (ap place_of here) ∙ e))
      stays k build e false other = get-other x.number k x t other

  pub leaves-changed : (old : Item) → IsItemTable t → table.get t (x.number ∷ []) ≡ Some old
      → is_output old.place ≡ false → LeavesOutputs t u
  leaves-changed old h is old_out = leaves-kept old h.own is old_out
