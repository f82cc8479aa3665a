-- Sums and tests over a table's rows, after a row is put or removed, and over rows with distinct keys in any order.
use Rattle.std.proofs.Common.{◌≡◌, ℕ, ◌+◌, Bool, true, false, cond, ◌||◌, suc, length, is_some}
use Rattle.std.proofs.Common.{List, [], ◌∷◌, map, Option, Some, None, refl, sym, ap, ◌∙◌, arith}
use Rattle.std.specs.Prelude.{sum_by}
use Rattle.std.specs.List.{list_any}
use Rattle.std.proofs.lemmas.List.Sums.{sum_by-cons}
use Rattle.std.proofs.lemmas.List.{nil_from_length}
use Rattle.std.specs.declared.cmp.Ordering.TheVariants.{Less, Equal, Greater}
use Rattle.std.specs.Ordering.{is_eq}
use Rattle.std.specs.FinMap as table
use Rattle.std.specs.FinMap.Entries.{put, by_order}
use Rattle.sheet_core.specs.Sheet.{key_cmp, IsDistinct, Table, table_of}
use Rattle.sheet_core.proofs.Keys.{key_eq, key_eq-self, key_eq-true, keys_exact, keys_total}
use Rattle.sheet_core.proofs.Entries.{find_in, get-absent, remove-absent}

or_turn : (a b c : Bool) → (a || (b || c)) ≡ (b || (a || c))
or_turn true true c = refl
or_turn true false c = refl
or_turn false b c = refl

module _ {X : Type 0} where
  abbrev pub of_rows : List (List ℕ × X) → List X
  of_rows = map (λ e. e.1)

  pub entries-empty : table.entries (table.empty {X = X} {R = key_cmp}) ≡ []
  entries-empty =
      nil_from_length _ (sym (table.len-entries (table.empty {X = X} {R = key_cmp})) ∙ table.len-empty key_cmp X)

  pub get-removed : (m : Table X) (k : List ℕ) → table.get (table.remove m k) k ≡ None
  get-removed m k =
      table.get-remove keys_total m k k ∙ ap (λ b. cond b None (table.get m k)) (key_eq-self k)

  -- a row may be put anew once what stood under its key is gone
  pub anew : (m : Table X) (k : List ℕ) (v : X) → table.insert m k v ≡ table.insert (table.remove m k) k v
  anew m k v =
      table.same_map keys_total keys_exact _ _ (λ q.
      table.get-insert keys_total m k v q
      ∙ by (key_eq q k) (table.get m q)
      ∙ ap (λ o. cond (key_eq q k) (Some v) o) (sym (table.get-remove keys_total m k q))
      ∙ sym (table.get-insert keys_total (table.remove m k) k v q))
    where
      by : (b : Bool) (o : Option X) → cond b (Some v) o ≡ cond b (Some v) (cond b None o)
      by true o = refl
      by false o = refl

  -- a row that is put where it stands changes nothing
  pub insert-same : (m : Table X) (k : List ℕ) (x : X) → table.get m k ≡ Some x → table.insert m k x ≡ m
  insert-same m k x e =
      table.same_map keys_total keys_exact _ _ (λ q.
      table.get-insert keys_total m k x q ∙ by q (key_eq q k) refl)
    where
      by : (q : List ℕ) (b : Bool) → key_eq q k ≡ b → cond b (Some x) (table.get m q) ≡ table.get m q
      by q true y = sym (ap (table.get m) (key_eq-true q k y) ∙ e)
      by q false y = refl

  module _ (f : X → ℕ) where
    sum-put : (k : List ℕ) (v : X) (es : List (List ℕ × X)) → find_in k es ≡ None
        → sum_by f (of_rows (put key_cmp k v es)) ≡ f v + sum_by f (of_rows es)
    sum-put k v [] none = sum_by-cons f v []
    sum-put k v (e ∷ es) none =
        elim (key_cmp k e.0) as (λ r. key_cmp k e.0 ≡ r → cond (is_eq r) (Some e.1) (find_in k es) ≡ None
        → sum_by f (of_rows (by_order r ((k, v) ∷ e ∷ es) ((e.0, v) ∷ es) (e ∷ put key_cmp k v es)))
        ≡ f v + sum_by f (of_rows (e ∷ es))) [
          | Less ↦ λ p n. sum_by-cons f v (of_rows (e ∷ es))
          | Equal ↦ λ p n. cc
          | Greater ↦ λ p n. omega (
            arith,
            sum-put k v es n,
            sum_by-cons f e.1 (of_rows (put key_cmp k v es)),
            sum_by-cons f e.1 (of_rows es),
          )
        ] refl none

    -- a row under a new key adds its share
    pub sum-insert_new : (m : Table X) (k : List ℕ) (v : X) → table.get m k ≡ None
        → sum_by f (table.values (table.insert m k v)) ≡ f v + sum_by f (table.values m)
    sum-insert_new m k v none =
        ap (λ es. sum_by f (of_rows es)) (table.entries-insert keys_total m k v)
        ∙ sum-put k v (table.entries m) (sym (table.get-entries m k) ∙ none)

    pub sum-of_rows : (es : List (List ℕ × X)) → IsDistinct es
        → sum_by f (table.values (table_of es)) ≡ sum_by f (of_rows es)
    sum-of_rows [] d = ap (λ (es : List (List ℕ × X)). sum_by f (of_rows es)) entries-empty
    sum-of_rows (e ∷ es) d =
        sum-insert_new (table_of es) e.0 e.1 (get-absent es e.0 d.0)
        ∙ ap (λ n. f e.1 + n) (sum-of_rows es d.1)
        ∙ sym (sum_by-cons f e.1 (of_rows es))

    -- what a row or none adds
    abbrev pub of_option : Option X → ℕ
    of_option None = 0
    of_option (Some x) = f x

    -- a row that is put adds its share to those of the rows under other keys
    pub sum-insert : (m : Table X) (k : List ℕ) (v : X)
        → sum_by f (table.values (table.insert m k v)) ≡ f v + sum_by f (table.values (table.remove m k))
    sum-insert m k v =
        ap (λ t. sum_by f (table.values t)) (anew m k v) ∙ sum-insert_new (table.remove m k) k v (get-removed m k)

    -- with what stands under a key they are all
    pub sum-remove : (m : Table X) (k : List ℕ)
        → of_option (table.get m k) + sum_by f (table.values (table.remove m k)) ≡ sum_by f (table.values m)
    sum-remove m k =
        elim (table.get m k) as (λ o. table.get m k ≡ o
        → of_option o + sum_by f (table.values (table.remove m k)) ≡ sum_by f (table.values m)) [
          | None ↦ λ e. let same = ap (λ t. sum_by f (table.values t)) (remove-absent m k e) in omega (arith, same)
          | Some x ↦ λ e. sym (sum-insert m k x) ∙ ap (λ t. sum_by f (table.values t)) (insert-same m k x e)
        ] refl

  module _ (p : X → Bool) where
    any-put : (k : List ℕ) (v : X) (es : List (List ℕ × X)) → find_in k es ≡ None
        → list_any p (of_rows (put key_cmp k v es)) ≡ (p v || list_any p (of_rows es))
    any-put k v [] none = refl
    any-put k v (e ∷ es) none =
        elim (key_cmp k e.0) as (λ r. key_cmp k e.0 ≡ r → cond (is_eq r) (Some e.1) (find_in k es) ≡ None
        → list_any p (of_rows (by_order r ((k, v) ∷ e ∷ es) ((e.0, v) ∷ es) (e ∷ put key_cmp k v es)))
        ≡ (p v || list_any p (of_rows (e ∷ es)))) [
          | Less ↦ λ q n. refl
          | Equal ↦ λ q n. cc
          | Greater ↦ λ q n. ap (λ b. p e.1 || b) (any-put k v es n) ∙ or_turn (p e.1) (p v) (list_any p (of_rows es))
        ] refl none

    pub any-insert_new : (m : Table X) (k : List ℕ) (v : X) → table.get m k ≡ None
        → list_any p (table.values (table.insert m k v)) ≡ (p v || list_any p (table.values m))
    any-insert_new m k v none =
        ap (λ es. list_any p (of_rows es)) (table.entries-insert keys_total m k v)
        ∙ any-put k v (table.entries m) (sym (table.get-entries m k) ∙ none)

    -- a test over the rows in any order
    pub any-of_rows : (es : List (List ℕ × X)) → IsDistinct es
        → list_any p (table.values (table_of es)) ≡ list_any p (of_rows es)
    any-of_rows [] d = ap (λ (es : List (List ℕ × X)). list_any p (of_rows es)) entries-empty
    any-of_rows (e ∷ es) d =
        any-insert_new (table_of es) e.0 e.1 (get-absent es e.0 d.0) ∙ ap (λ b. p e.1 || b) (any-of_rows es d.1)

  -- how many rows a table has
  pub len-of_rows : (es : List (List ℕ × X)) → IsDistinct es → table.len (table_of es) ≡ length es
  len-of_rows [] d = table.len-empty key_cmp X
  len-of_rows (e ∷ es) d =
      table.len-insert keys_total (table_of es) e.0 e.1
      ∙ ap (λ (o : Option X). cond (is_some o) (table.len (table_of es)) (table.len (table_of es) + 1))
      (get-absent es e.0 d.0)
      ∙ ap (λ n. n + 1) (len-of_rows es d.1) ∙ plus_one (length es)
    where
      plus_one : (n : ℕ) → n + 1 ≡ suc n
      plus_one n = omega arith
