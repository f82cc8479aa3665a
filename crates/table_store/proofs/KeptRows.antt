-- The tree of `kept` shows the rows of a sheet in the order of their words, and goes on to do so as rows are added.
use Rattle.std.proofs.Common.{◌≡◌, ℕ, zero, suc, Bool, true, false, cond, List, [], ◌∷◌, map}
use Rattle.std.proofs.Common.{Option, Some, None, refl, sym, ap, subst, ◌∙◌, arith, add-one}
use Rattle.std.specs.Prelude.{IsPermutation, IsSorted}
use Rattle.std.specs.List.{AllByRecursion}
use Rattle.std.specs.declared.cmp.Ordering.{Ordering}
use Rattle.std.specs.declared.cmp.Ordering.TheVariants.{Less, Equal, Greater}
use Rattle.std.specs.Ordering.{is_eq, is_lt, match_ordering, ordering_reverse}
use Rattle.std.specs.FinMap.{entries, entries_sorted, entries-insert, values, get, get-entries, insert}
use Rattle.std.specs.FinMap.Entries.{put, find, by_order, below_all, is_sorted}
use Rattle.std.proofs.lemmas.Bool.{or_parts}
use Rattle.std.proofs.lemmas.List.Sorted.{IsPermutation-refl, IsPermutation-sym, IsPermutation-trans}
use Rattle.std.proofs.lemmas.List.Sorted.{IsPermutation-cons, IsPermutation-map, IsPermutation-middle}
use Rattle.sqlite.specs.declared.types.Value.TheVariants.{Int, Text as Words}
use Rattle.sqlite.specs.Order.{Row, column, value_cmp}
use Rattle.sqlite.specs.Collation.TheVariants.{Binary}
use Rattle.sqlite.specs.Edit.{next_rowid}
use Rattle.sqlite.specs.Tree.{rowid, IsAscending, put_row}
use Rattle.sqlite_rules.specs.Edit.{is_taken}
use Rattle.sqlite_rules.specs.declared.error.Rowids.TheVariants.{Chosen}
use Rattle.sqlite_rules.proofs.PlaceLemmas.{next_is_free}
use Rattle.sqlite_sql.specs.Query.{key_cmp as row_key_cmp}
use Rattle.sqlite_trees.specs.View.{IsShaped}
use Rattle.sqlite_trees.specs.declared.store.Shape.TheVariants.{Table as TableShape}
use Rattle.sqlite_value.specs.Keys.{ascending}
use Rattle.sqlite_value.proofs.OrderLemmas.{value_cmp-Text, then-Equal}
use Rattle.sheet_core.specs.Filled.{StandUnderKeys}
use Rattle.sheet_core.specs.Sheet.{Table, key_cmp}
use Rattle.sheet_core.specs.declared.column.Column.{Column}
use Rattle.sheet_core.proofs.Conditions.{and_parts}
use Rattle.sheet_core.proofs.Keys.{key_eq, keys_total}
use Rattle.table_store.specs.Stored.{value_of, values_of}
use Rattle.table_store.specs.Values.{shown_row, with_row}
use Rattle.table_store.specs.Written.{Holds, SuitKept}
use Rattle.table_store.specs.declared.name.TableName.TheVariants.{Kept}
use Rattle.table_store.proofs.Holding.{entries-own, is-T, shown-kept}

-- ---- what is put where nothing stands

-- a row under a rowid of its own
put-permutes : (new : Row) (rows : List Row) → is_taken rows new ≡ false → IsPermutation (put_row new rows) (new ∷ rows)
put-permutes new [] free = IsPermutation-refl (new ∷ [])
put-permutes new (r ∷ rows) free =
    let parts = or_parts (is_eq (value_cmp (rowid r) (rowid new))) (is_taken rows new) free in
    go (value_cmp (rowid r) (rowid new)) parts.0 (put-permutes new rows parts.1)
  where
    go : (o : Ordering) → is_eq o ≡ false → IsPermutation (put_row new rows) (new ∷ rows)
        → IsPermutation (match_ordering o (r ∷ put_row new rows) (new ∷ rows) (new ∷ r ∷ rows)) (new ∷ r ∷ rows)
    go Less e ih = IsPermutation-trans _ _ _ (IsPermutation-cons r _ _ ih) (IsPermutation-middle (r ∷ []) new rows)
    go Equal e ih = cc
    go Greater e ih = IsPermutation-refl _

module _ {X : Type 0} where
  not-found : (b : Bool) (x : X) (o : Option X) → cond b (Some x) o ≡ None → (b ≡ false) × (o ≡ None)
  not-found true x o e = cc
  not-found false x o e = (refl, e)

  -- an entry under a key of its own
  entry-permutes : (k : List ℕ) (x : X) (es : List (List ℕ × X)) → find key_cmp k es ≡ None
      → IsPermutation (put key_cmp k x es) ((k, x) ∷ es)
  entry-permutes k x [] none = IsPermutation-refl _
  entry-permutes k x (e ∷ es) none =
      let parts = not-found (key_eq k e.0) e.1 (find key_cmp k es) none in
      go (key_cmp k e.0) parts.0 (entry-permutes k x es parts.1)
    where
      go : (o : Ordering) → is_eq o ≡ false → IsPermutation (put key_cmp k x es) ((k, x) ∷ es)
          → IsPermutation (by_order o ((k, x) ∷ e ∷ es) ((e.0, x) ∷ es) (e ∷ put key_cmp k x es)) ((k, x) ∷ e ∷ es)
      go Less is ih = IsPermutation-refl _
      go Equal is ih = cc
      go Greater is ih =
          IsPermutation-trans _ _ _ (IsPermutation-cons e _ _ ih) (IsPermutation-middle (e ∷ []) (k, x) es)

-- ---- rows in the order of their words

-- a list is sorted where no element is less than an earlier one
sorted-from : {X : Type 0} (cmp : X → X → Ordering) (xs : List X) → IsAscending (λ a b. is_lt (cmp b a) ≡ false) xs
    → IsSorted cmp xs
sorted-from cmp [] up k d p q = absurd (omega arith)
sorted-from cmp (x ∷ []) up k d p q = absurd (omega arith)
sorted-from cmp (x ∷ y ∷ xs) up zero d p q = up.0.0
sorted-from cmp (x ∷ y ∷ xs) up (suc k) d p q =
    rw add-one (rw add-one at (sorted-from cmp (y ∷ xs) up.1 k d (omega arith) (omega arith)))

-- a row that is shown, with its word
abbrev paired : Row → Row × Row
paired r = (column r 0 ∷ [], r)

abbrev word_cmp : Row × Row → Row × Row → Ordering
word_cmp a b = row_key_cmp 0 (ascending Binary ∷ []) a.0 b.0

shown-pairs : (tree : List Row)
    → map (λ r. (column r 1 ∷ [], shown_row Kept r)) tree ≡ map paired (map (shown_row Kept) tree)
shown-pairs [] = refl
shown-pairs (r ∷ tree) = ap (λ (ps : List (Row × Row)). paired (shown_row Kept r) ∷ ps) (shown-pairs tree)

paired-rows : (rows : List Row) → rows ≡ map (λ (p : Row × Row). p.1) (map paired rows)
paired-rows [] = refl
paired-rows (r ∷ rows) = ap (λ (rs : List Row). r ∷ rs) (paired-rows rows)

not-less : (o : Ordering) → is_lt o ≡ true → is_lt (ordering_reverse o) ≡ false
not-less Less e = refl
not-less Equal e = cc
not-less Greater e = cc

module _ {X : Type 0} (columns : X → List Column) (key_of : X → List ℕ) (suits : SuitKept columns key_of) where
  abbrev tells : X → Row
  tells = values_of columns

  abbrev listed : List (List ℕ × X) → List (Row × Row)
  listed es = map paired (map tells (map (λ e. e.1) es))

  word : (x : X) → column (tells x) 0 ≡ Words (key_of x)
  word x = ap (λ (cs : List Column). column (map value_of cs) 0) (suits.words x).1

  words-compare : (x y : X) → word_cmp (paired (tells x)) (paired (tells y)) ≡ key_cmp (key_of x) (key_of y)
  words-compare x y =
      rw (word x, word y)
      (then-Equal (value_cmp (Words (key_of x)) (Words (key_of y))) ∙ value_cmp-Text (key_of x) (key_of y))

  module _ (e : List ℕ × X) (own : e.0 ≡ key_of e.1) where
    later : (es : List (List ℕ × X)) → AllByRecursion (λ f. f.0 ≡ key_of f.1) es → below_all key_cmp e.0 es ≡ true
        → AllByRecursion (λ q. is_lt (word_cmp q (paired (tells e.1))) ≡ false) (listed es)
    later [] owns below = tt
    later (f ∷ fs) owns below =
        let parts = and_parts (is_lt (key_cmp e.0 f.0)) (below_all key_cmp e.0 fs) below in (
          ap is_lt (words-compare f.1 e.1
              ∙ keys_total.antisymm (key_of f.1) (key_of e.1)
              ∙ ap (λ k. ordering_reverse (key_cmp k (key_of f.1))) (sym own)
              ∙ ap (λ k. ordering_reverse (key_cmp e.0 k)) (sym owns.0))
              ∙ not-less (key_cmp e.0 f.0) parts.0,
          later fs owns.1 parts.1,
        )

  rising : (es : List (List ℕ × X)) → AllByRecursion (λ f. f.0 ≡ key_of f.1) es → is_sorted key_cmp es ≡ true
      → IsAscending (λ a b. is_lt (word_cmp b a) ≡ false) (listed es)
  rising [] owns sorted = tt
  rising (e ∷ es) owns sorted =
      let parts = and_parts (below_all key_cmp e.0 es) (is_sorted key_cmp es) sorted in
      (later e owns.0 es owns.1 parts.0, rising es owns.1 parts.1)

  -- a load shows the rows of a sheet exactly where the tree has them, in any order
  shown-rows : (tree : List Row) (rows : Table X) → Holds columns Kept tree rows
      → IsPermutation (map (shown_row Kept) tree) (map tells (values rows))
  shown-rows tree rows holds =
      subst (IsPermutation (map (shown_row Kept) tree)) (sym holds.shown_are)
      (subst (λ (rs : List Row). IsPermutation rs (map (λ (p : Row × Row). p.1) holds.pairs))
      (ap (map (λ (p : Row × Row). p.1)) (shown-pairs tree) ∙ sym (paired-rows (map (shown_row Kept) tree)))
      (IsPermutation-map (λ (p : Row × Row). p.1) _ _ holds.same))

  rows-shown : (tree : List Row) (rows : Table X) → StandUnderKeys key_of rows
      → IsPermutation (map (shown_row Kept) tree) (map tells (values rows)) → Holds columns Kept tree rows
  rows-shown tree rows own same = record {
    pairs = map paired (map tells (values rows));
    same =
        subst (λ (ps : List (Row × Row)). IsPermutation ps (map paired (map tells (values rows))))
        (sym (shown-pairs tree)) (IsPermutation-map paired _ _ same);
    sorted =
        sorted-from word_cmp (map paired (map tells (values rows)))
        (rising (entries rows) (entries-own key_of rows own) (is-T _ (entries_sorted rows)));
    shown_are = paired-rows (map tells (values rows));
  }

  -- a row that is added under a word of its own
  pub holds-added : (tree : List Row) (rows : Table X) → IsShaped TableShape tree → StandUnderKeys key_of rows
      → Holds columns Kept tree rows
      → (x : X) → get rows (key_of x) ≡ None → StandUnderKeys key_of (insert rows (key_of x) x)
      → Holds columns Kept (with_row Kept (tells x) tree) (insert rows (key_of x) x)
  holds-added tree rows shaped own holds x none owned =
      let new : Row = Int (next_rowid tree) ∷ tells x in
      let free = next_is_free Chosen tree (tells x) shaped.0 shaped.1 in
      let put-first = IsPermutation-map (shown_row Kept) _ _ (put-permutes new tree free) in
      let first : shown_row Kept new ≡ tells x = shown-kept (next_rowid tree) (tells x) (suits.fits x) in
      let there =
      subst (λ (r : Row). IsPermutation (map (shown_row Kept) (put_row new tree)) (r ∷ map (shown_row Kept) tree)) first
      put-first in
      let both = IsPermutation-cons (tells x) _ _ (shown-rows tree rows holds) in
      let entry =
      IsPermutation-map (λ (e : List ℕ × X). tells e.1) _ _
      (entry-permutes (key_of x) x (entries rows) (sym (get-entries rows (key_of x)) ∙ none)) in
      rows-shown (put_row new tree) (insert rows (key_of x) x) owned
      (IsPermutation-trans _ _ _ there
      (IsPermutation-trans _ _ _ both
      (IsPermutation-sym _ _
      (subst
      (λ (es : List (List ℕ × X)). IsPermutation (map tells (map (λ e. e.1) es)) (tells x ∷ map tells (values rows)))
      (sym (entries-insert keys_total rows (key_of x) x)) (joined x (entries rows) entry)))))
    where
      twice : (es : List (List ℕ × X)) → map tells (map (λ e. e.1) es) ≡ map (λ (e : List ℕ × X). tells e.1) es
      twice [] = refl
      twice (e ∷ es) = ap (λ (rs : List Row). tells e.1 ∷ rs) (twice es)

      joined : (x : X) (es : List (List ℕ × X))
          → IsPermutation (map (λ (e : List ℕ × X). tells e.1) (put key_cmp (key_of x) x es))
          (tells x ∷ map (λ (e : List ℕ × X). tells e.1) es)
          → IsPermutation (map tells (map (λ e. e.1) (put key_cmp (key_of x) x es)))
          (tells x ∷ map tells (map (λ e. e.1) es))
      joined x es h =
          subst (λ (rs : List Row). IsPermutation rs (tells x ∷ map tells (map (λ e. e.1) es)))
          (sym (twice (put key_cmp (key_of x) x es)))
          (subst (λ (rs : List Row).
          IsPermutation (map (λ (e : List ℕ × X). tells e.1) (put key_cmp (key_of x) x es)) (tells x ∷ rs))
          (sym (twice es)) h)
