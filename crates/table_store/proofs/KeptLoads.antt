-- The rows of `kept` that a load shows are those of the table where no word stands twice.
use Rattle.std.proofs.Common.{◌≡◌, ℕ, List, [], ◌∷◌, map, Option, Ordering, refl, sym, ap, subst, ◌∙◌}
use Rattle.std.specs.Prelude.{IsPermutation}
use Rattle.std.specs.Cmp.{IsTotalOrder}
use Rattle.std.specs.List.{AllByRecursion}
use Rattle.std.specs.declared.cmp.Ordering.TheVariants.{Less}
use Rattle.std.specs.FinMap.{values}
use Rattle.std.proofs.lemmas.List.Sorted.{IsPermutation-map, IsPermutation-sym, IsPermutation-trans}
use Rattle.sqlite.specs.declared.types.Value.TheVariants.{Text as Words}
use Rattle.sqlite.specs.Order.{Row, column, value_cmp}
use Rattle.sqlite.specs.Collation.TheVariants.{Binary}
use Rattle.sqlite.specs.Tree.{IsAscending}
use Rattle.sqlite_keyed.proofs.SortLemmas.{sorted_unique}
use Rattle.sqlite_sql.specs.Query.{key_cmp as row_key_cmp}
use Rattle.sqlite_sql.proofs.QueryLemmas.{key_cmp_total as row_key_cmp_total}
use Rattle.sqlite_value.specs.Keys.{ascending}
use Rattle.sqlite_value.proofs.OrderLemmas.{value_cmp-Text, then-Equal}
use Rattle.sheet_core.specs.Sheet.{key_cmp}
use Rattle.sheet_core.specs.declared.column.Column.{Column}
use Rattle.table_store.specs.Stored.{value_of, values_of, AreLoaded}
use Rattle.table_store.specs.Values.{IsByWord, shown_row}
use Rattle.table_store.specs.Written.{AreItsRows, IsTableOfNoneOwn, RowsRise, SuitKept}
use Rattle.table_store.specs.declared.name.TableName.TheVariants.{Kept}
use Rattle.table_store.proofs.Fillings.{values-filled}
use Rattle.table_store.proofs.Loads.{its-rows, loaded-again, loaded-permutes, values-rise}

-- ---- two loads of one tree

-- the words of rows that are shown, or whatever stands first in them, rise
abbrev RiseByWord : List Row → Type 0
RiseByWord = IsAscending (λ a b. value_cmp (column a 0) (column b 0) ≡ Less)

-- a row that is shown, with its word
abbrev paired : Row → Row × Row
paired r = (column r 0 ∷ [], r)

abbrev word_cmp : Row × Row → Row × Row → Ordering
word_cmp a b = row_key_cmp 0 (ascending Binary ∷ []) a.0 b.0

word_cmp_total : IsTotalOrder word_cmp
word_cmp_total =
    let total = row_key_cmp_total (ascending Binary ∷ []) 0 in
    record {
      antisymm = λ a b. total.antisymm a.0 b.0;
      trans = λ a b c. total.trans a.0 b.0 c.0;
      congr = λ a b c. total.congr a.0 b.0 c.0;
    }

pairs-compare : (a b : Row) → word_cmp (paired a) (paired b) ≡ value_cmp (column a 0) (column b 0)
pairs-compare a b = then-Equal (value_cmp (column a 0) (column b 0))

pairs-above : (r : Row) (rows : List Row) → AllByRecursion (λ q. value_cmp (column r 0) (column q 0) ≡ Less) rows
    → AllByRecursion (λ p. word_cmp (paired r) p ≡ Less) (map paired rows)
pairs-above r [] h = tt
pairs-above r (q ∷ rows) h = (pairs-compare r q ∙ h.0, pairs-above r rows h.1)

pairs-rise : (rows : List Row) → RiseByWord rows → IsAscending (λ a b. word_cmp a b ≡ Less) (map paired rows)
pairs-rise [] h = tt
pairs-rise (r ∷ rows) h = (pairs-above r rows h.0, pairs-rise rows h.1)

tree-pairs : (tree : List Row)
    → map (λ r. (column r 1 ∷ [], shown_row Kept r)) tree ≡ map paired (map (shown_row Kept) tree)
tree-pairs [] = refl
tree-pairs (r ∷ tree) = ap (λ (ps : List (Row × Row)). paired (shown_row Kept r) ∷ ps) (tree-pairs tree)

shown-again : (rows : List Row) → map (λ (p : Row × Row). p.1) (map paired rows) ≡ rows
shown-again [] = refl
shown-again (r ∷ rows) = ap (λ (rs : List Row). r ∷ rs) (shown-again rows)

-- where the words of one rise, the other shows no other rows
once-by-word : (tree first second : List Row) → IsByWord tree first → IsByWord tree second → RiseByWord first
    → second ≡ first
once-by-word tree first second a b rise =
    let here : IsPermutation (map (λ r. (column r 1 ∷ [], shown_row Kept r)) tree) (map paired first) =
    subst (λ (ps : List (Row × Row)). IsPermutation ps (map paired first)) (sym (tree-pairs tree))
    (IsPermutation-map paired _ _ (loaded-permutes Kept tree first a)) in
    let same = IsPermutation-trans _ _ _ (IsPermutation-sym _ _ here) b.same in
    b.shown_are
    ∙ ap (map (λ (p : Row × Row). p.1))
    (sorted_unique word_cmp word_cmp_total (map paired first) b.pairs (pairs-rise first rise) same b.sorted)
    ∙ shown-again first

-- ---- rows of the machine

module _ {X : Type 0} (row_from : List Column → Option X) (columns : X → List Column) (key_of : X → List ℕ)
    (suits : SuitKept columns key_of) where
  word-is : (x : X) → column (values_of columns x) 0 ≡ Words (key_of x)
  word-is x = ap (λ (cs : List Column). column (map value_of cs) 0) (suits.words x).1

  words-compare : (x y : X)
      → value_cmp (column (values_of columns x) 0) (column (values_of columns y) 0) ≡ key_cmp (key_of x) (key_of y)
  words-compare x y = rw (word-is x, word-is y) (value_cmp-Text (key_of x) (key_of y))

  told-rise : (xs : List X) → RowsRise key_of xs → RiseByWord (map (values_of columns) xs)
  told-rise [] h = tt
  told-rise (x ∷ xs) h = (each xs h.0, told-rise xs h.1)
    where
      each : (ys : List X) → AllByRecursion (λ y. key_cmp (key_of x) (key_of y) ≡ Less) ys → AllByRecursion
          (λ q. value_cmp (column (values_of columns x) 0) (column q 0) ≡ Less) (map (values_of columns) ys)
      each [] h = tt
      each (y ∷ ys) h = (words-compare x y ∙ h.0, each ys h.1)

  rows-rise : (xs : List X) → RiseByWord (map (values_of columns) xs) → RowsRise key_of xs
  rows-rise [] h = tt
  rows-rise (x ∷ xs) h = (each xs h.0, rows-rise xs h.1)
    where
      each : (ys : List X) → AllByRecursion (λ q. value_cmp (column (values_of columns x) 0) (column q 0) ≡ Less)
          (map (values_of columns) ys) → AllByRecursion (λ y. key_cmp (key_of x) (key_of y) ≡ Less) ys
      each [] h = tt
      each (y ∷ ys) h = (sym (words-compare x y) ∙ h.0, each ys h.1)

  module _ (tree : List Row) (rows : List X) (it : AreLoaded row_from columns Kept tree rows) where
    loaded : IsByWord tree (map (values_of columns) rows)
    loaded = subst (IsByWord tree) it.same it.loaded

    pub kept-are : RowsRise key_of rows → AreItsRows row_from columns key_of Kept tree rows
    kept-are rise =
        its-rows row_from columns key_of Kept tree rows loaded (loaded-again row_from columns Kept tree rows it)
        (values-filled key_of rows rise)
        (λ t own holds.
        once-by-word tree (map (values_of columns) rows) (map (values_of columns) (values t)) loaded holds
        (told-rise rows rise))

    -- a tree with a word that stands twice is the table of no rows that stand under their words
    pub repeated-none : ¬ RowsRise key_of rows → IsTableOfNoneOwn row_from columns key_of Kept tree
    repeated-none falls t own is =
        let rise = told-rise (values t) (values-rise key_of t own) in
        falls (rows-rise rows (subst RiseByWord
        (sym (once-by-word tree (map (values_of columns) (values t)) (map (values_of columns) rows) is.holds loaded rise))
        rise))
