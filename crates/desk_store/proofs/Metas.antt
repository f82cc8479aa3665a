-- The one row of `meta`.
use Rattle.std.proofs.Common.{Option, None, Some, ◌≡◌, ℕ, zero, suc, ◌<◌, List, [], ◌∷◌, map, length}
use Rattle.std.proofs.Common.{Result, Ok, Err, IfOk, IfErr, refl, sym, ap, subst, ◌∙◌, arith}
use Rattle.std.specs.Prelude.{Contains, slice_index_or}
use Rattle.std.specs.FinMap.{empty, entries, entries-insert, len-empty, len-entries, values}
use Rattle.std.specs.FinMap.Entries.{put}
use Rattle.sqlite.specs.Order.{Row}
use Rattle.sqlite.specs.State as sqlite
use Rattle.sqlite.specs.State.{HasCleanDisk}
use Rattle.sqlite.specs.Tree.{Trees}
use Rattle.sheet_core.proofs.Keys.{keys_total}
use Rattle.word_core.specs.Counter.{IsLimit}
use Rattle.sheet_core.specs.Sheet.{key_cmp}
use Rattle.desk_store.specs.Loading.{AreOfThisVersion, AreTheRows, IsMetaRow, IsNoMeta, Reads}
use Rattle.desk_store.specs.MetaColumns.{meta_columns, meta_from, meta_of, only}
use Rattle.desk_store.specs.Opening.{AreNoBooks, IsOfOtherVersion, WhyBut, open_fault_of}
use Rattle.desk_store.specs.declared.fault.OpenFault.{OpenFault}
use Rattle.desk_store.specs.declared.fault.OpenFault.TheVariants.{Memory, Store, Foreign, Old, Damaged}
use Rattle.desk_store.specs.declared.meta.MetaRow.{MetaRow}
use Rattle.desk_store.proofs.Breaking.{broken-none}
use Rattle.desk_store.proofs.Readings.{HasRead, reads-ok, reads-why}
use Rattle.table_store.specs.Schema.{tree_number}
use Rattle.table_store.specs.Stored.{AreLoaded, FailsToLoad, HasBadRow, row_of, values_of}
use Rattle.table_store.specs.Written.{IsTableOf}
use Rattle.table_store.specs.Faults.{NamesTable}
use Rattle.table_store.specs.declared.fault.TableFault.{TableFault}
use Rattle.table_store.specs.declared.fault.TableFault.TheVariants as TheFault
use Rattle.table_store.specs.declared.name.TableName.TheVariants.{Meta}
use Rattle.table_store.proofs.Loads.{bad-none}

no-length : {X : Type 0} (xs : List X) → length xs ≡ 0 → xs ≡ []
no-length [] e = refl
no-length (x ∷ xs) e = absurd (omega (arith, e))

no-entries : {X : Type 0} → entries (empty {X = X} {R = key_cmp}) ≡ []
no-entries {X} = no-length (entries empty) (sym (len-entries empty) ∙ len-empty key_cmp X)

-- the table with one row alone has this row
pub values-only : (m : MetaRow) → values (only m) ≡ m ∷ []
values-only m =
    ap (map (λ (e : List ℕ × MetaRow). e.1))
    (entries-insert keys_total empty (m.one ∷ []) m ∙ ap (put key_cmp (m.one ∷ []) m) (no-entries {X = MetaRow}))

-- rows with the same values are one
same-values : (m n : MetaRow) → values_of meta_columns m ≡ values_of meta_columns n → m ≡ n
same-values m n e =
    let one : m.one ≡ n.one = cc in
    let version : m.version ≡ n.version = cc in
    let next : m.next ≡ n.next = cc in
    let entries : m.entries ≡ n.entries = cc in
    let max_numbers : m.max_numbers ≡ n.max_numbers = cc in
    let max_entries : m.max_entries ≡ n.max_entries = cc in
    λ i. record {
      one = one i;
      version = version i;
      next = next i;
      entries = entries i;
      max_numbers = max_numbers i;
      max_entries = max_entries i;
    }

-- the rows of `meta` that were loaded, where its tree is the table of one row
pub same-shown : (a : List MetaRow) (m : MetaRow) → map (values_of meta_columns) a ≡ values_of meta_columns m ∷ []
    → a ≡ m ∷ []
same-shown [] m e = cc
same-shown (a ∷ []) m e =
    let one : values_of meta_columns a ≡ values_of meta_columns m = cc in
    ap (λ x. x ∷ []) (same-values a m one)
same-shown (a ∷ b ∷ rest) m e = cc

pub loaded-only : (tree : List Row) (rows : List MetaRow) (m : MetaRow)
    → AreLoaded meta_from meta_columns Meta tree rows → IsTableOf meta_from meta_columns Meta tree (only m)
    → rows ≡ m ∷ []
loaded-only tree rows m loaded it =
    same-shown rows m
    (sym loaded.same ∙ loaded.loaded ∙ sym it.holds ∙ ap (map (values_of meta_columns)) (values-only m))

-- the rows of a tree are those that were loaded, and no others
pub rows-once : (tree : List Row) (a b : List MetaRow) → AreLoaded meta_from meta_columns Meta tree a
    → AreLoaded meta_from meta_columns Meta tree b → map (λ (m : MetaRow). Some m) a ≡ map (λ m. Some m) b
rows-once tree a b one two = sym one.read ∙ ap (map (row_of meta_from)) (one.loaded ∙ sym two.loaded) ∙ two.read

pub same-rows : (a b : List MetaRow) → map (λ (m : MetaRow). Some m) a ≡ map (λ m. Some m) b → a ≡ b
same-rows [] [] e = refl
same-rows [] (y ∷ ys) e = cc
same-rows (x ∷ xs) [] e = cc
same-rows (x ∷ xs) (y ∷ ys) e =
    let head : x ≡ y = cc in
    let rest : map (λ (m : MetaRow). Some m) xs ≡ map (λ m. Some m) ys = cc in
    let tail = same-rows xs ys rest in
    λ i. head i ∷ tail i

-- where each row has this version, none has another
this-version : (trees : Trees) (rows : List MetaRow)
    → AreLoaded meta_from meta_columns Meta (trees (tree_number Meta)) rows → AreOfThisVersion rows
    → ¬ IsOfOtherVersion trees
this-version trees rows loaded this other =
    other.other (this other.row
    (subst (λ (ms : List MetaRow). Contains ms other.row)
    (same-rows other.rows rows (rows-once (trees (tree_number Meta)) other.rows rows other.loaded loaded)) other.there))

only-one : (row other : MetaRow) → Contains (row ∷ []) other → row ≡ other
only-one row other (zero, low, is) = is
only-one row other (suc k, low, is) = absurd (omega (arith, low))

pub one-version : (rows : List MetaRow) (row : MetaRow) → rows ≡ row ∷ [] → row.version ≡ 2 → AreOfThisVersion rows
one-version rows row is version other there =
    subst (λ (m : MetaRow). m.version ≡ 2)
    (only-one row other (subst (λ (ms : List MetaRow). Contains ms other) is there)) version

pub none-bad : (shown : List Row) (rows : List MetaRow) (bad : Row)
    → map (row_of meta_from) shown ≡ map (λ (m : MetaRow). Some m) rows → (k : ℕ) → k < length shown
    → slice_index_or shown k bad ≡ bad → row_of meta_from bad ≡ None → ⊥
none-bad [] rows bad read k low is none = omega (arith, low)
none-bad (x ∷ xs) [] bad read k low is none = cc
none-bad (x ∷ xs) (r ∷ rs) bad read zero low is none =
    let first : row_of meta_from x ≡ Some r = cc in
    let clash : ◌≡◌ {A = Option MetaRow} (Some r) None = sym first ∙ ap (row_of meta_from) is ∙ none in cc
none-bad (x ∷ xs) (r ∷ rs) bad read (suc k) low is none =
    let rest : map (row_of meta_from) xs ≡ map (λ (m : MetaRow). Some m) rs = cc in
    none-bad xs rs bad rest k (omega (arith, low)) is none

-- rows of which one can't be read tell no version
pub unread-version : (trees : Trees) → HasBadRow meta_from Meta (trees (tree_number Meta)) → ¬ IsOfOtherVersion trees
unread-version trees bad other =
    none-bad bad.shown other.rows bad.bad
    (ap (map (row_of meta_from)) (bad.loaded ∙ sym other.loaded.loaded) ∙ other.loaded.read) bad.there.0 bad.there.1
    bad.there.2 bad.none

module _ (trees : Trees) (rows : List MetaRow)
    (are : AreTheRows meta_from meta_columns (λ row. row.one ∷ []) Meta (trees (tree_number Meta)) rows) where
  -- one row with the key 1 and the version 2 is the row of the counter
  pub meta-row : (row : MetaRow) → rows ≡ row ∷ [] → row.one ≡ 1 → row.version ≡ 2 → IsMetaRow trees row
  meta-row row is one version = record {
    table = let it : IsTableOf meta_from meta_columns Meta (trees (tree_number Meta)) _ = are.its.table_of in rw is at it;
    sole =
        λ other it.
        let same : other ∷ [] ≡ row ∷ [] = sym (loaded-only (trees (tree_number Meta)) rows other are.loaded it) ∙ is in
        cc;
    one = one;
    version = version;
    this = this-version trees rows are.loaded (one-version rows row is version);
  }

  -- and where there is none, the tables are no desk's
  pub meta-why : (e : OpenFault) → IsNoMeta rows e → WhyBut IsOfOtherVersion trees e
  meta-why Memory none = absurd none
  meta-why (Store failed) none = absurd none
  meta-why Foreign other = record { rows = rows; loaded = are.loaded; row = other.0; there = other.1; other = other.2 }
  meta-why Old none = absurd none
  meta-why (Damaged None) none = (
    λ s sound t.
        none.0 (meta_of s) refl (loaded-only (trees (tree_number Meta)) rows (meta_of s) are.loaded (t Meta)),
    tt,
    this-version trees rows are.loaded none.1,
  )
  meta-why (Damaged (Some failed)) none = absurd none

-- the row is found among the rows that were loaded, or they tell why there is none
pub meta-read : (a b : sqlite.State) (rows : List MetaRow) → HasRead a b
    → (HasCleanDisk b → AreTheRows meta_from meta_columns (λ row. row.one ∷ []) Meta (a.now.trees (tree_number Meta)) rows)
    → (r : Result MetaRow OpenFault)
    → IfOk r (λ row. rows ≡ row ∷ []) → IfOk r (λ row. row.one ≡ 1) → IfOk r (λ row. row.version ≡ 2)
    → IfErr r (IsNoMeta rows) → Reads IsMetaRow (WhyBut IsOfOtherVersion) a b r
meta-read a b rows read are (Ok row) alone one version why =
    reads-ok IsMetaRow (WhyBut IsOfOtherVersion) a b row read
    (λ clean. meta-row a.now.trees rows (are clean) row alone one version)
meta-read a b rows read are (Err e) alone one version why =
    reads-why IsMetaRow (WhyBut IsOfOtherVersion) a b e read (λ clean. meta-why a.now.trees rows (are clean) e why)

-- why there is no row of the counter, where the rows of `meta` can't be read
pub meta-unread : (a b : sqlite.State) (fault : TableFault) → FailsToLoad meta_from Meta a b fault
    → NamesTable Meta fault → WhyBut IsOfOtherVersion a.now.trees (open_fault_of fault)
meta-unread a b TheFault.Memory failed named = tt
meta-unread a b (TheFault.Store f) failed named = tt
meta-unread a b (TheFault.NoTable f) failed named = absurd failed
meta-unread a b (TheFault.BadRow f) failed named =
    let none = bad-none meta_from meta_columns Meta (a.now.trees (tree_number Meta)) failed.0 in (
      broken-none Meta a.now.trees none,
      record { table = Meta; named = named; broken = none },
      unread-version a.now.trees failed.0,
    )

-- a row whose limits are out of their range is that of no state
pub no_limits : (trees : Trees) (row : MetaRow) → IsMetaRow trees row
    → ¬ (IsLimit row.max_numbers × IsLimit row.max_entries) → AreNoBooks trees
no_limits trees row is out s sound tables =
    let limits = s.counter.limits in
    out (subst (λ (m : MetaRow). IsLimit m.max_numbers × IsLimit m.max_entries) (is.sole (meta_of s) (tables Meta))
    ((limits.numbers_in, limits.numbers_within), (limits.entries_in, limits.entries_within)))
