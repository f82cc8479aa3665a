-- The rows that were read are those of a sound state, and of no other.
use Rattle.std.proofs.Common.{◌≡◌, inl, inr, ℕ, ◌≤◌, List, [], ◌∷◌, map, length, Option, Some, Ok, Err}
use Rattle.std.proofs.Common.{refl, sym, ap, ap₂, subst, ◌∙◌}
use Rattle.std.proofs.Math.Bridge.{le_prop}
use Rattle.std.proofs.Math.Path.{to_path_p}
use Rattle.std.proofs.lemmas.List.{length-map}
use Rattle.std.specs.FinMap as table
use Rattle.sqlite.specs.Effect.{Database}
use Rattle.sqlite.specs.Order.{Row}
use Rattle.sqlite.specs.State as sqlite
use Rattle.sqlite.proofs.StateLemmas.{survives_then}
use Rattle.sqlite.specs.Tree.{Trees}
use Rattle.sheet_core.specs.Filled.{filled}
use Rattle.sheet_core.specs.Sheet.{Table}
use Rattle.sheet_core.proofs.Standing.{Stands, each-value}
use Rattle.word_core.specs.declared.limits.Limits.{Limits}
use Rattle.forest.specs.EntryColumns.{entry_columns, entry_from}
use Rattle.forest.specs.declared.entry.Entry.{Entry}
use Rattle.yard_core.specs.Stock.{IsRun}
use Rattle.yard_core.proofs.OwnKeys.{keyed-own}
use Rattle.desk_core.specs.Assembled.{AreSoundTables, state_from}
use Rattle.desk_core.specs.Machine.{IsSoundState, State}
use Rattle.desk_core.specs.ShopView.{state_of}
use Rattle.desk_core.specs.declared.shop.Shop.{Shop}
use Rattle.desk_core.specs.declared.shop.assemble.Tables.{Tables}
use Rattle.desk_store.specs.StateTables.{TablesAre}
use Rattle.desk_store.specs.Loading.{AreBooksOf, AreSheets, AreTables, AreTheRows, IsMetaRow, Reads, meta_in}
use Rattle.desk_store.specs.MetaColumns.{meta_columns, meta_from, meta_of, only}
use Rattle.desk_store.specs.Opening.{AreNoBooks, IsOfOtherVersion, WhyBut, WhyUnread}
use Rattle.desk_store.specs.declared.fault.OpenFault.{OpenFault}
use Rattle.desk_store.specs.declared.fault.OpenFault.TheVariants as why
use Rattle.desk_store.specs.declared.meta.MetaRow.{MetaRow}
use Rattle.table_store.proofs.Walks.{fails-later}
use Rattle.desk_store.proofs.Readings.{HasRead, gives-first, has-read, read-then, reads-ok, was-clean}
use Rattle.desk_store.proofs.Sheets.{own_keys}
use Rattle.table_store.specs.Schema.{tree_number}
use Rattle.table_store.specs.Stored.{row_of, values_of}
use Rattle.table_store.specs.Written.{IsRead, IsTableOf}
use Rattle.table_store.specs.declared.name.TableName.TheVariants.{Meta, Categories, Locations, Parts, Lines}
use Rattle.table_store.specs.declared.name.TableName.TheVariants.{Substitutes, Items, History, Orders}
use Rattle.table_store.specs.declared.name.TableName.TheVariants.{OrderLines, Builds, Allocations, Kept, Spent}

-- limits with the same numbers are one
same-limits : (a b : Limits) → a.numbers ≡ b.numbers → a.entries ≡ b.entries → a ≡ b
same-limits a b numbers entries =
    λ i. record {
      numbers = numbers i;
      entries = entries i;
      numbers_in = to_path_p (λ j. 1 ≤ numbers j) {a = a.numbers_in} {b = b.numbers_in} (le_prop _ _) i;
      numbers_within =
          to_path_p (λ j. numbers j ≤ 10000000000) {a = a.numbers_within} {b = b.numbers_within} (le_prop _ _) i;
      entries_in = to_path_p (λ j. 1 ≤ entries j) {a = a.entries_in} {b = b.entries_in} (le_prop _ _) i;
      entries_within =
          to_path_p (λ j. entries j ≤ 10000000000) {a = a.entries_within} {b = b.entries_within} (le_prop _ _) i;
    }

module _ (tree : List Row) (rows : List Entry)
    (are : AreTheRows entry_from entry_columns (λ row. row.number ∷ []) History tree rows) where
  abbrev all : Table Entry
  all = filled (λ (row : Entry). row.number ∷ []) rows

  read-again : (xs : List Entry) → ((x : Entry) → Stands x xs → IsRead entry_from entry_columns x)
      → map (row_of entry_from) (map (values_of entry_columns) xs) ≡ map (λ x. Some x) xs
  read-again [] reads = refl
  read-again (x ∷ xs) reads = ap₂ (λ o os. o ∷ os) (reads x (inl refl)) (read-again xs (λ y s. reads y (inr s)))

  -- the history was loaded in order of number
  in-order : table.values all ≡ rows
  in-order =
      some-rows (table.values all) rows
      (sym (read-again (table.values all) (each-value (IsRead entry_from entry_columns) all are.its.table_of.read))
      ∙ ap (map (row_of entry_from)) (are.its.table_of.holds ∙ sym are.loaded.loaded)
      ∙ are.loaded.read)
    where
      first : (x y : Entry) (xs ys : List (Option Entry)) → Some x ∷ xs ≡ Some y ∷ ys → (x ≡ y) × (xs ≡ ys)
      first x y xs ys e = (cc, cc)

      some-rows : (xs ys : List Entry) → map (λ x. Some x) xs ≡ map (λ x. Some x) ys → xs ≡ ys
      some-rows [] [] e = refl
      some-rows [] (y ∷ ys) e = cc
      some-rows (x ∷ xs) [] e = cc
      some-rows (x ∷ xs) (y ∷ ys) e =
          let both = first x y (map (λ x. Some x) xs) (map (λ x. Some x) ys) e in
          ap₂ (λ z zs. z ∷ zs) both.0 (some-rows xs ys both.1)

  -- it has as many rows as were loaded
  as-many : table.len all ≡ length rows
  as-many =
      table.len-entries all
      ∙ sym (length-map (table.entries all) (λ (e : List ℕ × Entry). e.1))
      ∙ ap length in-order

module _ (trees : Trees) (t : Tables) (are : AreTables trees t) where
  -- the row of the counter is that of the tables' state
  counted-meta : t.entries ≡ length t.history.items → meta_of (state_from t) ≡ meta_in t
  counted-meta e =
      let many = as-many (trees (tree_number History)) t.history.items are.sheets.stock.history_are in
      let count : table.len (state_from t).stock.history ≡ t.entries = many ∙ sym e in
      λ i. record {
        one = 1;
        version = 2;
        next = t.next;
        entries = count i;
        max_numbers = t.limits.numbers;
        max_entries = t.limits.entries;
      }

  -- they are the tables of the state that is made of them
  pub tables-are : AreSoundTables t → TablesAre (state_from t) trees
  tables-are sound Meta =
      subst (λ m. IsTableOf meta_from meta_columns Meta (trees (tree_number Meta)) (only m))
      (sym (counted-meta sound.entries)) are.meta.table
  tables-are sound Categories = are.sheets.catalogue.categories_are.its.table_of
  tables-are sound Locations = are.sheets.stock.locations_are.its.table_of
  tables-are sound Parts = are.sheets.catalogue.parts_are.its.table_of
  tables-are sound Lines = are.sheets.bills.lines_are.its.table_of
  tables-are sound Substitutes = are.sheets.bills.substitutes_are.its.table_of
  tables-are sound Items = are.sheets.stock.items_are.its.table_of
  tables-are sound History = are.sheets.stock.history_are.its.table_of
  tables-are sound Orders = are.sheets.orders.0.orders_are.its.table_of
  tables-are sound OrderLines = are.sheets.orders.0.lines_are.its.table_of
  tables-are sound Builds = are.sheets.orders.1.builds_are.its.table_of
  tables-are sound Allocations = are.sheets.orders.1.allocations_are.its.table_of
  tables-are sound Kept = are.sheets.answers.table_of
  tables-are sound Spent = are.sheets.orders.1.spent_are.its.table_of

  module _ (s : State) (sound : IsSoundState s) (has : TablesAre s trees) where
    -- each sheet of such a state has the rows that were read
    same-meta : meta_of s ≡ meta_in t
    same-meta = are.meta.sole (meta_of s) (has Meta)

    same-parts : s.parts ≡ (state_from t).parts
    same-parts =
        let categories =
        are.sheets.catalogue.categories_are.its.only s.parts.categories
        (own_keys _ _ _ sound.bills.catalogue.categories) (has Categories) in
        let parts =
        are.sheets.catalogue.parts_are.its.only s.parts.parts (own_keys _ _ _ sound.bills.catalogue.parts)
        (has Parts) in
        λ i. record { categories = categories i; parts = parts i }

    same-bills : s.bills ≡ (state_from t).bills
    same-bills =
        let lines =
        are.sheets.bills.lines_are.its.only s.bills.lines (own_keys _ _ _ sound.bills.line_rows) (has Lines) in
        let substitutes =
        are.sheets.bills.substitutes_are.its.only s.bills.substitutes (own_keys _ _ _ sound.bills.substitute_rows)
        (has Substitutes) in
        λ i. record { lines = lines i; substitutes = substitutes i }

    same-history : s.stock.history ≡ (state_from t).stock.history
    same-history =
        are.sheets.stock.history_are.its.only s.stock.history
        (keyed-own (λ e. e.number) s.stock.history sound.stock.items.stock.history.own) (has History)

    same-stock : s.stock ≡ (state_from t).stock
    same-stock =
        let locations =
        are.sheets.stock.locations_are.its.only s.stock.locations (own_keys _ _ _ sound.stock.items.locations.rows)
        (has Locations) in
        let items =
        are.sheets.stock.items_are.its.only s.stock.items (own_keys _ _ _ sound.stock.items.rows) (has Items) in
        let history = same-history in
        λ i. record { locations = locations i; items = items i; history = history i }

    same-orders : s.orders ≡ (state_from t).orders
    same-orders = are.sheets.orders.0.orders_are.its.only s.orders (own_keys _ _ _ sound.orders.orders) (has Orders)

    same-order-lines : s.order_lines ≡ (state_from t).order_lines
    same-order-lines =
        are.sheets.orders.0.lines_are.its.only s.order_lines (own_keys _ _ _ sound.orders.lines) (has OrderLines)

    same-builds : s.builds ≡ (state_from t).builds
    same-builds = are.sheets.orders.1.builds_are.its.only s.builds (own_keys _ _ _ sound.builds.rows) (has Builds)

    same-spent : s.spent ≡ (state_from t).spent
    same-spent =
        are.sheets.orders.1.spent_are.its.only s.spent (own_keys _ _ _ sound.builds.spending.rows) (has Spent)

    same-allocations : s.allocations ≡ (state_from t).allocations
    same-allocations =
        are.sheets.orders.1.allocations_are.its.only s.allocations (own_keys _ _ _ sound.allocations.rows)
        (has Allocations)

    same-counter : s.counter ≡ (state_from t).counter
    same-counter =
        let next = ap (λ (m : MetaRow). m.next) same-meta in
        let numbers = ap (λ (m : MetaRow). m.max_numbers) same-meta in
        let entries = ap (λ (m : MetaRow). m.max_entries) same-meta in
        let limits = same-limits s.counter.limits t.limits numbers entries in
        λ i. record { next = next i; limits = limits i }

    same-answers : s.answers ≡ (state_from t).answers
    same-answers = are.sheets.answers.only s.answers (λ k row e. (sound.answers k row e).own) (has Kept)

    -- no other sound state has these tables
    pub same-state : s ≡ state_from t
    same-state =
        let parts = same-parts in
        let bills = same-bills in
        let stock = same-stock in
        let allocations = same-allocations in
        let orders = same-orders in
        let lines = same-order-lines in
        let builds = same-builds in
        let spent = same-spent in
        let counter = same-counter in
        let answers = same-answers in
        λ i. record {
          parts = parts i;
          bills = bills i;
          stock = stock i;
          allocations = allocations i;
          orders = orders i;
          order_lines = lines i;
          builds = builds i;
          spent = spent i;
          counter = counter i;
          answers = answers i;
        }

    -- the tables of a sound state are sound
    pub are-sound : AreSoundTables t
    are-sound = record {
      numbered =
          subst (IsRun 1) (in-order (trees (tree_number History)) t.history.items are.sheets.stock.history_are)
          (subst (λ (h : Table Entry). IsRun 1 (table.values h)) same-history sound.stock.items.stock.history.run);
      entries =
          sym (ap (λ (m : MetaRow). m.entries) same-meta) ∙ ap (λ (h : Table Entry). table.len h) same-history
          ∙ as-many (trees (tree_number History)) t.history.items are.sheets.stock.history_are;
      state = subst IsSoundState same-state sound;
    }

  -- tables that aren't sound are those of no books
  pub unsound-tables : ¬ AreSoundTables t → AreNoBooks trees
  unsound-tables not s sound has = not (are-sound s sound has)

-- the shop that is made of sound tables has their books
pub books-of : (trees : Trees) (t : Tables) (shop : Shop) → AreTables trees t → state_of shop ≡ state_from t
    → AreSoundTables t → AreBooksOf trees shop
books-of trees t shop are is sound = record {
  tables = subst (λ s. TablesAre s trees) (sym is) (tables-are trees t are sound);
  one = λ s right has. same-state trees t are s right has ∙ sym is;
}

-- ---- the row of the counter comes first

-- what tells why where nothing is foreign tells it where this isn't so
pub why-else : (Else : Trees → Type 0) (trees : Trees) (e : OpenFault) → ¬ Else trees → WhyUnread trees e
    → WhyBut Else trees e
why-else Else trees why.Memory not said = tt
why-else Else trees (why.Store failed) not said = tt
why-else Else trees why.Foreign not said = absurd said
why-else Else trees why.Old not said = absurd said
why-else Else trees (why.Damaged told) not said = (said.0, said.1, not)

-- the row that the tables' counter has is the one that was found
counted : (row : MetaRow) (t : Tables) (limits : Limits) → row.one ≡ 1 → row.version ≡ 2 → t.next ≡ row.next
    → t.entries ≡ row.entries → t.limits ≡ limits → limits.numbers ≡ row.max_numbers → limits.entries ≡ row.max_entries
    → meta_in t ≡ row
counted row t limits one version next entries same numbers most =
    let first = sym one in
    let form = sym version in
    let max_numbers : t.limits.numbers ≡ row.max_numbers = ap (λ (l : Limits). l.numbers) same ∙ numbers in
    let max_entries : t.limits.entries ≡ row.max_entries = ap (λ (l : Limits). l.entries) same ∙ most in
    λ i. record {
      one = first i;
      version = form i;
      next = next i;
      entries = entries i;
      max_numbers = max_numbers i;
      max_entries = max_entries i;
    }

module _ (a b c : sqlite.State) (found : MetaRow × Limits)
    (counter : Reads (λ trees found. IsMetaRow trees found.0) (WhyBut IsOfOtherVersion) a b (Ok found)) where
  first : HasRead a b
  first = has-read (λ trees found. IsMetaRow trees found.0) (WhyBut IsOfOtherVersion) a b found counter

  pub tables-read : (t : Tables) → Reads AreSheets WhyUnread b c (Ok t) → t.next ≡ found.0.next
      → t.entries ≡ found.0.entries → t.limits ≡ found.1 → found.1.numbers ≡ found.0.max_numbers
      → found.1.entries ≡ found.0.max_entries
      → Reads AreTables (WhyBut IsOfOtherVersion) a c (Ok t)
  tables-read t sheets next entries limits numbers most =
      let later = has-read AreSheets WhyUnread b c t sheets in
      reads-ok AreTables (WhyBut IsOfOtherVersion) a c t (read-then a b c first later) (λ clean.
      let row = counter.gives (was-clean b c _ later.crash clean) in
      record {
        meta =
            subst (IsMetaRow a.now.trees)
            (sym (counted found.0 t found.1 row.one row.version next entries limits numbers most)) row;
        sheets = gives-first AreSheets WhyUnread a b c t first sheets clean;
      })

  pub tables-unread : (e : OpenFault) → Reads AreSheets WhyUnread b c (Err e)
      → Reads AreTables (WhyBut IsOfOtherVersion) a c (Err e)
  tables-unread e sheets = record {
    gives = λ clean. tt;
    why = λ clean.
        let before = was-clean b c _ sheets.crash clean in
        why-else IsOfOtherVersion a.now.trees e (counter.gives before).this
        (subst (λ (d : Database). WhyUnread d.trees e) (first.same before).0.now_is (sheets.why clean));
    same = λ clean. tt;
    failed = λ clean. fails-later a b c (first.same (was-clean b c _ sheets.crash clean)) (sheets.failed clean);
    crash = survives_then a b c _ _ _ (λ _ db none. none) (λ _ db none. none) first.crash sheets.crash;
  }
