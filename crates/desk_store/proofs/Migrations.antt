-- The tables of version 1 hold the state that those of this version hold once they are made of them.
use Rattle.std.proofs.Common.{◌≡◌, ◌≢◌, ◌⊎◌, inl, inr, ℕ, List, [], ◌∷◌, map, Option, Some, None, Result, Ok, Err}
use Rattle.std.proofs.Common.{◌<◌, IfOk, IfErr, zero, arith, refl, sym, ap, subst, ◌∙◌}
use Rattle.std.specs.Prelude.{All, Contains}
use Rattle.std.specs.Result.{IsErrAnd}
use Rattle.std.specs.FinMap.{empty, entries, get-entries, insert, same_map, values}
use Rattle.std.specs.FinMap.Entries.{find}
use Rattle.std.proofs.lemmas.List.Elements.{All-from_recursion}
use Rattle.sqlite.specs.Effect.{Database}
use Rattle.sqlite.specs.Order.{Row}
use Rattle.sqlite.specs.State as sqlite
use Rattle.sqlite.specs.State.{HasCleanDisk}
use Rattle.sqlite.specs.Tree.{Trees}
use Rattle.sqlite_catalog.specs.Listing.{IsSound}
use Rattle.sheet_core.specs.Columns.{IsSmall}
use Rattle.part_core.specs.NamedRows.{named_columns, named_from}
use Rattle.part_core.specs.PartColumns.{part_columns, part_from}
use Rattle.sheet_core.specs.Sheet.{Table, key_cmp}
use Rattle.sheet_core.specs.declared.column.Column.{Column}
use Rattle.sheet_core.proofs.Keys.{keys_exact, keys_total}
use Rattle.bom_core.specs.BillColumns.{line_columns, line_from, substitute_columns, substitute_from}
use Rattle.forest.specs.EntryColumns.{entry_columns, entry_from}
use Rattle.forest.specs.ItemColumns.{item_columns, item_from}
use Rattle.alloc_core.specs.AllocationColumns.{allocation_columns, allocation_from}
use Rattle.order_core.specs.OrderColumns as orders
use Rattle.build_core.specs.BuildColumns.{build_columns, build_from}
use Rattle.build_core.specs.SpentColumns.{spent_columns, spent_from}
use Rattle.build_core.specs.declared.spent.Spent.{Spent as SpentRow}
use Rattle.desk_core.specs.KeptColumns.{kept_columns, kept_from}
use Rattle.desk_core.specs.Machine.{IsSoundState, State}
use Rattle.desk_core.specs.ShopView.{state_of}
use Rattle.desk_core.specs.declared.shop.Shop.{Shop}
use Rattle.desk_store.specs.Loading.{AreBooksOf, AreOldRows, Reads}
use Rattle.desk_store.specs.MetaColumns.{meta_columns, meta_from, meta_of, only}
use Rattle.desk_store.specs.Migrating.{AreBooksOfEither, AreBroughtUp, AreSecond, FitFile, IsBroughtUp, IsNoOldRow}
use Rattle.desk_store.specs.Migrating.{IsOldRow, MayBeMigrated, OldTablesAre, WhyNotMigrated, WhyNotOld, old_meta_of}
use Rattle.desk_store.specs.Opening.{AreForeign, IsBroken, IsDamage, IsOfOtherVersion, IsOld, NamesBroken}
use Rattle.desk_store.specs.Opening.{WhyBut, WhyNoneOld, open_fault_of}
use Rattle.desk_store.specs.StateTables.{IsTableIn, TablesAre}
use Rattle.desk_store.specs.declared.fault.OpenFault.{OpenFault}
use Rattle.desk_store.specs.declared.fault.OpenFault.TheVariants.{Memory, Store, Foreign, Old, Damaged}
use Rattle.desk_store.specs.declared.meta.MetaRow.{MetaRow}
use Rattle.desk_store.proofs.Kept.{put_twice}
use Rattle.desk_store.proofs.Metas.{loaded-only, one-version, same-shown, values-only}
use Rattle.desk_store.proofs.Olds.{never-old, own-tables}
use Rattle.desk_store.proofs.Readings.{HasRead, reads-ok, reads-why}
use Rattle.desk_store.proofs.Starting.{no_rows, ready_still}
use Rattle.table_store.specs.Making.{HasSecond}
use Rattle.table_store.specs.Schema.{desk_schema, old_schema, position, tree_number}
use Rattle.table_store.specs.Stored.{values_of}
use Rattle.table_store.specs.Written.{IsReady, IsTableOf, IsTableOfNone, IsTableOfNoneOwn, Writes, tree_of}
use Rattle.table_store.specs.Transactions.{Stops}
use Rattle.table_store.specs.declared.fault.Failed.{Failed}
use Rattle.table_store.specs.declared.fault.TableFault.{TableFault}
use Rattle.table_store.specs.declared.fault.TableFault.TheVariants as TheFault
use Rattle.table_store.specs.declared.name.TableName.{TableName}
use Rattle.table_store.specs.declared.name.TableName.TheVariants.{Meta, Categories, Locations, Parts, Lines}
use Rattle.table_store.specs.declared.name.TableName.TheVariants.{Substitutes, Items, History, Orders}
use Rattle.table_store.specs.declared.name.TableName.TheVariants.{OrderLines, Builds, Allocations, Kept, Spent}
use Rattle.table_store.proofs.Opening.{apart, one_schema}

-- ---- one table

-- a tree is the table of one row of `meta` alone
pub one-meta : (tree : List Row) (m n : MetaRow) → IsTableOf meta_from meta_columns Meta tree (only m)
    → IsTableOf meta_from meta_columns Meta tree (only n) → m ≡ n
one-meta tree m n a b =
    let same : m ∷ [] ≡ n ∷ [] =
    same-shown (m ∷ []) n
    (ap (map (values_of meta_columns)) (sym (values-only m)) ∙ a.holds ∙ sym b.holds
    ∙ ap (map (values_of meta_columns)) (values-only n)) in
    cc

no-values : {X Y : Type 0} (f : X → Y) (xs : List X) → map f xs ≡ [] → xs ≡ []
no-values f [] e = refl
no-values f (x ∷ xs) e = cc

-- a tree without rows is the table of no rows alone
none-there : (tree : List Row) (t : Table SpentRow) → tree ≡ [] → IsTableOf spent_from spent_columns Spent tree t
    → t ≡ empty
none-there tree t none is =
    let shown : map (values_of spent_columns) (values t) ≡ [] = is.holds ∙ ap (map _) none in
    let nothing = no-values (λ (e : List ℕ × SpentRow). e.1) (entries t) (no-values (values_of spent_columns) _ shown) in
    let also = no-values (λ (e : List ℕ × SpentRow). e.1) (entries (empty {X = SpentRow} {R = key_cmp}))
    (no-values (values_of spent_columns) _ (no_rows spent_from spent_columns Spent [] refl).holds) in
    same_map keys_total keys_exact t empty
    (λ k. get-entries t k ∙ ap (find key_cmp k) (nothing ∙ sym also) ∙ sym (get-entries empty k))

-- ---- the row of the counter

-- the numbers of a sound state are those that a file takes
fits : (s : State) → IsSoundState s → FitFile (old_meta_of s)
fits s sound =
    let numbers = s.counter.limits.numbers_within in
    let entries = s.counter.limits.entries_within in
    let within = sound.stock.items.within in
    record {
      next = let most = sound.next.1 in omega (arith, most, numbers);
      entries = omega (arith, within, entries);
      max_numbers = omega (arith, numbers);
      max_entries = omega (arith, entries);
    }

-- the numbers of the row that is written fit, too
pub small-row : (row : MetaRow) → row.one ≡ 1 → FitFile row
    → All IsSmall (meta_columns (record row { version = 2 }))
small-row row one fit =
    All-from_recursion IsSmall (meta_columns (record row { version = 2 }))
    (omega (arith, one), (omega arith, (fit.next, (fit.entries, (fit.max_numbers, (fit.max_entries, tt))))))

module _ (trees : Trees) (rows : List MetaRow) (are : AreOldRows trees rows) where
  -- one row with the key 1 is the row of the counter
  pub old-row : (row : MetaRow) → rows ≡ row ∷ [] → row.one ≡ 1 → IsOldRow trees row
  old-row row is one = record {
    table =
        let it : IsTableOf meta_from meta_columns Meta (trees (tree_number Meta)) _ = are.are.its.table_of in rw is at it;
    one = one;
    version = are.version row (subst (λ (ms : List MetaRow). Contains ms row) (sym is) (zero, omega arith, refl));
    old = are.old;
  }

  -- and where there is none, the tables are damaged
  pub no-old-row : (e : OpenFault) → IsNoOldRow rows e → WhyNotOld trees e
  no-old-row Memory none = absurd none
  no-old-row (Store failed) none = absurd none
  no-old-row Foreign none = absurd none
  no-old-row Old none = absurd none
  no-old-row (Damaged None) none = (
    are.old,
    λ s sound t.
        none (old_meta_of s) refl (fits s sound)
        (loaded-only (trees (tree_number Meta)) rows (old_meta_of s) are.are.loaded t.meta),
    tt,
  )
  no-old-row (Damaged (Some failed)) none = absurd none

-- ---- from the tables of version 1 to those of this version

module _ (before trees : Trees) (row : MetaRow) (old : IsOldRow before row) (second : AreSecond row before trees) where
  now-as-before : (s : State) (table : TableName) → table ≢ Meta → table ≢ Spent
      → IsTableIn s table (before (tree_number table)) → IsTableIn s table (trees (tree_number table))
  now-as-before s table not_meta not_spent is =
      subst (IsTableIn s table) (sym (second.others table not_meta not_spent)) is

  -- what those of version 1 held is held
  pub now-held : (s : State) → OldTablesAre s before → TablesAre s trees
  now-held s held Categories = now-as-before s Categories (λ e. cc) (λ e. cc) (held.others Categories (λ e. cc) (λ e. cc))
  now-held s held Locations = now-as-before s Locations (λ e. cc) (λ e. cc) (held.others Locations (λ e. cc) (λ e. cc))
  now-held s held Parts = now-as-before s Parts (λ e. cc) (λ e. cc) (held.others Parts (λ e. cc) (λ e. cc))
  now-held s held Lines = now-as-before s Lines (λ e. cc) (λ e. cc) (held.others Lines (λ e. cc) (λ e. cc))
  now-held s held Substitutes = now-as-before s Substitutes (λ e. cc) (λ e. cc) (held.others Substitutes (λ e. cc) (λ e. cc))
  now-held s held Items = now-as-before s Items (λ e. cc) (λ e. cc) (held.others Items (λ e. cc) (λ e. cc))
  now-held s held History = now-as-before s History (λ e. cc) (λ e. cc) (held.others History (λ e. cc) (λ e. cc))
  now-held s held Orders = now-as-before s Orders (λ e. cc) (λ e. cc) (held.others Orders (λ e. cc) (λ e. cc))
  now-held s held OrderLines = now-as-before s OrderLines (λ e. cc) (λ e. cc) (held.others OrderLines (λ e. cc) (λ e. cc))
  now-held s held Builds = now-as-before s Builds (λ e. cc) (λ e. cc) (held.others Builds (λ e. cc) (λ e. cc))
  now-held s held Allocations = now-as-before s Allocations (λ e. cc) (λ e. cc) (held.others Allocations (λ e. cc) (λ e. cc))
  now-held s held Kept = now-as-before s Kept (λ e. cc) (λ e. cc) (held.others Kept (λ e. cc) (λ e. cc))
  now-held s held Meta =
      let same : row ≡ old_meta_of s = one-meta (before (tree_number Meta)) row (old_meta_of s) old.table held.meta in
      subst (λ (m : MetaRow). IsTableOf meta_from meta_columns Meta (trees (tree_number Meta)) (only m))
      (ap (λ (m : MetaRow). record m { version = 2 }) same) second.meta
  now-held s held Spent =
      subst (IsTableOf spent_from spent_columns Spent (trees (tree_number Spent))) (sym held.unspent)
      (no_rows spent_from spent_columns Spent (trees (tree_number Spent)) second.spent)

  -- and nothing else is
  pub held-before : (s : State) → TablesAre s trees → OldTablesAre s before
  held-before s held =
      let same : record row { version = 2 } ≡ meta_of s =
      one-meta (trees (tree_number Meta)) (record row { version = 2 }) (meta_of s) second.meta (held Meta) in
      let first : row ≡ record row { version = 1 } = ap (λ v. record row { version = v }) old.version in
      record {
        meta =
            subst (λ (m : MetaRow). IsTableOf meta_from meta_columns Meta (before (tree_number Meta)) (only m))
            (first ∙ ap (λ (m : MetaRow). record m { version = 1 }) same) old.table;
        others =
            λ table not_meta not_spent. subst (IsTableIn s table) (second.others table not_meta not_spent) (held table);
        unspent = none-there (trees (tree_number Spent)) s.spent second.spent (held Spent);
      }

  -- the shop that was read is that of the tables of version 1
  pub brought-up : (shop : Shop) (d : sqlite.State) → AreBooksOf trees shop → d.now.trees ≡ trees → IsReady d
      → IsBroughtUp before shop d
  brought-up shop d books is ready = record {
    ready = ready;
    tables = subst (TablesAre (state_of shop)) (sym is) books.tables;
    old = held-before (state_of shop) books.tables;
    one = λ s sound held. books.one s sound (now-held s held);
  }

  -- no row of `meta` has another version
  this-version : ¬ IsOfOtherVersion trees
  this-version other =
      let alone = loaded-only (trees (tree_number Meta)) other.rows (record row { version = 2 }) other.loaded second.meta in
      other.other (one-version other.rows (record row { version = 2 }) alone refl other.row other.there)

  -- a table that is broken was so
  was-broken : (table : TableName) → IsBroken table trees → IsBroken table before
  was-broken Meta none = absurd (none (only (record row { version = 2 })) second.meta)
  was-broken Spent none =
      absurd (none empty (no_rows spent_from spent_columns Spent (trees (tree_number Spent)) second.spent))
  was-broken Categories none =
      subst (IsTableOfNone named_from named_columns Categories) (second.others Categories (λ e. cc) (λ e. cc)) none
  was-broken Locations none =
      subst (IsTableOfNone named_from named_columns Locations) (second.others Locations (λ e. cc) (λ e. cc)) none
  was-broken Parts none =
      subst (IsTableOfNone part_from part_columns Parts) (second.others Parts (λ e. cc) (λ e. cc)) none
  was-broken Lines none =
      subst (IsTableOfNone line_from line_columns Lines) (second.others Lines (λ e. cc) (λ e. cc)) none
  was-broken Substitutes none =
      subst (IsTableOfNone substitute_from substitute_columns Substitutes) (second.others Substitutes (λ e. cc) (λ e. cc)) none
  was-broken Items none =
      subst (IsTableOfNone item_from item_columns Items) (second.others Items (λ e. cc) (λ e. cc)) none
  was-broken History none =
      subst (IsTableOfNone entry_from entry_columns History) (second.others History (λ e. cc) (λ e. cc)) none
  was-broken Orders none =
      subst (IsTableOfNone orders.order_from orders.order_columns Orders) (second.others Orders (λ e. cc) (λ e. cc)) none
  was-broken OrderLines none =
      subst (IsTableOfNone orders.line_from orders.line_columns OrderLines) (second.others OrderLines (λ e. cc) (λ e. cc)) none
  was-broken Builds none =
      subst (IsTableOfNone build_from build_columns Builds) (second.others Builds (λ e. cc) (λ e. cc)) none
  was-broken Allocations none =
      subst (IsTableOfNone allocation_from allocation_columns Allocations) (second.others Allocations (λ e. cc) (λ e. cc)) none
  was-broken Kept none =
      subst (IsTableOfNoneOwn kept_from kept_columns (λ row. row.word) Kept) (second.others Kept (λ e. cc) (λ e. cc)) none

  was-damage : (told : Option Failed) → IsDamage trees told → IsDamage before told
  was-damage None said = tt
  was-damage (Some failed) said =
      record { table = said.table; named = said.named; broken = was-broken said.table said.broken }

  -- why there is no shop is so of the tables of version 1
  pub why-not-read : (e : OpenFault) → WhyBut IsOfOtherVersion trees e → WhyNotOld before e
  why-not-read Memory said = tt
  why-not-read (Store failed) said = tt
  why-not-read Foreign said = absurd (this-version said)
  why-not-read Old said = absurd said
  why-not-read (Damaged told) said = (
    old.old,
    λ s sound held. said.0 s sound (now-held s held),
    was-damage told said.1,
  )

-- ---- tables of either version

old-own : (trees : Trees) → IsOld trees → ¬ AreForeign trees
old-own trees old foreign = elim foreign [
  | inl others ↦ others.2 (inr (one_schema trees others.0 old_schema others.1 old.listed))
  | inr more ↦ elim more [
    | inl none ↦ none.1 old
    | inr other ↦ apart (one_schema trees desk_schema old_schema other.0 old.listed)
  ]
]

pub why-not-migrated : (trees : Trees) (e : OpenFault) → WhyNotOld trees e → WhyNotMigrated trees e
why-not-migrated trees Memory said = tt
why-not-migrated trees (Store failed) said = tt
why-not-migrated trees Foreign said = said
why-not-migrated trees Old said = absurd said
why-not-migrated trees (Damaged told) said = (said.2, old-own trees said.0, inr (said.1, said.0))

pub why-not-now : (trees : Trees) → IsSound desk_schema trees → (e : OpenFault) → WhyBut IsOfOtherVersion trees e
    → WhyNotMigrated trees e
why-not-now trees listed Memory said = tt
why-not-now trees listed (Store failed) said = tt
why-not-now trees listed Foreign said = inr (inr (listed, said))
why-not-now trees listed Old said = absurd said
why-not-now trees listed (Damaged told) said =
    (said.1, own-tables trees listed said.2, inl (said.0, never-old trees listed))

-- the versions are two
two-versions : (trees : Trees) (s t : State) → TablesAre s trees → OldTablesAre t trees → ⊥
two-versions trees s t now old =
    let same = one-meta (trees (tree_number Meta)) (meta_of s) (old_meta_of t) (now Meta) old.meta in
    let versions : 2 ≡ 1 = ap (λ (m : MetaRow). m.version) same in
    omega (arith, versions)

pub books-now : (trees : Trees) (shop : Shop) → AreBooksOf trees shop → AreBooksOfEither trees shop
books-now trees shop books = record {
  tables = inl books.tables;
  one = λ s sound either. elim either [
    | inl now ↦ books.one s sound now
    | inr old ↦ absurd (two-versions trees (state_of shop) s books.tables old)
  ];
}

pub books-before : (trees : Trees) (shop : Shop) (d : sqlite.State) → IsBroughtUp trees shop d
    → AreBooksOfEither trees shop
books-before trees shop d brought = record {
  tables = inr brought.old;
  one = λ s sound either. elim either [
    | inl now ↦ absurd (two-versions trees s (state_of shop) now brought.old)
    | inr old ↦ brought.one s sound old
  ];
}

-- ---- within the transaction

below : (table : TableName) → table ≢ Spent → position table < 13
below Spent other = absurd (other refl)
below _ other = omega arith

module _ (row : MetaRow) (a d e : sqlite.State) (old : IsOldRow a.now.trees row) (second : HasSecond a d) where
  -- the row of version 1 is still there
  pub still-row : IsTableOf meta_from meta_columns Meta (tree_of Meta d) (only row)
  still-row =
      subst (λ tree. IsTableOf meta_from meta_columns Meta tree (only row)) (sym (second.rows Meta (omega arith))) old.table

  -- and then the row of this version
  pub are-second : Writes Meta d e
      → IsTableOf meta_from meta_columns Meta (tree_of Meta e) (insert (only row) (row.one ∷ []) (record row { version = 2 }))
      → AreSecond row a.now.trees e.now.trees
  are-second wrote put = record {
    meta =
        subst (IsTableOf meta_from meta_columns Meta (tree_of Meta e))
        (put_twice (row.one ∷ []) row (record row { version = 2 })) put;
    spent = wrote.others Spent (λ e. cc) ∙ second.spent;
    others =
        λ table not_meta not_spent.
        wrote.others table not_meta ∙ second.rows table (below table not_spent);
  }

-- ---- the calls, one after another

-- the row of the counter is found among the rows that were loaded, or they tell why there is none
pub row-read : (a b : sqlite.State) (rows : List MetaRow) → HasRead a b
    → (HasCleanDisk b → AreOldRows a.now.trees rows) → (r : Result MetaRow OpenFault)
    → IfOk r (λ row. rows ≡ row ∷ []) → IfOk r (λ row. row.one ≡ 1) → IfErr r (IsNoOldRow rows)
    → Reads IsOldRow WhyNotOld a b r
row-read a b rows read are (Ok row) alone one why =
    reads-ok IsOldRow WhyNotOld a b row read (λ clean. old-row a.now.trees rows (are clean) row alone one)
row-read a b rows read are (Err e) alone one why =
    reads-why IsOldRow WhyNotOld a b e read (λ clean. no-old-row a.now.trees rows (are clean) e why)

-- what is so of the fault that came is so of the one that is told
pub told-as : {X : Type 0} (P : OpenFault → Type 0) (r : Result X OpenFault) (e : OpenFault) → IsErrAnd r (λ d. d ≡ e)
    → P e → IfErr r P
told-as P (Ok x) e is so = absurd is
told-as P (Err d) e is so = subst P (sym is) so

module _ (a d e : sqlite.State) (row : MetaRow) (old : IsOldRow a.now.trees row)
    (second : AreSecond row a.now.trees d.now.trees) where
  -- the shop is read from the tables of this version that were made
  pub brought-read : IsReady d → HasCleanDisk e → (r : Result Shop OpenFault)
      → Reads AreBooksOf (WhyBut IsOfOtherVersion) d e r → IfOk r (λ shop. IsBroughtUp a.now.trees shop e)
  brought-read ready clean (Ok shop) read =
      brought-up a.now.trees d.now.trees row old second shop e (read.gives clean)
      (ap (λ (db : Database). db.trees) (read.same clean).0.now_is) (ready_still d e ready.0 (read.same clean))
  brought-read ready clean (Err fault) read = tt

  -- or it is told of the tables that there were why there is none
  pub why-unread : HasCleanDisk e → (r : Result Shop OpenFault)
      → Reads AreBooksOf (WhyBut IsOfOtherVersion) d e r → IfErr r (WhyNotMigrated a.now.trees)
  why-unread clean (Ok shop) read = tt
  why-unread clean (Err fault) read =
      why-not-migrated a.now.trees fault (why-not-read a.now.trees d.now.trees row old second fault (read.why clean))

-- what a crash leaves where the commit failed
may_be_moved : (before trees : Trees) (a b : sqlite.State) (fault : TableFault) → Stops a b fault
    → AreBroughtUp before trees → MayBeMigrated before trees (open_fault_of fault)
may_be_moved before trees a b TheFault.Memory stops moved = absurd stops
may_be_moved before trees a b (TheFault.Store failed) stops moved = moved
may_be_moved before trees a b (TheFault.NoTable failed) stops moved = absurd stops
may_be_moved before trees a b (TheFault.BadRow failed) stops moved = absurd stops

pub told-moved : (before trees : Trees) (a b : sqlite.State) (fault : TableFault) (told : OpenFault)
    → told ≡ open_fault_of fault → Stops a b fault → AreBroughtUp before trees → MayBeMigrated before trees told
told-moved before trees a b fault told is stops moved =
    subst (MayBeMigrated before trees) (sym is) (may_be_moved before trees a b fault stops moved)

-- the books of tables of this version, or why there are none
pub books-found : (a b : sqlite.State) → HasCleanDisk b → (r : Result Shop OpenFault)
    → Reads AreBooksOf (WhyBut IsOfOtherVersion) a b r → IfOk r (AreBooksOfEither a.now.trees)
books-found a b clean (Ok shop) read = books-now a.now.trees shop (read.gives clean)
books-found a b clean (Err e) read = tt

pub books-missed : (a b : sqlite.State) → HasCleanDisk b → IsSound desk_schema a.now.trees
    → (r : Result Shop OpenFault) → Reads AreBooksOf (WhyBut IsOfOtherVersion) a b r
    → IfErr r (WhyNotMigrated a.now.trees)
books-missed a b clean listed (Ok shop) read = tt
books-missed a b clean listed (Err e) read = why-not-now a.now.trees listed e (read.why clean)
