-- How the tables of a transaction go over from one state to another.
use Rattle.std.proofs.Common.{◌≡◌, ◌≢◌, ◌⊎◌, inl, inr, ℕ, ◌+◌, ◌<◌, ◌≤◌, Bool, true, false, List, [], ◌∷◌, get_or, Result}
use Rattle.std.proofs.Common.{Ok, Err, OnOk, OnErr, IfErr, refl, sym, ap, ◌∙◌, subst, arith, IsTrue}
use Rattle.std.proofs.lemmas.Bool.{cases_lt}
use Rattle.std.specs.Result.{IsErrAnd}
use Rattle.sqlite.proofs.StateLemmas.{survives_then}
use Rattle.sqlite.specs.Order.{Row}
use Rattle.sqlite.specs.State as sqlite
use Rattle.sqlite.specs.State.{IsRolledBack, IsUnchanged, KeepsCommit, Shows}
use Rattle.sqlite.specs.Effect.{Database}
use Rattle.sqlite.specs.Tree.{Trees}
use Rattle.sqlite_trees.specs.View.{IsShaped}
use Rattle.sqlite_trees.specs.declared.store.Shape.TheVariants.{Table}
use Rattle.desk_core.specs.Machine.{State}
use Rattle.desk_store.specs.MetaColumns.{meta_of}
use Rattle.desk_store.specs.StateTables.{HoldsBooks, IsTableIn, IsTableSoFar, TablesAre, TablesAreSoFar}
use Rattle.desk_store.specs.Saving.{Goes, IsMidway, IsUnderWay, turn_of}
use Rattle.table_store.specs.Schema.{position, tree_number}
use Rattle.table_store.specs.Transactions.{IsBack, IsOfMemoryOrStore, MayUndo, Stops, StopsBy}
use Rattle.table_store.specs.Values.{HasTables}
use Rattle.table_store.specs.Written.{IsReady, Writes, tree_of}
use Rattle.table_store.specs.declared.fault.Cause.{Cause}
use Rattle.table_store.specs.declared.fault.Cause.TheVariants as cause
use Rattle.table_store.specs.declared.fault.TableFault.{TableFault}
use Rattle.table_store.specs.declared.fault.TableFault.TheVariants.{Memory, Store, NoTable, BadRow}
use Rattle.table_store.specs.declared.name.TableName.{TableName}
use Rattle.table_store.specs.declared.name.TableName.TheVariants.{Meta, Categories, Locations, Parts, Lines}
use Rattle.table_store.specs.declared.name.TableName.TheVariants.{Substitutes, Items, History, Orders}
use Rattle.table_store.specs.declared.name.TableName.TheVariants.{OrderLines, Builds, Allocations, Kept, Spent}

-- ---- the order of the tables

in_turn : List TableName
in_turn =
    Categories ∷ Locations ∷ Parts ∷ Lines ∷ Substitutes ∷ Items ∷ History ∷ Orders ∷ OrderLines ∷ Builds
    ∷ Allocations ∷ Kept ∷ Spent ∷ Meta ∷ []

in_own_turn : (t : TableName) → get_or in_turn (turn_of t) Meta ≡ t
unfolding in_turn
in_own_turn Kept = refl
in_own_turn _ = refl

one_turn : (t u : TableName) → turn_of t ≡ turn_of u → t ≡ u
one_turn t u e = sym (in_own_turn t) ∙ ap (λ n. get_or in_turn n Meta) e ∙ in_own_turn u

within : (t : TableName) → turn_of t < 14
within Kept = omega arith
within _ = omega arith

-- a further table has its turn by its place
pub next_turn : (t : TableName) (n : ℕ) → position t ≡ n + 1 → turn_of t ≡ n
next_turn Meta n e = absurd (omega (arith, e))
next_turn t n e = omega (arith, e)

-- ---- the row of the counter, which is written last

so_far_one : (s : State) (t : TableName) (tree : List Row) → IsTableIn s t tree → IsTableSoFar s t tree
so_far_one s Meta tree h = record { row = meta_of s; key = refl; table = h }
so_far_one s t tree h = h

-- tables that hold a state hold it so far
pub so_far : (s : State) (trees : Trees) → TablesAre s trees → TablesAreSoFar s trees
so_far s trees h table = so_far_one s table (trees (tree_number table)) (h table)

further_one : (s : State) (t : TableName) (tree : List Row) → turn_of t < 13 → IsTableSoFar s t tree → IsTableIn s t tree
further_one s Meta tree low h = absurd (omega (arith, low))
further_one s t tree low h = h

last_one : (s s' : State) (t : TableName) (tree : List Row) → 13 ≤ turn_of t → IsTableSoFar s t tree
    → IsTableSoFar s' t tree
last_one s s' Meta tree high h = h
last_one s s' t tree high h = absurd (omega (arith, high))

-- ... and all but the last are written of it, whatever was before
pub all_but_last : (old s : State) (trees : Trees) → TablesAreSoFar s trees → IsMidway old s 13 trees
all_but_last old s trees h = record {
  written = λ t low. further_one s t (trees (tree_number t)) low (h t);
  left = λ t above. last_one s old t (trees (tree_number t)) above (h t);
}

-- ---- one table

module _ (old new : State) (table : TableName) (d e : sqlite.State) (way : IsUnderWay old new (turn_of table) d)
    (ready : IsReady e)
    (others : (other : TableName) → other ≢ table → tree_of other e ≡ tree_of other d)
    (is : IsTableIn new table (tree_of table e)) where
  as_before : (t : TableName) (P : List Row → Type 0) → turn_of t ≢ turn_of table → P (tree_of t d) → P (tree_of t e)
  as_before t P apart h = subst P (sym (others t (λ same. apart (ap turn_of same)))) h

  written : (t : TableName) → turn_of t < turn_of table + 1 → IsTableIn new t (tree_of t e)
  written t low = elim (cases_lt (turn_of t) (turn_of table)) [
    | inl before ↦ as_before t (IsTableIn new t) (λ same. omega (arith, before, same)) (way.midway.written t before)
    | inr high ↦
        let same : turn_of t ≡ turn_of table = omega (arith, low, high) in
        subst (λ u. IsTableIn new u (tree_of u e)) (one_turn table t (sym same)) is
  ]

  left : (t : TableName) → turn_of table + 1 ≤ turn_of t → IsTableSoFar old t (tree_of t e)
  left t above =
      as_before t (IsTableSoFar old t) (λ same. omega (arith, above, same)) (way.midway.left t (omega (arith, above)))

  -- the table whose turn it is has become the new state's
  pub one_more : IsUnderWay old new (turn_of table + 1) e
  one_more = record { ready = ready; midway = record { written = written; left = left } }

-- the table whose turn it is was written
pub one_written : (old new : State) (table : TableName) (d e : sqlite.State) → IsUnderWay old new (turn_of table) d
    → Writes table d e → IsTableIn new table (tree_of table e)
    → IsUnderWay old new (turn_of table + 1) e
one_written old new table d e way wrote is =
    one_more old new table d e way ((wrote.tables, wrote.shown.mode), wrote.shown.is_open) wrote.others is

pub survives_same : (d : sqlite.State) → sqlite.Survives d d (λ _. ⊥)
survives_same d = record {
  clean = omega arith;
  shield = λ s. s;
  counts = omega arith;
  limit = refl;
  closes = λ clean up. inl up;
  crash = λ clean db may. inl may;
}

-- ---- the first and the last

pub none_yet : (old new : State) (trees : Trees) → TablesAreSoFar old trees → IsMidway old new 0 trees
none_yet old new trees h = record { written = λ t low. absurd (omega (arith, low)); left = λ t above. h t }

-- tables that hold a state are all written of it
pub all_written : (old s : State) (trees : Trees) → TablesAre s trees → IsMidway old s 14 trees
all_written old s trees h =
    record { written = λ t low. h t; left = λ t above. absurd (let low = within t in omega (arith, above, low)) }

pub all_of_them : (old new : State) (trees : Trees) → IsMidway old new 14 trees → TablesAre new trees
all_of_them old new trees h = λ t. h.written t (within t)

-- ---- the transaction

-- what was begun shows the tables as they were
pub begun : (old new : State) (d e : sqlite.State) → HoldsBooks old d → Shows d e d.now d.committed true → HasTables e
    → IsUnderWay old new 0 e
begun old new d e holds shown tables = record {
  ready = ((tables, shown.mode), shown.is_open);
  midway =
      subst (λ (db : Database). IsMidway old new 0 db.trees) (sym shown.now_is)
      (none_yet old new d.now.trees (so_far old d.now.trees holds.books));
}

-- what was committed holds the new state's tables
pub committed : (old new : State) (d e : sqlite.State)
    → ((db : Trees) → IsTrue e.is_open → e.may_leave db → db ≡ e.committed.trees)
    → IsUnderWay old new 14 d → Shows d e d.now d.now false → HasTables e → HoldsBooks new e
committed old new d e settled way shown tables =
    let all : TablesAre new d.now.trees = all_of_them old new d.now.trees way.midway in
    record {
      rest = record { is_open = shown.is_open; free = shown.mode; saved = shown.committed_is ∙ sym shown.now_is };
      tables = tables;
      books = subst (λ (db : Database). TablesAre new db.trees) (sym shown.now_is) all;
      left =
          λ trees may. subst (TablesAre new)
          (sym (settled trees shown.is_open may ∙ ap (λ (db : Database). db.trees) shown.committed_is)) all;
    }

-- what was undone holds the old state's tables again
pub undone : (s : State) (d m e : sqlite.State)
    → ((db : Trees) → IsTrue e.is_open → e.may_leave db → db ≡ e.committed.trees)
    → HoldsBooks s d → KeepsCommit d m → IsBack m e → IsTrue e.is_open → HoldsBooks s e
undone s d m e settled holds kept back up =
    let saved : e.committed ≡ d.now = (back.undone up).1 ∙ kept.committed (back.was_open up) ∙ holds.rest.saved in
    let shown : e.now ≡ d.now = (back.undone up).0 ∙ kept.committed (back.was_open up) ∙ holds.rest.saved in
    record {
      rest = record { is_open = up; free = back.autocommit; saved = saved ∙ sym shown };
      tables = record {
        schema = ap (λ (db : Database). db.schema) shown ∙ holds.tables.schema;
        shaped =
            λ table. subst (λ (db : Database). IsShaped Table (db.trees (tree_number table))) (sym shown)
            (holds.tables.shaped table);
      };
      books = subst (λ (db : Database). TablesAre s db.trees) (sym shown) holds.books;
      left =
          λ trees may.
          subst (TablesAre s) (sym (settled trees up may ∙ ap (λ (db : Database). db.trees) saved)) holds.books;
    }

-- ---- what was committed before

pub keeps_then : (a b c : sqlite.State) → KeepsCommit a b → KeepsCommit b c → KeepsCommit a c
keeps_then a b c one two = record {
  was_open = λ up. one.was_open (two.was_open up);
  committed = λ up. two.committed up ∙ one.committed (two.was_open up);
}

pub keeps_shown : (a b : sqlite.State) (now : Database) (inside : Bool) → Shows a b now a.committed inside
    → KeepsCommit a b
keeps_shown a b now inside shown = record { was_open = λ _. shown.was_open; committed = λ _. shown.committed_is }

keeps_undone : (a b : sqlite.State) → IsRolledBack a b → KeepsCommit a b
keeps_undone a b back = record { was_open = back.was_open; committed = λ up. (back.undone up).1 }

keeps_stopped : (a b : sqlite.State) (c : Cause) → StopsBy a b c → KeepsCommit a b
keeps_stopped a b (cause.Database error) h = keeps_undone a b h.3
keeps_stopped a b (cause.NoTable table) h = absurd h
keeps_stopped a b (cause.BadRow table) h = absurd h
keeps_stopped a b cause.NoMemory h = absurd h
keeps_stopped a b cause.Displaced h = absurd h

pub keeps_failed : (a b : sqlite.State) (fault : TableFault) → Stops a b fault → KeepsCommit a b
keeps_failed a b Memory h = absurd h
keeps_failed a b (Store failed) h = keeps_stopped a b failed.cause h
keeps_failed a b (NoTable failed) h = absurd h
keeps_failed a b (BadRow failed) h = absurd h

pub keeps_unless : {A : Type 0} (a b : sqlite.State) (r : Result A TableFault) → IfErr r (Stops a b)
    → OnErr r (KeepsCommit a b)
keeps_unless a b (Ok x) h = tt
keeps_unless a b (Err fault) h = keeps_failed a b fault h

-- after a step that changed nothing, or that a fault of the database undid
keeps_same : (a b : sqlite.State) → IsUnchanged a b → KeepsCommit a b
keeps_same a b same = keeps_shown a b a.now a.in_transaction same.0

keeps_fault : (a b : sqlite.State) (fault : TableFault) → MayUndo a b fault → KeepsCommit a b
keeps_fault a b Memory same = keeps_same a b same
keeps_fault a b (Store failed) (inl same) = keeps_same a b same
keeps_fault a b (Store failed) (inr back) = keeps_undone a b back
keeps_fault a b (NoTable failed) same = keeps_same a b same
keeps_fault a b (BadRow failed) same = keeps_same a b same

pub keeps_row : {A : Type 0} (table : TableName) (a b : sqlite.State) (r : Result A TableFault)
    → OnOk r (Writes table a b) → IfErr r (MayUndo a b) → KeepsCommit a b
keeps_row table a b (Ok x) wrote failed = keeps_shown a b b.now true wrote.shown
keeps_row table a b (Err fault) wrote failed = keeps_fault a b fault failed

-- after a look at the tables
pub keeps_look : {A E : Type 0} (a b : sqlite.State) (r : Result A E) → OnOk r (IsUnchanged a b)
    → OnErr r (IsUnchanged a b ⊎ IsRolledBack a b) → KeepsCommit a b
keeps_look a b (Ok x) same failed = keeps_same a b same
keeps_look a b (Err e) same failed = elim failed [ inl same ↦ keeps_same a b same | inr back ↦ keeps_undone a b back ]

-- where a call changed what was committed only if it failed
pub keeps_later : {A E : Type 0} (a b c : sqlite.State) (r : Result A E) → KeepsCommit a b → OnErr r (KeepsCommit b c)
    → OnErr r (KeepsCommit a c)
keeps_later a b c (Ok x) one two = tt
keeps_later a b c (Err e) one two = keeps_then a b c one two

-- what two clauses of one call tell together
pub both_ok : {A E P Q R : Type 0} (r : Result A E) → (P → Q → R) → OnOk r P → OnOk r Q → OnOk r R
both_ok (Ok x) f p q = f p q
both_ok (Err e) f p q = tt

pub when_err : {A E P : Type 0} (r : Result A E) → P → OnErr r P
when_err (Ok x) p = tt
when_err (Err e) p = p

-- ---- a call that ends early

pub goes_fault :
    (old new : State) (n count : ℕ) (a b c : sqlite.State) (r : Result (Unit {0}) TableFault) (fault : TableFault)
    → IsErrAnd r (λ d. d ≡ fault) → sqlite.Survives a b (λ _. ⊥) → (sqlite.HasCleanDisk b → KeepsCommit a b)
    → Goes old new n b c (Err fault) → Goes old new count a c r
goes_fault old new n count a b c (Ok x) fault is before kept goes = absurd is
goes_fault old new n count a b c (Err e) fault is before kept goes = record {
  under_way = λ clean. tt;
  commit = λ clean. keeps_then a b c (kept (omega (arith, clean, goes.crash.clean))) (goes.commit clean);
  fault = subst IsOfMemoryOrStore (sym is) goes.fault;
  crash = survives_then a b c (λ _. ⊥) (λ _. ⊥) (λ _. ⊥) (λ _ db h. h) (λ _ db h. h) before goes.crash;
}
