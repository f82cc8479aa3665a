-- Calls that read the tables, one after another.
use Rattle.std.proofs.Common.{List, Option, ◌≡◌, ◌⊎◌, inl, inr, Ok, Err, OnOk, Result, sym, subst, ◌∙◌, arith}
use Rattle.sqlite.proofs.Callers.{unchanged_then}
use Rattle.sqlite.proofs.StateLemmas.{survives_then}
use Rattle.sqlite.specs.Effect.{Database}
use Rattle.sqlite.specs.State.{State, HasCleanDisk, IsRolledBack, IsUnchanged, Survives}
use Rattle.sqlite.specs.Tree.{Trees}
use Rattle.sqlite_trees.specs.View.{IsShaped}
use Rattle.sqlite_trees.specs.declared.store.Shape.TheVariants.{Table}
use Rattle.desk_store.specs.Loading.{Reads}
use Rattle.desk_store.specs.declared.fault.OpenFault.{OpenFault}
use Rattle.sheet_core.specs.declared.column.Column.{Column}
use Rattle.table_store.specs.Schema.{desk_schema, tree_number}
use Rattle.table_store.specs.Stored.{FailsToLoad}
use Rattle.table_store.specs.Transactions.{MayUndo}
use Rattle.table_store.specs.declared.fault.TableFault.{TableFault}
use Rattle.table_store.specs.declared.fault.TableFault.TheVariants.{Memory, Store, NoTable, BadRow}
use Rattle.table_store.specs.declared.name.TableName.{TableName}
use Rattle.table_store.specs.Values.{HasTables}

-- the tables were read, and nothing has changed
pub record HasRead (old new : State) : Type 0 where
  pub same : HasCleanDisk new → IsUnchanged old new
  pub crash : Survives old new (λ _. ⊥)

-- the disk was clean before, too
pub was-clean : (old new : State) (P : Trees → Type 0) → Survives old new P → HasCleanDisk new → HasCleanDisk old
was-clean old new P s clean = omega (arith, s.clean, clean)

-- one call after another
pub read-then : (a b c : State) → HasRead a b → HasRead b c → HasRead a c
read-then a b c one two = record {
  same = λ clean. unchanged_then a b c (one.same (was-clean b c _ two.crash clean)) (two.same clean);
  crash = survives_then a b c _ _ _ (λ _ db none. none) (λ _ db none. none) one.crash two.crash;
}

-- what a fault of the tables leaves
pub may_undo : (a b : State) (fault : TableFault) → MayUndo a b fault → IsUnchanged a b ⊎ IsRolledBack a b
may_undo a b Memory same = inl same
may_undo a b (Store failed) may = may
may_undo a b (NoTable failed) same = inl same
may_undo a b (BadRow failed) same = inl same

pub fails_to_load : {R : Type 0} (from : List Column → Option R) (table : TableName) (a b : State) (fault : TableFault)
    → FailsToLoad from table a b fault → IsUnchanged a b ⊎ IsRolledBack a b
fails_to_load from table a b Memory same = inl same
fails_to_load from table a b (Store failed) may = may
fails_to_load from table a b (NoTable failed) never = absurd never
fails_to_load from table a b (BadRow failed) bad = inl bad.1

-- the tables are still there
pub still-tables : (a b : State) → HasRead a b → (HasCleanDisk a → HasTables a) → HasCleanDisk b → HasTables b
still-tables a b read tables clean =
    let was = tables (was-clean a b _ read.crash clean) in
    let same = sym (read.same clean).0.now_is in
    record {
      schema = subst (λ (d : Database). d.schema ≡ desk_schema) same was.schema;
      shaped = λ table. subst (λ (d : Database). IsShaped Table (d.trees (tree_number table))) same (was.shaped table);
    }

module _ {X : Type 0} (Gives : Trees → X → Type 0) (Why : Trees → OpenFault → Type 0) where
  pub has-read : (a b : State) (x : X) → Reads Gives Why a b (Ok x) → HasRead a b
  has-read a b x r = record { same = r.same; crash = r.crash }

  -- what a later call found is so of the tables as they were first
  pub gives-first : (a b c : State) (x : X) → HasRead a b → Reads Gives Why b c (Ok x) → HasCleanDisk c
      → Gives a.now.trees x
  gives-first a b c x read r clean =
      subst (λ d. Gives d.trees x) (read.same (was-clean b c _ r.crash clean)).0.now_is (r.gives clean)

  -- what was read is what the call answers
  pub reads-ok : (a b : State) (x : X) → HasRead a b → (HasCleanDisk b → Gives a.now.trees x)
      → Reads Gives Why a b (Ok x)
  reads-ok a b x read gives =
      record { gives = gives; why = λ _. tt; same = read.same; failed = λ _. tt; crash = read.crash }

  -- what was read tells why there is nothing
  pub reads-why : (a b : State) (e : OpenFault) → HasRead a b → (HasCleanDisk b → Why a.now.trees e)
      → Reads Gives Why a b (Err e)
  reads-why a b e read why =
      record { gives = λ _. tt; why = why; same = λ _. tt; failed = λ clean. inl (read.same clean); crash = read.crash }

module _ {X : Type 0} (Gives : Trees → X → Type 0) (Why Reason : Trees → OpenFault → Type 0) where
  -- what tells why there is nothing tells it in other words
  pub reads-as : (a b : State) (r : Result X OpenFault)
      → (HasCleanDisk b → (e : OpenFault) → Why a.now.trees e → Reason a.now.trees e)
      → Reads Gives Why a b r → Reads Gives Reason a b r
  reads-as a b (Ok x) told read =
      record { gives = read.gives; why = λ _. tt; same = read.same; failed = read.failed; crash = read.crash }
  reads-as a b (Err e) told read = record {
    gives = read.gives;
    why = λ clean. told clean e (read.why clean);
    same = read.same;
    failed = read.failed;
    crash = read.crash;
  }
