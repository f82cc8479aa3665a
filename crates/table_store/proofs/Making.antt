-- What CREATE TABLE makes of the tables before it.
use Rattle.std.proofs.Common.{◌≡◌, ℕ, ◌+◌, ◌<◌, List, [], ◌∷◌, ◌++◌, false, IsTrue, None}
use Rattle.std.proofs.Common.{Ok, Result, inl, inr, refl, sym, ap, subst, ◌∙◌, arith}
use Rattle.std.specs.List.{AllByRecursion}
use Rattle.sqlite.specs.Table.{Table}
use Rattle.sqlite.specs.Schema.{Schema}
use Rattle.sqlite.specs.Tree.{Trees}
use Rattle.sqlite.specs.Change.{created, next_tree, KeepsRows}
use Rattle.sqlite.specs.Compile.{table_defined_by}
use Rattle.sqlite.specs.Command.TheVariants.{CreateTable}
use Rattle.sqlite.specs.Does.{Tally, lacks_sequence}
use Rattle.sqlite.specs.Effect.{Database}
use Rattle.sqlite.specs.State.{State, Writes, Executes, CommitsBy, Survives, KeepsCommit, HasCleanDisk}
use Rattle.sqlite.specs.Listing.{understood}
use Rattle.sqlite_tied.specs.Compute.{everything}
use Rattle.sqlite_trees.specs.View.{IsShaped}
use Rattle.sqlite_trees.specs.declared.store.Shape.TheVariants as shape
use Rattle.sqlite.proofs.Callers.{IsPlain, command_of, statement_of, runs_as}
use Rattle.table_store.specs.declared.name.TableName.{TableName}
use Rattle.table_store.specs.declared.name.TableName.TheVariants.{Meta, Categories, Locations, Parts, Lines}
use Rattle.table_store.specs.declared.name.TableName.TheVariants.{Substitutes, Items, History, Orders}
use Rattle.table_store.specs.declared.name.TableName.TheVariants.{OrderLines, Builds, Allocations, Kept, Spent}
use Rattle.table_store.specs.Schema.{desk_schema, old_schema, position, table_of, tree_number, schema_up_to}
use Rattle.table_store.specs.Texts.{create_text}
use Rattle.table_store.specs.Making.{HasMade, HasSecond}
use Rattle.table_store.specs.Values.{HasOldTables, HasTables}
use Rattle.table_store.proofs.Inside.{Ends, inside_only, shows_inside}
use Rattle.table_store.proofs.Parts.{went, same_value}

same_table : {E : Type 0} {a b : Table} → ◌≡◌ {A = Result Table E} (Ok a) (Ok b) → a ≡ b
same_table e = cc

makes : (before after : Schema) (table : Table) (old new : State) (text : List ℕ) (count : ℕ) → old.now.schema ≡ before
    → table_defined_by text ≡ Ok table → created before table ≡ after → lacks_sequence after ≡ false
    → (w : Writes old new None CreateTable text [] count)
    → (new.now.schema ≡ after) × (new.now.trees (next_tree before) ≡ [])
    × KeepsRows before.tables old.now.trees new.now.trees
makes before after table old new text count has defined grows lacks w =
    let all = went w.changed in
    let first = went all.1 in
    let made = first.1 in
    let same : made.table ≡ table = same_table (sym made.defined ∙ defined) in
    let schema : first.0.schema ≡ after =
    made.is ∙ ap (λ s. created s made.table) has ∙ ap (created before) same ∙ grows in
    let plain : lacks_sequence first.0.schema ≡ false = ap lacks_sequence schema ∙ lacks in
    let now : new.now ≡ first.0 =
    ap (λ (p : Tally × Database). p.1) (same_value all.2) ∙ same_value (rw plain at first.2) in (
      ap (λ (d : Database). d.schema) now ∙ schema,
      ap (λ (d : Database). d.trees (next_tree before)) now
          ∙ subst (λ s. first.0.trees (next_tree s) ≡ []) has made.empty,
      subst (λ t. KeepsRows before.tables old.now.trees t) (sym (ap (λ (d : Database). d.trees) now))
          (subst (λ s. KeepsRows s.tables old.now.trees first.0.trees) has made.others),
    )

-- what the text of one table means where those before it are there
record Creates (name : TableName) : Type 0 where
  pub is : command_of (understood (schema_up_to (position name)) (create_text name)) ≡ CreateTable
  pub plain : IsPlain (understood (schema_up_to (position name)) (create_text name))
  pub whole : statement_of (create_text name) (understood (schema_up_to (position name)) (create_text name))
      ≡ create_text name
  pub defines : table_defined_by (create_text name) ≡ Ok (record (table_of name) { tree = 0 })
  pub grows : created (schema_up_to (position name)) (record (table_of name) { tree = 0 })
      ≡ schema_up_to (position name + 1)
  pub lacks : lacks_sequence (schema_up_to (position name + 1)) ≡ false

creates : (name : TableName) → Creates name
unfolding understood everything
creates Kept = record { is = refl; plain = (refl, refl); whole = refl; defines = refl; grows = refl; lacks = refl }
creates _ = record { is = refl; plain = (refl, refl); whole = refl; defines = refl; grows = refl; lacks = refl }

one_more : (P : Table → Type 0) (tables : List Table) (table : Table) → AllByRecursion P tables → P table
    → AllByRecursion P (tables ++ table ∷ [])
one_more P [] table all it = (it, tt)
one_more P (t ∷ tables) table all it = (all.0, one_more P tables table all.1 it)

still_empty : (tables : List Table) (old new : Trees) → KeepsRows tables old new
    → AllByRecursion (λ t. old t.tree ≡ []) tables → AllByRecursion (λ t. new t.tree ≡ []) tables
still_empty [] old new kept empty = tt
still_empty (t ∷ tables) old new kept empty = (kept.0 ∙ empty.0, still_empty tables old new kept.1 empty.1)

pub makes_one : (name : TableName) (old new : State) (count : ℕ) → HasMade (position name) old
    → Executes (create_text name) [] old new (Ok count)
    → HasMade (position name + 1) new × KeepsCommit old new
makes_one name old new count has h =
    let c = creates name in
    let before = schema_up_to (position name) in
    let table = record (table_of name) { tree = 0 } in
    let ran = runs_as (create_text name) [] old new before has.schema CreateTable c.is c.plain count h in
    let w = subst (λ t. Writes old new None CreateTable t [] count) c.whole ran in
    let made =
    makes before (schema_up_to (position name + 1)) table old new (create_text name) count has.schema c.defines c.grows
    c.lacks w in
    let shown = shows_inside old new has.inside w.shown in
    let were = subst (λ s. AllByRecursion (λ t. old.now.trees t.tree ≡ []) s.tables) has.schema has.empty in
    let all =
    one_more (λ t. new.now.trees t.tree ≡ []) before.tables (record table { tree = next_tree before })
    (still_empty before.tables old.now.trees new.now.trees made.2 were) made.1 in (
      record {
        schema = made.0;
        empty = subst (λ s. AllByRecursion (λ t. new.now.trees t.tree ≡ []) s.tables) (c.grows ∙ sym made.0) all;
        inside = shown.mode;
      },
      record { was_open = λ _. shown.was_open; committed = λ _. shown.committed_is },
    )

pub creating_commits_nothing : (name : TableName) (old new : State) → (HasCleanDisk old → HasMade (position name) old)
    → Survives old new (CommitsBy (create_text name) [] old) → Survives old new (λ _. ⊥)
creating_commits_nothing name old new has s =
    let c = creates name in
    inside_only (create_text name) [] old new (schema_up_to (position name)) CreateTable c.is c.plain never
    (λ clean. ((has clean).schema, (has clean).inside)) s
  where
    never : ¬ Ends CreateTable
    never (inl e) = cc
    never (inr e) = let is = e.1 in cc

-- ---- from version 1 to version 2

module _ (old new : State) where
  rows_kept : KeepsRows old_schema.tables old.now.trees new.now.trees → (table : TableName) → position table < 13
      → new.now.trees (tree_number table) ≡ old.now.trees (tree_number table)
  rows_kept k Meta lt = k.0
  rows_kept k Categories lt = k.1.0
  rows_kept k Locations lt = k.1.1.0
  rows_kept k Parts lt = k.1.1.1.0
  rows_kept k Lines lt = k.1.1.1.1.0
  rows_kept k Substitutes lt = k.1.1.1.1.1.0
  rows_kept k Items lt = k.1.1.1.1.1.1.0
  rows_kept k History lt = k.1.1.1.1.1.1.1.0
  rows_kept k Orders lt = k.1.1.1.1.1.1.1.1.0
  rows_kept k OrderLines lt = k.1.1.1.1.1.1.1.1.1.0
  rows_kept k Builds lt = k.1.1.1.1.1.1.1.1.1.1.0
  rows_kept k Allocations lt = k.1.1.1.1.1.1.1.1.1.1.1.0
  rows_kept k Kept lt = k.1.1.1.1.1.1.1.1.1.1.1.1.0
  rows_kept k Spent lt = absurd (omega (arith, lt))

  -- `spent` is made beside the rows of version 1
  pub adds_spent : (count : ℕ) → old.now.schema ≡ old_schema → IsTrue old.in_transaction
      → Executes (create_text Spent) [] old new (Ok count)
      → HasSecond old new × KeepsCommit old new
  adds_spent count has inside h =
      let c = creates Spent in
      let table = record (table_of Spent) { tree = 0 } in
      let ran = runs_as (create_text Spent) [] old new old_schema has CreateTable c.is c.plain count h in
      let w = subst (λ t. Writes old new None CreateTable t [] count) c.whole ran in
      let made = makes old_schema desk_schema table old new (create_text Spent) count has c.defines c.grows c.lacks w in
      let shown = shows_inside old new inside w.shown in (
        record { schema = made.0; spent = made.1; rows = rows_kept made.2; inside = shown.mode },
        record { was_open = λ _. shown.was_open; committed = λ _. shown.committed_is },
      )

  -- and a crash leaves nothing new
  pub adding_commits_nothing : (HasCleanDisk old → (old.now.schema ≡ old_schema) × IsTrue old.in_transaction)
      → Survives old new (CommitsBy (create_text Spent) [] old) → Survives old new (λ _. ⊥)
  adding_commits_nothing has s =
      let c = creates Spent in
      inside_only (create_text Spent) [] old new old_schema CreateTable c.is c.plain never has s
    where
      never : ¬ Ends CreateTable
      never (inl e) = cc
      never (inr e) = let is = e.1 in cc

  -- all tables are there then
  pub second_tables : HasOldTables old → HasSecond old new → HasTables new
  second_tables had second = record { schema = second.schema; shaped = each }
    where
      stays : (table : TableName) → position table < 13 → IsShaped shape.Table (new.now.trees (tree_number table))
      stays table low = subst (IsShaped shape.Table) (sym (second.rows table low)) (had.shaped table low)

      each : (table : TableName) → IsShaped shape.Table (new.now.trees (tree_number table))
      each Spent = subst (IsShaped shape.Table) (sym second.spent) (tt, tt)
      each table = stays table (omega arith)
