-- What the statement that loads a table means, and what it shows.
use Rattle.std.proofs.Common.{◌≡◌, ◌⊎◌, ◌<◌, inl, inr, ℕ, pos, negsuc, List, [], ◌∷◌, map}
use Rattle.std.proofs.Common.{false, None, refl, sym, ap, subst, ◌∙◌, arith}
use Rattle.std.specs.List.{flat_map}
use Rattle.std.specs.List.Sorted.{IsPermutation}
use Rattle.sqlite.specs.declared.types.Value.TheVariants.{Null, Int}
use Rattle.sqlite.specs.Order.{Row, column}
use Rattle.sqlite.specs.Schema.{Schema}
use Rattle.sqlite.specs.Term.{lit, col}
use Rattle.sqlite.specs.Program.{overlay}
use Rattle.sqlite.specs.Query.{Query, inner, end, IsAnswer, Output, output}
use Rattle.sqlite.specs.Collation.TheVariants.{Binary}
use Rattle.sqlite_value.specs.Keys.{ascending}
use Rattle.sqlite.specs.Command.TheVariants.{Select}
use Rattle.sqlite.specs.Effect.{Database}
use Rattle.sqlite.specs.Listing.{understood, reads_listing, IsSourceOf}
use Rattle.sqlite.specs.State.{State, Shown, ShowsRows, FailsToQuery, FailsToShow, IsNotRun, IsStatement}
use Rattle.sqlite.specs.State.{IsUnchanged, IsRolledBack, CommitsShowing, Survives, HasCleanDisk}
use Rattle.sqlite.specs.declared.error.Error.{Error}
use Rattle.sqlite.specs.Clock.{timed}
use Rattle.sqlite.proofs.Callers.{IsPlain, EndsIn, reads_as, never_commits}
use Rattle.sqlite.proofs.StateLemmas.{survives_weaker}
use Rattle.sqlite_resolve.specs.declared.compiled.Compiled.{Compiled}
use Rattle.sqlite_tied.specs.Compute.{everything}
use Rattle.table_store.specs.declared.name.TableName.{TableName}
use Rattle.table_store.specs.declared.name.TableName.TheVariants.{Meta, Categories, Locations, Parts, Lines}
use Rattle.table_store.specs.declared.name.TableName.TheVariants.{Substitutes, Items, History, Orders}
use Rattle.table_store.specs.declared.name.TableName.TheVariants.{OrderLines, Builds, Allocations, Kept, Spent}
use Rattle.sqlite_schema.specs.declared.schema.Column.{Column as TableColumn}
use Rattle.table_store.specs.Schema.{columns_of, desk_schema, old_schema, position, tree_number}
use Rattle.table_store.specs.Texts.{load_text}
use Rattle.table_store.specs.Values.{places, shown_row, IsByWord, IsLoaded, HasTable, HasTables}
use Rattle.table_store.proofs.Plans.{IsCommand}
use Rattle.table_store.proofs.Putting.{of_command}
use Rattle.table_store.proofs.Ordered.{in_order, loads}

-- the names of the columns
abbrev headings : TableName → List (List ℕ)
headings table = map (λ (c : TableColumn). c.name) (columns_of table)

abbrev by_word : Query
by_word = record {
  from = inner 12 end;
  filter = [];
  group = None;
  project = map (col 1) (places Kept);
  distinct = false;
  collations = [];
  order = (col 1 1, ascending Binary) ∷ [];
  limit = lit (Int (negsuc 0));
  offset = lit (Int (pos 0));
}

abbrev load_query : TableName → Query
load_query Kept = by_word
load_query table = in_order (tree_number table) (map (col 1) (places table))

load_is : (table : TableName) → IsCommand (Select (record { lets = []; body = load_query table }) (headings table))
    (understood desk_schema (load_text table))
unfolding understood everything
load_is Kept = (refl, refl, refl)
load_is _ = (refl, refl, refl)

unlisted : (table : TableName) → reads_listing desk_schema (load_text table) ≡ false
unfolding understood everything
unlisted Kept = refl
unlisted _ = refl

-- the text means the same in the tables of version 1
old_load_is : (table : TableName) → position table < 13
    → IsCommand (Select (record { lets = []; body = load_query table }) (headings table))
    (understood old_schema (load_text table))
unfolding understood everything
old_load_is Spent low = absurd (omega (arith, low))
old_load_is _ low = (refl, refl, refl)

old_unlisted : (table : TableName) → position table < 13 → reads_listing old_schema (load_text table) ≡ false
unfolding understood everything
old_unlisted Spent low = absurd (omega (arith, low))
old_unlisted _ low = refl

-- the text reads the table, where the schema has it
record IsUnderstood (table : TableName) (schema : Schema) : Type 0 where
  pub command : IsCommand (Select (record { lets = []; body = load_query table }) (headings table))
      (understood schema (load_text table))
  pub unlisted : reads_listing schema (load_text table) ≡ false

means : (table : TableName) (s : State) → HasTable table s → IsUnderstood table s.now.schema
means table s has = elim has.listed [
  | inl own ↦
      subst (IsUnderstood table) (sym own) (record { command = load_is table; unlisted = unlisted table })
  | inr old ↦
      subst (IsUnderstood table) (sym old.0)
      (record { command = old_load_is table old.1; unlisted = old_unlisted table old.1 })
]

-- a table among all of them
pub one_of_all : (table : TableName) (s : State) → HasTables s → HasTable table s
one_of_all table s has = record { listed = inl has.schema; shaped = has.shaped table }

-- ---- the rows by their words

abbrev output_of : Row → Output
output_of r = (column r 1 ∷ [], shown_row Kept r)

outputs : (rows : List Row) → map (output by_word) (flat_map (λ r. ([] ∷ r ∷ []) ∷ []) rows) ≡ map output_of rows
outputs [] = refl
outputs (r ∷ rows) = ap (λ l. output_of r ∷ l) (outputs rows)

loads_kept : (rows shown : List Row) (db : ℕ → List Row) → db 12 ≡ rows → IsAnswer by_word db [] shown
    → IsByWord rows shown
loads_kept rows shown db is a =
    let kept : a.kept ≡ map output_of rows =
    a.distinct ∙ ap (map (output by_word)) a.grouped ∙ outputs (db 12) ∙ ap (map output_of) is in
    record {
      pairs = a.ordered;
      same = subst (λ k. IsPermutation k a.ordered) kept a.same;
      sorted = a.sorted;
      shown_are = a.shown;
    }

-- ---- any table

answer : (table : TableName) (old new : State) (rows : List Row) → HasTable table old
    → Shown (load_text table) [] old new rows → IsAnswer (load_query table) (overlay old.now.trees []) [] rows
answer table old new rows has h =
    let meant = means table old has in
    let known = of_command _ _ meant.command in
    (reads_as (load_text table) [] old new old.now.schema refl
    (Select (record { lets = []; body = load_query table }) (headings table)) known.0 known.1 meant.unlisted rows
    h).answer Null

pub loads_table : (table : TableName) (old new : State) (rows : List Row) → HasTable table old
    → Shown (load_text table) [] old new rows → IsLoaded table (old.now.trees (tree_number table)) rows
loads_table Kept old new rows has h =
    loads_kept (old.now.trees 12) rows (overlay old.now.trees []) refl (answer Kept old new rows has h)
loads_table table old new rows has h =
    loads (tree_number table) (map (col 1) (places table)) [] (overlay old.now.trees []) rows has.shaped.0 (answer table old new rows has h)

pub plain : (table : TableName) (s : State) → HasTable table s → IsPlain (understood s.now.schema (load_text table))
plain table s has = (of_command _ _ (means table s has).command).1

-- the query has no recursion: rows that begin its answer are the first of a whole one
pub begun_loads : (table : TableName) (s : State) → HasTable table s → (c : Compiled) (db : Database)
    (it : IsStatement s (load_text table) [] c) → IsSourceOf (reads_listing s.now.schema (load_text table)) s.now db
    → EndsIn c.command db (timed [] c.formats it.now)
begun_loads table s has c db it source =
    let command = subst (IsCommand (Select (record { lets = []; body = load_query table }) (headings table))) it.is
    (means table s has).command in
    subst (λ k. EndsIn k db (timed [] c.formats it.now)) (sym command.0) tt

pub loading_changes_nothing : (table : TableName) (old new : State) (rows : List Row) → HasTable table old
    → Shown (load_text table) [] old new rows → IsUnchanged old new
unfolding Shown
loading_changes_nothing table old new rows has h =
    let bare = subst IsPlain h.1.is (plain table old has) in
    (subst (ShowsRows old new (load_text table) h.0 (timed [] h.0.formats h.1.now) rows) bare.0 h.2).3

pub loading_commits_nothing : (table : TableName) (old new : State) → (HasCleanDisk old → HasTable table old)
    → Survives old new (CommitsShowing (load_text table) [] old) → Survives old new (λ _. ⊥)
loading_commits_nothing table old new has s =
    survives_weaker old new _ _
    (λ clean db h.
    never_commits (load_text table) [] old db (plain table old (has (omega (arith, clean, s.clean)))) h)
    s

pub loading_fails : (table : TableName) (old new : State) (e : Error) → HasTable table old
    → FailsToQuery (load_text table) [] old new e → IsUnchanged old new ⊎ IsRolledBack old new
unfolding FailsToQuery IsNotRun
loading_fails table old new e has (inl h) = elim h [ inl none ↦ inl none.1 | inr fails ↦ inr fails.3 ]
loading_fails table old new e has (inr h) =
    let bare = subst IsPlain h.1.is (plain table old has) in
    inl (subst (FailsToShow old new (load_text table) h.0 (timed [] h.0.formats h.1.now) e) bare.0 h.2).3
