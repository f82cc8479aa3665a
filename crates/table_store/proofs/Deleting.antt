-- What DELETE by the key makes of a table.
use Rattle.std.proofs.Common.{◌≡◌, ◌++◌, length, slice_get, ℕ, ℤ, pos, negsuc, List, [], ◌∷◌, map, Bool, true, false}
use Rattle.std.proofs.Common.{◌&&◌, cond, None, Some, Option, Ok, Result, refl, sym, ap, subst, ◌∙◌, true≢false, arith}
use Rattle.std.specs.Prelude.{if◌then◌else◌}
use Rattle.std.specs.List.{AllByRecursion, list_any, flat_map, filter}
use Rattle.std.proofs.lemmas.List.Sorted.{length_permutation, All-permutation}
use Rattle.std.proofs.lemmas.List.Elements.{All-from_recursion, recursion_from_All}
use Rattle.sqlite.specs.declared.types.Value.TheVariants.{Null, Int}
use Rattle.sqlite.specs.Order.{Row}
use Rattle.sqlite.specs.Term.{Env, lit, col, op2}
use Rattle.sqlite.specs.Query.{Query, inner, end, IsAnswer, Output, output}
use Rattle.sqlite.specs.Program.{overlay}
use Rattle.sqlite_sql.specs.declared.ops.BinaryOp.TheVariants.{Compare}
use Rattle.sqlite_sql.specs.declared.ops.CompareOp.TheVariants.{Eq}
use Rattle.sqlite.specs.Collation.TheVariants.{Binary}
use Rattle.sqlite.specs.Tree.{Trees, rowid, has_rowid, without_rowid}
use Rattle.sqlite.specs.Edit.{id_in, without_all}
use Rattle.sqlite_rules.specs.Calls.{ids_of}
use Rattle.std.proofs.lemmas.List.{length-map}
use Rattle.std.proofs.lemmas.Bool.{or_from, false_from_ne_true}
use Rattle.sqlite_rules.proofs.TableLemmas.{none_to_drop}
use Rattle.sqlite_schema.specs.Rules.{equal}
use Rattle.std.specs.Prelude.{nat_le, ◌^◌, ◌-◌, unwrap_or}
use Rattle.sqlite.specs.Table.{Table}
use Rattle.sqlite.specs.Schema.{Schema}
use Rattle.sqlite.specs.Edit.{edit_of, taken_by}
use Rattle.sqlite.specs.Command.{Command}
use Rattle.sqlite.specs.Command.TheVariants.{Delete}
use Rattle.sqlite.specs.Rowids.TheVariants.{Given}
use Rattle.sqlite_schema.specs.declared.schema.Keys.{Keys}
use Rattle.sqlite_rules.specs.Action.{works}
use Rattle.sqlite.specs.declared.error.Error.{Error}
use Rattle.sqlite.specs.Rows.{Task, Written}
use Rattle.sqlite.specs.Effect.{Database}
use Rattle.sqlite.specs.Does.{Tally, Does, AtPlace, OnRows}
use Rattle.sqlite.specs.State.{State, mode_of, Writes}
use Rattle.sqlite.proofs.Callers.{one_step}
use Rattle.table_store.proofs.Parts.{went, same_value, AreKeyed, SetsRows}
use Rattle.table_store.proofs.Replacing.{and_yes, same_key, key_found, without_each}

-- a loop of one table keeps the rows that pass
pub flat_filter : (p : Row → Bool) (f : Row → Env) (rows : List Row)
    → flat_map (λ r. if p r then f r ∷ [] else []) rows ≡ map f (filter p rows)
flat_filter p f [] = refl
flat_filter p f (r ∷ rows) = go (p r) (flat_filter p f rows)
  where
    go : (b : Bool) → flat_map (λ r. if p r then f r ∷ [] else []) rows ≡ map f (filter p rows)
        → (if b then f r ∷ [] else []) ++ flat_map (λ r. if p r then f r ∷ [] else []) rows
        ≡ map f (cond b (r ∷ filter p rows) (filter p rows))
    go true later = ap (λ l. f r ∷ l) later
    go false later = later

-- the rows of one table that have the key, by their keys
abbrev pub by_key : ℕ → Query
by_key tree = record {
  from = inner tree end;
  filter = op2 (Compare Eq Binary) (col 1 0) (col 0 0) ∷ [];
  group = None;
  project = col 1 0 ∷ [];
  distinct = false;
  collations = [];
  order = [];
  limit = lit (Int (negsuc 0));
  offset = lit (Int (pos 0));
}

abbrev has_key : ℤ → Row → Bool
has_key id r = equal Binary (rowid r) (Int id) && true

found_ids : (id : ℤ) (rows : List Row) → AreKeyed rows
    → AllByRecursion (λ (o : Output). id_in (rowid o.1) ≡ id) (map (λ r. ([], rowid r ∷ [])) (filter (has_key id) rows))
found_ids id [] ints = tt
found_ids id (r ∷ rows) ints = go (has_key id r) refl (found_ids id rows ints.1)
  where
    go : (b : Bool) → has_key id r ≡ b → AllByRecursion (λ (o : Output). id_in (rowid o.1) ≡ id)
        (map (λ r. ([], rowid r ∷ [])) (filter (has_key id) rows))
        → AllByRecursion (λ (o : Output). id_in (rowid o.1) ≡ id)
        (map (λ r. ([], rowid r ∷ [])) (cond b (r ∷ filter (has_key id) rows) (filter (has_key id) rows)))
    go true is later = (same_key (rowid r) id ints.0 (sym (and_yes _) ∙ is), later)
    go false is later = later

none_found : (id : ℤ) (rows : List Row) → AreKeyed rows → length (filter (has_key id) rows) ≡ 0
    → list_any (has_rowid id) rows ≡ false
none_found id [] ints none = refl
none_found id (r ∷ rows) ints none = go (has_key id r) refl none (none_found id rows ints.1)
  where
    go : (b : Bool) → has_key id r ≡ b → length (cond b (r ∷ filter (has_key id) rows) (filter (has_key id) rows)) ≡ 0
        → (length (filter (has_key id) rows) ≡ 0 → list_any (has_rowid id) rows ≡ false)
        → list_any (has_rowid id) (r ∷ rows) ≡ false
    go true is none later = absurd (omega arith)
    go false is none later =
        or_from _ _
        (false_from_ne_true _ (λ yes. true≢false (sym (and_yes _ ∙ key_found (rowid r) id ints.0 yes) ∙ is)))
        (later none)

abbrev key_of : Row → Output
key_of r = ([], rowid r ∷ [])

shown_keys : (tree : ℕ) (id : ℤ) (rows : List Row)
    → map (output (by_key tree)) (map (λ r. (Int id ∷ []) ∷ r ∷ []) rows) ≡ map key_of rows
shown_keys tree id [] = refl
shown_keys tree id (r ∷ rows) = ap (λ l. key_of r ∷ l) (shown_keys tree id rows)

their_ids : (id : ℤ) (all : List Output) → AllByRecursion (λ (o : Output). id_in (rowid o.1) ≡ id) all
    → AllByRecursion (λ i. i ≡ id) (ids_of (map (λ (o : Output). o.1) all))
their_ids id [] h = tt
their_ids id (o ∷ all) h = (h.0, their_ids id all h.1)

pub deletes_key : (tree : ℕ) (id : ℤ) (db : Trees) (rows : List Row) → AreKeyed (db tree)
    → IsAnswer (by_key tree) db (Int id ∷ []) rows → without_all (db tree) (ids_of rows) ≡ without_rowid id (db tree)
deletes_key tree id db rows ints a =
    let staged = a.grouped ∙ flat_filter (has_key id) (λ r. (Int id ∷ []) ∷ r ∷ []) (db tree) in
    let kept : a.kept ≡ map key_of (filter (has_key id) (db tree)) =
    a.distinct ∙ ap (map (output (by_key tree))) staged ∙ shown_keys tree id (filter (has_key id) (db tree)) in
    let P = λ (o : Output). id_in (rowid o.1) ≡ id in
    let all : AllByRecursion P a.ordered =
    recursion_from_All P a.ordered
    (All-permutation P a.kept a.ordered a.same
    (All-from_recursion P a.kept (subst (AllByRecursion P) (sym kept) (found_ids id (db tree) ints)))) in
    let count : length a.ordered ≡ length (filter (has_key id) (db tree)) =
    length_permutation a.kept a.ordered a.same ∙ ap length kept ∙ length-map (filter (has_key id) (db tree)) key_of in
    subst (λ l. without_all (db tree) (ids_of l) ≡ without_rowid id (db tree)) (sym a.shown) (go a.ordered all count)
  where
    go : (found : List Output) → AllByRecursion (λ (o : Output). id_in (rowid o.1) ≡ id) found
        → length found ≡ length (filter (has_key id) (db tree))
        → without_all (db tree) (ids_of (map (λ (o : Output). o.1) found)) ≡ without_rowid id (db tree)
    go [] all count = sym (none_to_drop id (db tree) (none_found id (db tree) ints (sym count)))
    go (o ∷ found) all count =
        ap (λ i. without_all (without_rowid i (db tree)) (ids_of (map (λ (o : Output). o.1) found))) all.0
        ∙ without_each id (ids_of (map (λ (o : Output). o.1) found)) (db tree) (their_ids id found all.1)

-- where no table is computed first, a query reads the trees themselves
pub overlaid : (db : Trees) (t : ℕ) → overlay db [] t ≡ db t
overlaid db t = go (nat_le (2 ^ 31) t)
  where
    go : (b : Bool) → unwrap_or (if b then slice_get [] (t - 2 ^ 31) else None) (db t) ≡ db t
    go true = refl
    go false = refl

module _ (schema : Schema) (at : ℕ) (table : Table) (there : slice_get schema.tables at ≡ Some table)
    (unlinked : (keys : Keys) (olds news : List Row) → works schema keys 0 table.tree olds news ≡ []) (id : ℤ) where
  abbrev statement : Command
  statement = Delete at (record { lets = []; body = by_key table.tree })

  pub dropped : (old new : State) (text : List ℕ) (count : ℕ) → old.now.schema ≡ schema
      → AreKeyed (old.now.trees table.tree)
      → (w : Writes old new None statement text (Int id ∷ []) count)
      → (new.now.schema ≡ schema)
      × SetsRows schema table (without_rowid id (old.now.trees table.tree)) old.now.trees new.now.trees
  dropped old new text count has ints w =
      let db = old.now.trees in
      let task : Task = record {
        limit = old.step_limit;
        keys = (mode_of old).keys;
        schema = schema;
        table = table;
        params = Int id ∷ [];
      } in
      let out : Result (Tally × Database) (Option Error) = Ok (w.tally, new.now) in
      let placed =
      subst
      (λ s. Does old.step_limit (mode_of old) (Int id ∷ []) (record old.now { schema = s }) text None statement out)
      has w.changed in
      let done =
      went (subst (λ t. AtPlace (λ table. OnRows (record task { table = table }) (mode_of old) None statement db) t out)
      there placed) in
      let now : new.now ≡ record { schema = schema; trees = done.0.trees } =
      ap (λ (p : Tally × Database). p.1) (same_value (went (went done.2).2).2) in
      let asked = went done.1 in
      let made = went asked.2 in
      let edit = edit_of db table (ids_of asked.0) Given 0 [] in
      let a = one_step schema task.keys db made.0 edit (unlinked task.keys (taken_by db edit) edit.news) made.1 in
      let answer : IsAnswer (by_key table.tree) (overlay db []) (Int id ∷ []) asked.0 = asked.1.answer Null in
      let same = overlaid db table.tree in
      let left = deletes_key table.tree id (overlay db []) asked.0 (subst AreKeyed (sym same) ints) answer in
      let rows : without_all (db table.tree) (ids_of asked.0) ≡ without_rowid id (db table.tree) =
      subst (λ l. without_all l (ids_of asked.0) ≡ without_rowid id l) same left in
      let trees : new.now.trees ≡ made.0 =
      ap (λ (d : Database). d.trees) now ∙ ap (λ (it : Written). it.trees) (same_value made.2) in (
        ap (λ (d : Database). d.schema) now,
        subst (λ t. SetsRows schema table (without_rowid id (db table.tree)) db t) (sym trees)
            (record { rows = a.rows ∙ rows; others = a.others }),
      )
