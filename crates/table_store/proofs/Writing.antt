-- What a write of one row makes of the database, for a statement of a fixed meaning.
use Rattle.std.proofs.Common.{◌≡◌, inl, inr, ◌/◌, length, slice_get, ℕ, ℤ, List, [], ◌∷◌, Bool, true}
use Rattle.std.proofs.Common.{false, None, Some, Option, Ok, Result, sym, ap, subst, ◌∙◌, true≢false}
use Rattle.sqlite.specs.declared.types.Value.TheVariants.{Int}
use Rattle.sqlite.specs.Order.{Row}
use Rattle.sqlite_sql.specs.Ops.{is_null}
use Rattle.std.specs.Ordering.{is_lt, int_cmp}
use Rattle.std.specs.Prelude.{MatchBool, if◌then◌else◌, drop}
use Rattle.sqlite.specs.Term.{Term}
use Rattle.sqlite.specs.Tree.{Trees, rowid, put_row, without_rowid}
use Rattle.sqlite.specs.Table.{Table}
use Rattle.sqlite.specs.Schema.{Schema}
use Rattle.sqlite.specs.Cast.{cast_row}
use Rattle.sqlite.specs.Edit.{with_rowid, next_rowid}
use Rattle.sqlite.specs.Source.TheVariants.{Values}
use Rattle.sqlite.specs.Command.TheVariants.{InsertOr}
use Rattle.sqlite_schema.specs.declared.schema.Keys.{Keys}
use Rattle.sqlite_schema.specs.declared.command.Conflict.TheVariants.{Replace}
use Rattle.sqlite_rules.specs.declared.error.Rowids.TheVariants.{Chosen, Above}
use Rattle.sqlite_rules.specs.declared.error.Refusal.{Refusal}
use Rattle.std.specs.List.{list_any}
use Rattle.sqlite_rules.specs.Keys.{shares}
use Rattle.sqlite_rules.specs.Action.{works}
use Rattle.sqlite.specs.Rows.{Task, Written, nothing, mended, stamped, Tries, TriesEach, Judged}
use Rattle.sqlite.specs.Rows.{InsertsOr, rowids_for, count_of, Counts, CountsIn, sequence, Gives}
use Rattle.sqlite.specs.declared.error.Error.{Error}
use Rattle.sqlite.specs.Effect.{Database, value_rows}
use Rattle.sqlite.specs.Does.{Tally, Does, AtPlace, OnRows}
use Rattle.sqlite.specs.State.{State, mode_of, Writes}
use Rattle.table_store.proofs.Parts.{went, same_value, SetsRows, AreKeyed}
use Rattle.table_store.proofs.Replacing.{clears}

skipped : (task : Task) (db next : Trees) (counter : Option Row) (top : ℤ) → task.table.is_counted ≡ false
    → Counts task db counter top (Ok next) → next ≡ db
skipped task db next counter top uncounted h =
    go task.table.is_counted (is_lt (int_cmp (count_of counter) top))
    (CountsIn task db counter top (sequence task.schema) (Ok next)) uncounted h
  where
    go : (b c : Bool) (P : Type 0) → b ≡ false → MatchBool (if b then c else false) P (Gives db (Ok next)) → next ≡ db
    go true c P is k = absurd (true≢false is)
    go false c P is k = same_value k

module _ (task : Task) (row : Row) (id : ℤ)
    (unlinked : (olds news : List Row) → works task.schema task.keys 0 task.table.tree olds news ≡ [])
    (fits : cast_row task.table row ≡ row) (keyed : rowid row ≡ Int id)
    (unshared : (new r : Row) → list_any (shares None task.table new r) task.schema.indexes ≡ false)
    (uncounted : task.table.is_counted ≡ false) where
  abbrev Puts : Trees → Trees → Type 0
  Puts db next = SetsRows task.schema task.table (put_row row (without_rowid id (db task.table.tree))) db next

  judged : (db : Trees) (w : Written) (verdict : Option Refusal) → AreKeyed (db task.table.tree)
      → Judged task Replace [] row db verdict (Ok w) → Puts db w.trees
  judged db w None ints h = clears task row unlinked fits id keyed unshared db h.0 w ints h.1 h.2
  judged db w (Some why) ints h = absurd (let e = h in cc)

  tries : (db : Trees) (w : Written) → AreKeyed (db task.table.tree) → Tries task Replace [] row db (Ok w)
      → Puts db w.trees
  tries db w ints (inl refused) = absurd (let e = refused.1 in cc)
  tries db w ints (inr h) = judged db w h.0 ints h.2

  module _ (source : Row) (cast : cast_row task.table (mended Replace task.table source) ≡ row) where
    pub tries_one : (db : Trees) (top : ℤ) (out : Written × ℤ) → AreKeyed (db task.table.tree)
        → TriesEach task Replace [] (source ∷ []) top (nothing db) (Ok out) → Puts db out.0.trees
    tries_one db top out ints h =
        let done = went h in
        let rows = db task.table.tree in
        let chosen : with_rowid Chosen rows row ≡ row =
        ap (λ v. if is_null v then Int (next_rowid rows) ∷ drop 1 row else row) keyed in
        let same : with_rowid (rowids_for task.table top) rows (cast_row task.table (mended Replace task.table source))
        ≡ row =
        ap (λ b.
        with_rowid (if b then Above top else Chosen) rows (cast_row task.table (mended Replace task.table source)))
        uncounted ∙ ap (with_rowid Chosen rows) cast ∙ chosen in
        let one = tries db done.0 ints (subst (λ r. Tries task Replace [] r db (Ok done.0)) same done.1) in
        subst (Puts db) (sym (ap (λ (p : Written × ℤ). p.0.trees) (same_value done.2))) one

    pub inserts : (terms : List Term) (width : ℕ)
        → value_rows (stamped task.table task.params) width (length terms / width) terms ≡ source ∷ []
        → (db : Trees) (w : Written) → AreKeyed (db task.table.tree)
        → InsertsOr task Replace [] (Values terms width) db (Ok w) → Puts db w.trees
    inserts terms width given db w ints h =
        let sourced = went h in
        let counter = went sourced.2 in
        let tried = went counter.2 in
        let counted = went tried.2 in
        let one = tries_one db (count_of counter.0) tried.0 ints
        (subst (λ rows. TriesEach task Replace [] rows (count_of counter.0) (nothing db) (Ok tried.0))
        (sourced.1.1 ∙ given) tried.1) in
        let next = skipped task tried.0.0.trees counted.0 counter.0 tried.0.1 uncounted counted.1 in
        subst (Puts db) (sym (ap (λ (it : Written). it.trees) (same_value counted.2) ∙ next)) one

-- a database of a schema, with a statement that replaces one row of one of its tables
module _ (schema : Schema) (at : ℕ) (table : Table) (there : slice_get schema.tables at ≡ Some table)
    (unlinked : (keys : Keys) (olds news : List Row) → works schema keys 0 table.tree olds news ≡ [])
    (unshared : (new r : Row) → list_any (shares None table new r) schema.indexes ≡ false)
    (uncounted : table.is_counted ≡ false)
    (terms : List Term) (width : ℕ) (params source row : Row)
    (given : value_rows (stamped table params) width (length terms / width) terms ≡ source ∷ [])
    (cast : cast_row table (mended Replace table source) ≡ row) (fits : cast_row table row ≡ row) (id : ℤ)
    (keyed : rowid row ≡ Int id) where
  pub replaced : (old new : State) (text : List ℕ) (count : ℕ) → old.now.schema ≡ schema
      → AreKeyed (old.now.trees table.tree)
      → (w : Writes old new None (InsertOr at Replace (Values terms width) []) text params count)
      → (new.now.schema ≡ schema)
      × SetsRows schema table (put_row row (without_rowid id (old.now.trees table.tree))) old.now.trees new.now.trees
  replaced old new text count has ints w =
      let task : Task =
      record { limit = old.step_limit; keys = (mode_of old).keys; schema = schema; table = table; params = params } in
      let command = InsertOr at Replace (Values terms width) [] in
      let out : Result (Tally × Database) (Option Error) = Ok (w.tally, new.now) in
      let placed =
      subst (λ s. Does old.step_limit (mode_of old) params (record old.now { schema = s }) text None command out) has
      w.changed in
      let done =
      went (subst
      (λ t. AtPlace (λ table. OnRows (record task { table = table }) (mode_of old) None command old.now.trees) t out)
      there placed) in
      let now : new.now ≡ record { schema = schema; trees = done.0.trees } =
      ap (λ (p : Tally × Database). p.1) (same_value (went (went done.2).2).2) in
      let put =
      inserts task row id (unlinked task.keys) fits keyed unshared uncounted source cast terms width given old.now.trees
      done.0 ints done.1 in (
        ap (λ (d : Database). d.schema) now,
        subst (λ t. SetsRows schema table (put_row row (without_rowid id (old.now.trees table.tree))) old.now.trees t)
            (sym (ap (λ (d : Database). d.trees) now)) put,
      )
