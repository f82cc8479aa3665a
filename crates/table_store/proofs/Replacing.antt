-- What INSERT OR REPLACE of one row makes of a table.
use Rattle.std.proofs.Common.{◌≡◌, inl, inr, ℤ, List, [], ◌∷◌, Bool, true, false, ◌||◌, ◌&&◌}
use Rattle.std.proofs.Common.{cond, not, None, Some, Ok, refl, sym, ap, subst, ◌∙◌, true≢false}
use Rattle.std.specs.List.{AllByRecursion, list_any}
use Rattle.sqlite.specs.declared.types.Value.{Value}
use Rattle.sqlite.specs.declared.types.Value.TheVariants.{Null, Int, Real, Text, Blob}
use Rattle.sqlite.specs.Order.{Row, value_cmp}
use Rattle.sqlite.specs.Tree.{Trees, rowid, has_rowid, put_row, without_rowid}
use Rattle.sqlite.specs.Edit.{edit_of, taken_by, without_all, id_in}
use Rattle.sqlite.specs.Cast.{cast_row}
use Rattle.sqlite.specs.Rowids.TheVariants.{Given}
use Rattle.sqlite_trees.specs.View.{is_int}
use Rattle.sqlite_sql.specs.Ops.{binary, is_true, from_truth}
use Rattle.std.specs.Ordering.{is_eq}
use Rattle.std.specs.declared.cmp.Ordering.{Ordering}
use Rattle.std.specs.declared.cmp.Ordering.TheVariants.{Less, Equal, Greater}
use Rattle.std.proofs.lemmas.Map.Lookups.{exact_signed}
use Rattle.sqlite_value.specs.Keys.{first_key}
use Rattle.std.proofs.lemmas.Bool.{or_from, false_from_ne_true}
use Rattle.sqlite_value.proofs.OrderLemmas.{value_cmp-Int}
use Rattle.sqlite.specs.Collation.TheVariants.{Binary}
use Rattle.sqlite_schema.specs.Rules.{equal}
use Rattle.sqlite_schema.specs.declared.command.Conflict.TheVariants.{Replace}
use Rattle.sqlite_rules.specs.Lists.{Has}
use Rattle.sqlite_rules.specs.Keys.{AreConflicts, conflicts, shares}
use Rattle.sqlite_rules.specs.Action.{works}
use Rattle.sqlite_rules.specs.Calls.{ids_of}
use Rattle.sqlite_rules.proofs.TableLemmas.{none_to_drop}
use Rattle.sqlite.specs.Rows.{Task, Written, Puts, Clears}
use Rattle.sqlite.proofs.Callers.{one_step}
use Rattle.table_store.proofs.Parts.{went, same_value, SetsRows, AreKeyed}

-- once more takes nothing
pub without_twice : (id : ℤ) (rows : List Row) → without_rowid id (without_rowid id rows) ≡ without_rowid id rows
without_twice id [] = refl
without_twice id (r ∷ rows) = go (not (has_rowid id r)) refl (without_twice id rows)
  where
    go : (b : Bool) → not (has_rowid id r) ≡ b → without_rowid id (without_rowid id rows) ≡ without_rowid id rows
        → without_rowid id (cond b (r ∷ without_rowid id rows) (without_rowid id rows))
        ≡ cond b (r ∷ without_rowid id rows) (without_rowid id rows)
    go true is later = rw (is, later)
    go false is later = later

-- all of these are the one rowid, and there is one
pub without_each : (id : ℤ) (ids : List ℤ) (rows : List Row) → AllByRecursion (λ i. i ≡ id) ids
    → without_all (without_rowid id rows) ids ≡ without_rowid id rows
without_each id [] rows all = refl
without_each id (i ∷ ids) rows all =
    subst (λ j. without_all (without_rowid j (without_rowid id rows)) ids ≡ without_rowid id rows) (sym all.0)
    (subst (λ l. without_all l ids ≡ without_rowid id rows) (sym (without_twice id rows))
    (without_each id ids rows all.1))

tied : (o : Ordering) → is_eq o ≡ true → o ≡ Equal
tied Less h = absurd (true≢false (sym h))
tied Equal h = refl
tied Greater h = absurd (true≢false (sym h))

-- the key of a conflict, as an integer, and as a rowid
equal_is : (n id : ℤ) → equal Binary (Int n) (Int id) ≡ is_eq (value_cmp (Int n) (Int id))
unfolding binary
equal_is n id = either (is_eq (value_cmp (Int n) (Int id)))
  where
    either : (b : Bool) → is_true (from_truth (Some b)) ≡ b
    either true = refl
    either false = refl

pub same_key : (v : Value) (id : ℤ) → is_int v ≡ true → equal Binary v (Int id) ≡ true → id_in v ≡ id
same_key (Int n) id int eq = exact_signed n id (sym (value_cmp-Int n id) ∙ tied _ (sym (equal_is n id) ∙ eq))
same_key Null id int eq = absurd (true≢false (sym int))
same_key (Real x) id int eq = absurd (true≢false (sym int))
same_key (Text t) id int eq = absurd (true≢false (sym int))
same_key (Blob b) id int eq = absurd (true≢false (sym int))

pub key_found : (v : Value) (id : ℤ) → is_int v ≡ true → is_eq (value_cmp v (Int id)) ≡ true
    → equal Binary v (Int id) ≡ true
key_found (Int n) id int eq = equal_is n id ∙ eq
key_found Null id int eq = absurd (true≢false (sym int))
key_found (Real x) id int eq = absurd (true≢false (sym int))
key_found (Text t) id int eq = absurd (true≢false (sym int))
key_found (Blob b) id int eq = absurd (true≢false (sym int))

pub keyed_at : (rows : List Row) → AreKeyed rows → (r : Row) → Has rows r → is_int (rowid r) ≡ true
keyed_at [] ints r none = absurd none
keyed_at (x ∷ rows) ints r (inl is) = subst (λ y. is_int (rowid y) ≡ true) (sym is) ints.0
keyed_at (x ∷ rows) ints r (inr later) = keyed_at rows ints.1 r later

pub or_no : (b : Bool) → (b || false) ≡ b
or_no true = refl
or_no false = refl

pub and_yes : (b : Bool) → (b && true) ≡ b
and_yes true = refl
and_yes false = refl

pub none_has : (id : ℤ) (rows : List Row) → ((r : Row) → Has rows r → has_rowid id r ≡ true → ⊥)
    → list_any (has_rowid id) rows ≡ false
none_has id [] f = refl
none_has id (r ∷ rows) f =
    or_from _ _ (false_from_ne_true _ (f r (inl refl))) (none_has id rows (λ x in_it. f x (inr in_it)))

module _ (task : Task) (row : Row)
    (unlinked : (olds news : List Row) → works task.schema task.keys 0 task.table.tree olds news ≡ [])
    (fits : cast_row task.table row ≡ row) where
  pub puts : (db : Trees) (w : Written) → Puts task row db (Ok w)
      → SetsRows task.schema task.table (put_row row (db task.table.tree)) db w.trees
  puts db w h =
      let edit = edit_of db task.table [] Given 0 (row ∷ []) in
      let done = went h in
      let a = one_step task.schema task.keys db done.0 edit (unlinked (taken_by db edit) edit.news) done.1 in
      let trees : w.trees ≡ done.0 = ap (λ (it : Written). it.trees) (same_value done.2) in
      subst (λ t. SetsRows task.schema task.table (put_row row (db task.table.tree)) db t) (sym trees)
      (record {
        rows = subst (λ r. done.0 task.table.tree ≡ put_row r (db task.table.tree)) fits a.rows;
        others = a.others;
      })

  -- the rows that have the rowid
  module _ (id : ℤ) (keyed : rowid row ≡ Int id)
      (unshared : (new r : Row) → list_any (shares None task.table new r) task.schema.indexes ≡ false) where
    abbrev Conflicts : List Row → List Row → Type 0
    Conflicts rows found = AreConflicts None task.schema.indexes task.table rows row found

    conflict_is : (r : Row) → conflicts None task.schema.indexes task.table row r ≡ equal Binary (rowid r) (Int id)
    unfolding first_key
    conflict_is r = rw (keyed, unshared row r) (or_no _ ∙ and_yes _)

    gone : (rows found : List Row) → AreKeyed rows → Conflicts rows found → AllByRecursion (λ i. i ≡ id) (ids_of found)
    gone rows found ints h =
        each found (λ x in_it. let r = h.sound x in_it in
        ap id_in (ap rowid r.3) ∙ same_key (rowid r.0) id (keyed_at rows ints r.0 r.1) (sym (conflict_is r.0) ∙ r.2))
      where
        each : (xs : List Row) → ((x : Row) → Has xs x → id_in (rowid x) ≡ id)
            → AllByRecursion (λ i. i ≡ id) (ids_of xs)
        each [] f = tt
        each (x ∷ xs) f = (f x (inl refl), each xs (λ y in_it. f y (inr in_it)))

    none_taken : (rows : List Row) → AreKeyed rows → Conflicts rows [] → list_any (has_rowid id) rows ≡ false
    none_taken rows ints h =
        none_has id rows
        (λ r in_it has. h.complete r in_it (conflict_is r ∙ key_found (rowid r) id (keyed_at rows ints r in_it) has))

    pub clears : (db : Trees) (found : List Row) (w : Written) → AreKeyed (db task.table.tree)
        → Conflicts (db task.table.tree) found → Clears task Replace row db found (Ok w)
        → SetsRows task.schema task.table (put_row row (without_rowid id (db task.table.tree))) db w.trees
    clears db [] w ints h it =
        subst (λ l. SetsRows task.schema task.table (put_row row l) db w.trees)
        (sym (none_to_drop id (db task.table.tree) (none_taken (db task.table.tree) ints h))) (puts db w it)
    clears db (x ∷ more) w ints h it =
        let rows = db task.table.tree in
        let edit = edit_of db task.table (ids_of (x ∷ more)) Given 0 [] in
        let done = went it in
        let a = one_step task.schema task.keys db done.0 edit (unlinked (taken_by db edit) edit.news) done.1 in
        let all = gone rows (x ∷ more) ints h in
        let left : done.0 task.table.tree ≡ without_rowid id rows =
        a.rows
        ∙ ap (λ i. without_all (without_rowid i rows) (ids_of more)) all.0
        ∙ without_each id (ids_of more) rows all.1 in
        let last = puts done.0 w done.2 in
        record {
          rows = last.rows ∙ ap (put_row row) left;
          others = λ t other none. last.others t other none ∙ a.others t other none;
        }
