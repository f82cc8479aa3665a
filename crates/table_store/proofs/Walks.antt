-- A walk over the rows of a table, one row at a time.
use Rattle.std.proofs.Common.{◌≡◌, ◌⊎◌, inl, inr, List, [], ◌∷◌, ◌++◌, map, Option, Some, None}
use Rattle.std.proofs.Common.{◌<◌, refl, sym, ap, subst, ◌∙◌, arith}
use Rattle.std.specs.Prelude.{Contains}
use Rattle.std.specs.List.{FoldsTo}
use Rattle.std.proofs.lemmas.List.{map-append}
use Rattle.std.proofs.lemmas.List.Elements.{Contains-append_left, Contains-append_right}
use Rattle.sqlite.proofs.StateLemmas.{survives_then}
use Rattle.sqlite.specs.Order.{Row}
use Rattle.sqlite.specs.Effect.{Database}
use Rattle.sqlite.specs.Held.{Held, state}
use Rattle.sqlite.specs.Given.{HasGiven, HasBegun, Advances, FailsToAdvance}
use Rattle.sqlite.specs.State.{State, HasCleanDisk, IsRolledBack, IsUnchanged, Survives}
use Rattle.sqlite.specs.declared.error.Error.{Error}
use Rattle.sqlite.proofs.Callers.{given_begin, begins_shown, begun_plain, unchanged_then}
use Rattle.sqlite_trees.specs.View.{IsShaped}
use Rattle.sqlite_trees.specs.declared.store.Shape.TheVariants as shape
use Rattle.sqlite_trees.specs.declared.store.Store.{Ghosts}
use Rattle.sheet_core.specs.declared.column.Column.{Column}
use Rattle.table_store.specs.Schema.{desk_schema, old_schema, position, tree_number}
use Rattle.table_store.specs.Stored.{row_of, values_of, FailsToLoad, FailsToRead, HasBadRow}
use Rattle.table_store.specs.Texts.{load_text}
use Rattle.table_store.specs.Values.{HasTable, IsLoaded}
use Rattle.table_store.specs.Walked.{TakesAll, TakesFront}
use Rattle.table_store.specs.Written.{tree_of}
use Rattle.table_store.specs.declared.fault.TableFault.{TableFault}
use Rattle.table_store.specs.declared.fault.TableFault.TheVariants.{Memory, Store, NoTable, BadRow}
use Rattle.table_store.specs.declared.name.TableName.{TableName}
use Rattle.table_store.proofs.Loading.{begun_loads, loads_table, loading_fails, plain}

-- what fails after a look fails of what was there before it
pub fails-later : (a b c : State) → IsUnchanged a b → IsUnchanged b c ⊎ IsRolledBack b c
    → IsUnchanged a c ⊎ IsRolledBack a c
fails-later a b c one (inl same) = inl (unchanged_then a b c one same)
fails-later a b c one (inr back) = inr (record {
  was_open = λ up. one.0.was_open;
  undone = λ up. let at = back.undone up in (at.0 ∙ one.0.committed_is, at.1 ∙ one.0.committed_is);
  autocommit = back.autocommit;
  unmarked = back.unmarked;
  counts =
      record { changes = back.counts.changes ∙ one.1.changes; last_rowid = back.counts.last_rowid ∙ one.1.last_rowid };
})

-- the table is still there
still-table : (table : TableName) (a b : State) → IsUnchanged a b → HasTable table a → HasTable table b
still-table table a b same has =
    let now = sym same.0.now_is in
    record {
      listed =
          subst (λ (d : Database). (d.schema ≡ desk_schema) ⊎ ((d.schema ≡ old_schema) × (position table < 13))) now
          has.listed;
      shaped = subst (λ (d : Database). IsShaped shape.Table (d.trees (tree_number table))) now has.shaped;
    }

module _ {V R : Type 0} (takes : V → R → V → Type 0) where
  one-more : (before mid now : V) (rows : List R) (r : R) → FoldsTo takes before rows mid → takes mid r now
      → FoldsTo takes before (rows ++ r ∷ []) now
  one-more before mid now [] r e t = (now, subst (λ v. takes v r now) (sym e) t, refl)
  one-more before mid now (x ∷ rows) r (v, t, rest) u = (v, t, one-more v mid now rows r rest u)

module _ {S R V : Type 0} (g : Ghosts S) (takes : V → R → V → Type 0) (row_from : List Column → Option R) (columns : R → List Column)
    (table : TableName) where
  -- the walk began at the first state, and has since handed on the rows by which the list now is longer
  pub record HasTaken (first : State) (h : Held S) (before now : V) : Type 0 where
    pub taken : List R
    pub folds : FoldsTo takes before taken now
    pub read : map (row_of row_from) (map (values_of columns) taken) ≡ map (λ r. Some r) taken
    pub given : HasGiven g (load_text table) [] h (map (values_of columns) taken)
    pub same : IsUnchanged first (state g h)

  pub record Walks (first h : Held S) (before now : V) : Type 0 where
    pub crash : Survives (state g first) (state g h) (λ _. ⊥)
    pub taken : HasCleanDisk (state g h) → HasTaken (state g first) h before now

  pub begins-walk : (first h : Held S) (before : V) → HasTable table (state g first)
      → HasBegun g (load_text table) [] first h → HasTaken (state g first) h before before
  begins-walk first h before has begun =
      let it = begun_plain g (load_text table) [] first h (plain table (state g first) has) begun in
      record { taken = []; folds = refl; read = refl; given = it.0; same = it.1 }

  module _ (first : State) (h : Held S) (before now : V) (has : HasTable table first)
      (it : HasTaken first h before now) where
    tree-same : tree_of table (state g h) ≡ tree_of table first
    tree-same = ap (λ (d : Database). d.trees (tree_number table)) it.same.0.now_is

    -- what was given begins what a load shows
    begins-load : (l : Held S) (rows : List Row) → IsUnchanged first (state g l)
        → HasGiven g (load_text table) [] l rows → (later : List Row) × IsLoaded table (tree_of table first) (rows ++ later)
    begins-load l rows same given =
        let mid = state g l in
        let there = still-table table first mid same has in
        let more =
        begins_shown (load_text table) [] mid mid rows (given_begin g (load_text table) [] l rows given) (stays mid same)
        (begun_loads table mid there) in (
          more.0,
          subst (λ tree. IsLoaded table tree (rows ++ more.0))
              (ap (λ (d : Database). d.trees (tree_number table)) same.0.now_is)
              (loads_table table mid mid (rows ++ more.0) there more.1),
        )
      where
        stays : (mid : State) → IsUnchanged first mid → IsUnchanged mid mid
        stays mid same = (
          record { was_open = same.0.is_open; is_open = same.0.is_open; now_is = refl; committed_is = refl; mode = refl },
          record { changes = refl; last_rowid = refl },
          refl,
        )

    pub takes-front : (keeps : V → V → Type 0) (last : V) → (last ≡ now) ⊎ keeps now last
        → TakesFront row_from columns table (tree_of table first) takes keeps before last
    takes-front keeps last end =
        let load = begins-load h (map (values_of columns) it.taken) it.same it.given in
        inr (it.taken, now, it.folds, record { later = load.0; loaded = load.1; read = it.read }, end)

    module _ (l : Held S) where
      module _ (row : Row) (moved : Advances g h l (Some row)) (still : IsUnchanged (state g h) (state g l)) where
        pub takes-next : (r : R) (later : V) → row_of row_from row ≡ Some r → values_of columns r ≡ row
            → takes now r later → HasTaken first l before later
        takes-next r later read told taken =
            let shown : map (values_of columns) (it.taken ++ r ∷ []) ≡ map (values_of columns) it.taken ++ row ∷ [] =
            map-append (values_of columns) it.taken (r ∷ [])
            ∙ ap (λ v. map (values_of columns) it.taken ++ v ∷ []) told in
            record {
              taken = it.taken ++ r ∷ [];
              folds = one-more takes before now later it.taken r it.folds taken;
              read =
                  ap (map (row_of row_from)) shown
                  ∙ map-append (row_of row_from) (map (values_of columns) it.taken) (row ∷ [])
                  ∙ ap (λ os. os ++ row_of row_from row ∷ []) it.read
                  ∙ ap (λ o. map (λ x. Some x) it.taken ++ o ∷ []) read
                  ∙ sym (map-append (λ x. Some x) it.taken (r ∷ []));
              given =
                  subst (HasGiven g (load_text table) [] l) (sym shown)
                  (moved (load_text table) [] (map (values_of columns) it.taken) it.given);
              same = unchanged_then first (state g h) (state g l) it.same still;
            }

        -- the row that comes is a row of the table
        pub meets-bad : (bad : Row) → Contains (row ∷ []) bad → row_of row_from bad ≡ None
            → HasBadRow row_from table (tree_of table first)
        meets-bad bad there none =
            let rows = map (values_of columns) it.taken in
            let same = unchanged_then first (state g h) (state g l) it.same still in
            let load = begins-load l (rows ++ row ∷ []) same (moved (load_text table) [] rows it.given) in
            record {
              shown = (rows ++ row ∷ []) ++ load.0;
              loaded = load.1;
              bad = bad;
              there =
                  Contains-append_left (rows ++ row ∷ []) load.0 bad (Contains-append_right rows (row ∷ []) bad there);
              none = none;
            }

      pub takes-all : Advances g h l None → TakesAll row_from columns table (tree_of table first) takes before now
      takes-all moved =
          let rows = map (values_of columns) it.taken in
          let shown = moved (load_text table) [] rows it.given in
          let loaded =
          loads_table table (state g h) (state g l) rows (still-table table first (state g h) it.same has) shown in (
            it.taken,
            it.folds,
            record {
              shown = rows;
              loaded = subst (λ tree. IsLoaded table tree rows) tree-same loaded;
              read = it.read;
              same = refl;
            },
          )

      pub walk-fails : (e : Error) → FailsToAdvance g h l e
          → IsUnchanged first (state g l) ⊎ IsRolledBack first (state g l)
      walk-fails e moved =
          fails-later first (state g h) (state g l) it.same
          (loading_fails table (state g h) (state g l) e (still-table table first (state g h) it.same has)
          (moved (load_text table) [] (map (values_of columns) it.taken) it.given))

  -- ---- at each step of the walk

  module _ (first h l : Held S) (before now : V) (has : HasCleanDisk (state g first) → HasTable table (state g first))
      (walks : Walks first h before now) (on : Survives (state g h) (state g l) (λ _. ⊥)) where
    pub step-crash : Survives (state g first) (state g l) (λ _. ⊥)
    step-crash =
        survives_then (state g first) (state g h) (state g l) _ _ _ (λ _ db none. none) (λ _ db none. none) walks.crash on

    there : HasCleanDisk (state g l) → HasTable table (state g first)
    there clean = has (omega (arith, clean, on.clean, walks.crash.clean))

    taken : HasCleanDisk (state g l) → HasTaken (state g first) h before now
    taken clean = walks.taken (omega (arith, clean, on.clean))

    pub step-front : (keeps : V → V → Type 0) (last : V) → (last ≡ now) ⊎ keeps now last → HasCleanDisk (state g l)
        → TakesFront row_from columns table (tree_of table (state g first)) takes keeps before last
    step-front keeps last end clean =
        takes-front (state g first) h before now (there clean) (taken clean) keeps last end

    pub step-fails : (e : Error) → (HasCleanDisk (state g l) → FailsToAdvance g h l e) → HasCleanDisk (state g l)
        → IsUnchanged (state g first) (state g l) ⊎ IsRolledBack (state g first) (state g l)
    step-fails e fails clean = walk-fails (state g first) h before now (there clean) (taken clean) l e (fails clean)

    module _ (still : HasCleanDisk (state g l) → IsUnchanged (state g h) (state g l)) where
      pub step-same : HasCleanDisk (state g l) → IsUnchanged (state g first) (state g l)
      step-same clean =
          unchanged_then (state g first) (state g h) (state g l) (taken clean).same (still clean)

      module _ (row : Option Row) (moved : HasCleanDisk (state g l) → Advances g h l row) where
        pub step-all : row ≡ None → HasCleanDisk (state g l)
            → TakesAll row_from columns table (tree_of table (state g first)) takes before now
        step-all none clean =
            takes-all (state g first) h before now (there clean) (taken clean) l
            (subst (Advances g h l) none (moved clean))

        module _ (values : Row) (come : row ≡ Some values) where
          next : HasCleanDisk (state g l) → Advances g h l (Some values)
          next clean = subst (Advances g h l) come (moved clean)

          pub step-on : (r : R) (later : V) → row_of row_from values ≡ Some r → values_of columns r ≡ values
              → takes now r later → Walks first l before later
          step-on r later read told more = record {
            crash = step-crash;
            taken = λ clean.
                takes-next (state g first) h before now (there clean) (taken clean) l values (next clean) (still clean) r
                later read told more;
          }

          -- the row that came wasn't read
          pub step-unread : (fault : TableFault) → FailsToRead row_from (values ∷ []) fault → HasCleanDisk (state g l)
              → FailsToLoad row_from table (state g first) (state g l) fault
          step-unread Memory failed clean = step-same clean
          step-unread (Store f) failed clean = absurd failed
          step-unread (NoTable f) failed clean = absurd failed
          step-unread (BadRow f) failed clean = (
            meets-bad (state g first) h before now (there clean) (taken clean) l values (next clean) (still clean) failed.0
                failed.1 failed.2,
            step-same clean,
          )
