-- BEGIN, COMMIT and ROLLBACK as texts, and what a crash leaves of a statement inside.
use Rattle.std.proofs.Common.{◌≡◌, ◌⊎◌, inl, inr, ℕ, List, [], codes, Bool, true, false, None}
use Rattle.std.proofs.Common.{Some, Ok, Err, Result, length, ◌≤◌, subst₂, append-nil, arith, OnOk}
use Rattle.std.proofs.Common.{OnErr, IfErr, IsTrue, IsSome, refl, subst, ap, ◌∙◌, sym, true≢false}
use Rattle.sqlite.specs.Order.{Row}
use Rattle.sqlite.specs.Schema.{Schema}
use Rattle.sqlite.specs.Tree.{Trees}
use Rattle.sqlite.specs.Command.TheVariants.{Begin, Commit, Rollback, Release, Nothing}
use Rattle.sqlite.specs.Command.{Command}
use Rattle.sqlite.specs.declared.error.Error.{Error}
use Rattle.sqlite.specs.State.{State, Executes, CommitsBy, Survives, Shows, MayCommit, IsMisplaced}
use Rattle.sqlite.specs.State.{IsUnchanged, Fails, mode_of, shows_rows, ExecutesIn, IsNotRun, IsNoStatement}
use Rattle.sqlite.specs.State.{RunsCommand, text_of, HasCause, IsRolledBack, KeepsCommit, HasCleanDisk}
use Rattle.sqlite_trees.specs.declared.error.StoreError.{StoreError}
use Rattle.sqlite_trees.specs.declared.error.StoreError.TheVariants.{OutOfMemory, Io, Corrupt, Full, Broken, Unstorable}
use Rattle.sqlite.specs.Listing.{understood}
use Rattle.sqlite.specs.Calls.{IsWrite}
use Rattle.sqlite.specs.Does.{Does}
use Rattle.sqlite.specs.Clock.{timed}
use Rattle.sqlite_resolve.specs.declared.compiled.Compiled.{Compiled}
use Rattle.sqlite_resolve.specs.declared.error.CompileError.{CompileError}
use Rattle.sqlite_tied.specs.Compute.{everything}
use Rattle.std.specs.Prelude.{MatchBool, if◌then◌else◌}
use Rattle.sqlite.proofs.StateLemmas.{survives_weaker}
use Rattle.table_store.specs.Transactions.{IsBack}
use Rattle.sqlite.specs.Effect.{Database}
use Rattle.sqlite_trees.specs.View.{IsShaped}
use Rattle.sqlite_trees.specs.declared.store.Shape.TheVariants.{Table}
use Rattle.table_store.specs.Schema.{tree_number}
use Rattle.table_store.specs.Values.{HasOldTables, HasTables}
use Rattle.sqlite.specs.declared.error.Error.TheVariants.{ExecuteReturnedResults}
use Rattle.sqlite.proofs.Callers.{IsPlain, command_of, statement_of, runs_as}

pub begin_is : (s : Schema) → command_of (understood s (codes "BEGIN")) ≡ Begin
unfolding understood everything
begin_is s = refl

pub commit_is : (s : Schema) → command_of (understood s (codes "COMMIT")) ≡ Commit
unfolding understood everything
commit_is s = refl

pub rollback_is : (s : Schema) → command_of (understood s (codes "ROLLBACK")) ≡ Rollback
unfolding understood everything
rollback_is s = refl

pub empty_is : (s : Schema) → command_of (understood s (codes "")) ≡ Nothing
unfolding understood everything
empty_is s = refl

pub empty_plain : (s : Schema) → IsPlain (understood s (codes ""))
unfolding understood everything
empty_plain s = (refl, refl)

pub begin_plain : (s : Schema) → IsPlain (understood s (codes "BEGIN"))
unfolding understood everything
begin_plain s = (refl, refl)

pub commit_plain : (s : Schema) → IsPlain (understood s (codes "COMMIT"))
unfolding understood everything
commit_plain s = (refl, refl)

pub rollback_plain : (s : Schema) → IsPlain (understood s (codes "ROLLBACK"))
unfolding understood everything
rollback_plain s = (refl, refl)

-- ---- of any text

cause_weaker : (old new : State) (P : Type 0) (cause : StoreError) → HasCause old new ⊥ cause → HasCause old new P cause
cause_weaker old new P OutOfMemory h = h
cause_weaker old new P Io h = h
cause_weaker old new P Corrupt h = h
cause_weaker old new P Full h = h
cause_weaker old new P Broken h = h
cause_weaker old new P Unstorable h = absurd h

pub fails_weaker : (old new : State) (P : Type 0) (e : Error) → Fails old new ⊥ e → Fails old new P e
fails_weaker old new P e h = (h.0, h.1, cause_weaker old new P h.0 h.2, h.3, h.4)

pub fails_plain : (old new : State) (P : Type 0) (e : Error) → ¬ P → Fails old new P e → Fails old new ⊥ e
fails_plain old new P e never h = (h.0, h.1, go h.0 h.2, h.3, h.4)
  where
    go : (cause : StoreError) → HasCause old new P cause → HasCause old new ⊥ cause
    go OutOfMemory h = h
    go Io h = h
    go Corrupt h = h
    go Full h = h
    go Broken h = h
    go Unstorable h = never h

-- the text is one statement with so many parameters, and shows no rows
abbrev pub IsWhole : List ℕ → ℕ → Result Compiled CompileError → Type 0
IsWhole sql given (Ok c) = (length sql ≤ c.tail) × (given ≡ length c.names) × (shows_rows false c ≡ false)
IsWhole sql given (Err e) = ⊥

-- the command is misplaced or refused, and nothing changes, or the database failed
abbrev pub RefusesAs : State → State → Command → List ℕ → Row → Error → Type 0
RefusesAs old new k t params e =
    ((IsMisplaced old k e ⊎ (IsWrite k × Does old.step_limit (mode_of old) params old.now t None k (Err (Some e))))
    × IsUnchanged old new)
    ⊎ Fails old new (Does old.step_limit (mode_of old) params old.now t None k (Err None)) e

module _ (sql : List ℕ) (params : Row) (old new : State) (command : Command)
    (is : command_of (understood old.now.schema sql) ≡ command) (plain : IsPlain (understood old.now.schema sql)) where
  abbrev text : List ℕ
  text = statement_of sql (understood old.now.schema sql)

  pub commits_as : (db : Trees) → CommitsBy sql params old db → MayCommit old None command text params db
  unfolding CommitsBy
  commits_as db h =
      let known = sym h.1.is in
      let bare = subst IsPlain (sym known) plain in
      subst₂ (λ k t. MayCommit old None k t params db) (ap command_of known ∙ is) (ap (statement_of sql) known)
      (rw (bare.0, bare.1, append-nil params) at h.2)

  own_of : (c : Compiled) → c.returning ≡ None → (e : Error) → RunsCommand old new sql c params (Err e)
      → RefusesAs old new c.command (text_of sql c) params e
  own_of c bare e (inl h) = inl (
    elim h.0 [
      | inl misplaced ↦ inl misplaced
      | inr own ↦ inr (
        writes own.0,
        subst (λ r. Does old.step_limit (mode_of old) params old.now (text_of sql c) r c.command (Err (Some e))) bare
            own.1,
      )
    ],
    h.1,
  )
    where
      writes : IsWrite c.command ⊎ IsSome c.returning → IsWrite c.command
      writes (inl w) = w
      writes (inr some) = absurd (true≢false (sym (subst IsSome bare some)))
  own_of c bare e (inr h) =
      inr (subst
      (λ r. Fails old new (Does old.step_limit (mode_of old) params old.now (text_of sql c) r c.command (Err None)) e)
      bare h)

  -- an error is the command's own, or the database failed before it
  pub refuses_as : IsWhole sql (length params) (understood old.now.schema sql) → (e : Error)
      → Executes sql params old new (Err e) → RefusesAs old new command text params e
  unfolding ExecutesIn IsNotRun
  refuses_as whole e (inl (inl h)) = absurd (never h.0)
    where
      never : IsNoStatement old sql params e → ⊥
      never (inl none) = subst (IsWhole sql (length params)) none.1 whole
      never (inr none) =
          let w = subst (IsWhole sql (length params)) none.1 whole in
          elim none.2 [
            | inl more ↦ more.0 w.0
            | inr (inl few) ↦ few.0 w.1
            | inr (inr late) ↦ late.0 (subst IsPlain none.1 plain).1
          ]
  refuses_as whole e (inl (inr fails)) = inr (fails_weaker old new _ e fails)
  refuses_as whole e (inr h) =
      let known = sym h.1.is in
      let bare = subst IsPlain (sym known) plain in
      let w = subst (IsWhole sql (length params)) (sym known) whole in
      let ran : RunsCommand old new sql h.0 (timed params h.0.formats h.1.now) (Err e) = rw w.2 at h.2 in
      let full : RunsCommand old new sql h.0 params (Err e) = rw (bare.1, append-nil params) at ran in
      let own : RefusesAs old new h.0.command (text_of sql h.0) params e = own_of h.0 bare.0 e full in
      subst₂ (λ k t. RefusesAs old new k t params e) (ap command_of known ∙ is) (ap (statement_of sql) known) own

-- ---- BEGIN, COMMIT and ROLLBACK

pub begin_whole : (s : Schema) → IsWhole (codes "BEGIN") 0 (understood s (codes "BEGIN"))
unfolding understood everything
begin_whole s = (omega arith, refl, refl)

pub commit_whole : (s : Schema) → IsWhole (codes "COMMIT") 0 (understood s (codes "COMMIT"))
unfolding understood everything
commit_whole s = (omega arith, refl, refl)

pub begins : (old new : State) (r : Result ℕ Error) → old.in_transaction ≡ false → Executes (codes "BEGIN") [] old new r
    → OnOk r (Shows old new old.now old.committed true) × IfErr r (Fails old new ⊥)
begins old new (Ok count) free h =
    ((runs_as (codes "BEGIN") [] old new old.now.schema refl Begin (begin_is _) (begin_plain _) count h).1, tt)
begins old new (Err e) free h =
    (tt, go (refuses_as (codes "BEGIN") [] old new Begin (begin_is _) (begin_plain _) (begin_whole _) e h))
  where
    go : RefusesAs old new Begin (statement_of (codes "BEGIN") (understood old.now.schema (codes "BEGIN"))) [] e
        → Fails old new ⊥ e
    go (inl h) = absurd (elim h.0 [
      | inl misplaced ↦ elim misplaced [
        | inl state ↦ elim state.1 [
          | inl twice ↦ true≢false (sym twice.1 ∙ free)
          | inr other ↦ elim other.0 [ inl a ↦ cc | inr b ↦ cc ]
        ]
        | inr mark ↦ elim mark.2 [ inl a ↦ cc | inr b ↦ cc ]
      ]
      | inr own ↦ own.0
    ])
    go (inr fails) = fails_plain old new _ e (λ none. cc) fails

pub begins_nothing : (s : State) (db : Trees) → ¬ CommitsBy (codes "BEGIN") [] s db
begins_nothing s db h = go (commits_as (codes "BEGIN") [] s s Begin (begin_is _) (begin_plain _) db h)
  where
    go : MayCommit s None Begin (statement_of (codes "BEGIN") (understood s.now.schema (codes "BEGIN"))) [] db → ⊥
    go (inl h) = elim h.0 [ inl a ↦ cc | inr b ↦ let e = b.2 in cc ]
    go (inr h) = let e = h.3 in cc

pub commits : (old new : State) (r : Result ℕ Error) → IsTrue old.in_transaction
    → Executes (codes "COMMIT") [] old new r
    → OnOk r (Shows old new old.now old.now false) × IfErr r (Fails old new ⊥)
commits old new (Ok count) free h =
    ((runs_as (codes "COMMIT") [] old new old.now.schema refl Commit (commit_is _) (commit_plain _) count h).1, tt)
commits old new (Err e) inside h =
    (tt, go (refuses_as (codes "COMMIT") [] old new Commit (commit_is _) (commit_plain _) (commit_whole _) e h))
  where
    go : RefusesAs old new Commit (statement_of (codes "COMMIT") (understood old.now.schema (codes "COMMIT"))) [] e
        → Fails old new ⊥ e
    go (inl h) = absurd (elim h.0 [
      | inl misplaced ↦ elim misplaced [
        | inl state ↦ elim state.1 [ inl twice ↦ let e = twice.0 in cc | inr other ↦ true≢false (sym inside ∙ other.1) ]
        | inr mark ↦ elim mark.2 [ inl a ↦ cc | inr b ↦ cc ]
      ]
      | inr own ↦ own.0
    ])
    go (inr fails) = fails_plain old new _ e (λ none. cc) fails

pub commits_all : (s : State) (db : Trees) → CommitsBy (codes "COMMIT") [] s db → db ≡ s.now.trees
commits_all s db h = go (commits_as (codes "COMMIT") [] s s Commit (commit_is _) (commit_plain _) db h)
  where
    go : MayCommit s None Commit (statement_of (codes "COMMIT") (understood s.now.schema (codes "COMMIT"))) [] db
        → db ≡ s.now.trees
    go (inl h) = h.1
    go (inr h) = absurd (let e = h.3 in cc)

-- ---- inside a transaction

abbrev pub Ends : Command → Type 0
Ends command = (command ≡ Commit) ⊎ ((name : List ℕ) × (command ≡ Release name))

pub inside_nothing : (sql : List ℕ) (params : Row) (s : State) (command : Command)
    → command_of (understood s.now.schema sql) ≡ command → IsPlain (understood s.now.schema sql)
    → ¬ Ends command → IsTrue s.in_transaction → (db : Trees) → ¬ CommitsBy sql params s db
inside_nothing sql params s command is plain other inside db h = go (commits_as sql params s s command is plain db h)
  where
    go : MayCommit s None command (statement_of sql (understood s.now.schema sql)) params db → ⊥
    go (inl (inl is, db)) = other (inl is)
    go (inl (inr mark, db)) = other (inr (mark.0, mark.2))
    go (inr h) = true≢false (sym inside ∙ h.0)

pub rollback_whole : (s : Schema) → IsWhole (codes "ROLLBACK") 0 (understood s (codes "ROLLBACK"))
unfolding understood everything
rollback_whole s = (omega arith, refl, refl)

pub rolls_back : (old new : State) (r : Result ℕ Error) → IsTrue old.in_transaction
    → Executes (codes "ROLLBACK") [] old new r → IsRolledBack old new
rolls_back old new (Ok count) inside h =
    (runs_as (codes "ROLLBACK") [] old new old.now.schema refl Rollback (rollback_is _) (rollback_plain _) count h).1
rolls_back old new (Err e) inside h =
    go (refuses_as (codes "ROLLBACK") [] old new Rollback (rollback_is _) (rollback_plain _) (rollback_whole _) e h)
  where
    go : RefusesAs old new Rollback (statement_of (codes "ROLLBACK") (understood old.now.schema (codes "ROLLBACK"))) []
        e → IsRolledBack old new
    go (inl h) = absurd (elim h.0 [
      | inl misplaced ↦ elim misplaced [
        | inl state ↦ elim state.1 [ inl twice ↦ let e = twice.0 in cc | inr other ↦ true≢false (sym inside ∙ other.1) ]
        | inr mark ↦ elim mark.2 [ inl a ↦ cc | inr b ↦ cc ]
      ]
      | inr own ↦ own.0
    ])
    go (inr fails) = fails.3

pub rolls_nothing : (s : State) (db : Trees) → ¬ CommitsBy (codes "ROLLBACK") [] s db
rolls_nothing s db h = go (commits_as (codes "ROLLBACK") [] s s Rollback (rollback_is _) (rollback_plain _) db h)
  where
    go : MayCommit s None Rollback (statement_of (codes "ROLLBACK") (understood s.now.schema (codes "ROLLBACK"))) [] db
        → ⊥
    go (inl h) = elim h.0 [ inl a ↦ cc | inr b ↦ let e = b.2 in cc ]
    go (inr h) = let e = h.3 in cc

-- ---- a text that does nothing

pub nothing_changes : (old new : State) (count : ℕ) → Executes (codes "") [] old new (Ok count) → IsUnchanged old new
nothing_changes old new count h =
    (runs_as (codes "") [] old new old.now.schema refl Nothing (empty_is _) (empty_plain _) count h).0

pub nothing_commits : (s : State) (db : Trees) → ¬ CommitsBy (codes "") [] s db
nothing_commits s db h = go (commits_as (codes "") [] s s Nothing (empty_is _) (empty_plain _) db h)
  where
    go : MayCommit s None Nothing (statement_of (codes "") (understood s.now.schema (codes ""))) [] db → ⊥
    go (inl h) = elim h.0 [ inl a ↦ cc | inr b ↦ let e = b.2 in cc ]
    go (inr h) = let e = h.3 in cc

-- ---- an error, of any text

pub as_before_or_undone : (sql : List ℕ) (params : Row) (old new : State) (e : Error)
    → Executes sql params old new (Err e) → IsUnchanged old new ⊎ IsRolledBack old new
unfolding ExecutesIn IsNotRun
as_before_or_undone sql params old new e (inl h) = elim h [ inl none ↦ inl none.1 | inr fails ↦ inr fails.3 ]
as_before_or_undone sql params old new e (inr h) = go (shows_rows false h.0) h.2
  where
    go : (b : Bool) → MatchBool b (◌≡◌ {A = Result ℕ Error} (Err e) (Err ExecuteReturnedResults) × IsUnchanged old new)
        (RunsCommand old new sql h.0 (timed params h.0.formats h.1.now) (Err e))
        → IsUnchanged old new ⊎ IsRolledBack old new
    go true it = inl it.1
    go false it = elim it [ inl own ↦ inl own.1 | inr fails ↦ inr fails.3 ]

-- ---- a call after a rollback

pub is_back : (old new : State) → IsRolledBack old new → IsBack old new
is_back old new back = record { was_open = back.was_open; undone = back.undone; autocommit = back.autocommit }

pub undone_then : (a b c : State) → IsRolledBack a b → IsUnchanged b c ⊎ IsRolledBack b c → IsRolledBack a c
undone_then a b c p (inl q) = record {
  was_open = λ up. p.was_open q.0.was_open;
  undone = λ up. let was = p.undone q.0.was_open in (q.0.now_is ∙ was.0, q.0.committed_is ∙ was.1);
  autocommit = q.0.mode ∙ p.autocommit;
  unmarked = q.2 ∙ p.unmarked;
  counts = record { changes = q.1.changes ∙ p.counts.changes; last_rowid = q.1.last_rowid ∙ p.counts.last_rowid };
}
undone_then a b c p (inr q) = record {
  was_open = λ up. p.was_open (q.was_open up);
  undone = λ up. let was = p.undone (q.was_open up) in let now = q.undone up in (now.0 ∙ was.1, now.1 ∙ was.1);
  autocommit = q.autocommit;
  unmarked = q.unmarked;
  counts =
      record { changes = q.counts.changes ∙ p.counts.changes; last_rowid = q.counts.last_rowid ∙ p.counts.last_rowid };
}

-- what a call that only asks leaves
pub unchanged_or_undone : {A E : Type 0} (r : Result A E) (old new : State) → OnOk r (IsUnchanged old new)
    → OnErr r (IsUnchanged old new ⊎ IsRolledBack old new) → IsUnchanged old new ⊎ IsRolledBack old new
unchanged_or_undone (Ok x) old new same failed = inl same
unchanged_or_undone (Err e) old new same failed = failed

-- ---- inside a transaction

pub inside_only : (sql : List ℕ) (params : Row) (old new : State) (schema : Schema) (command : Command)
    → command_of (understood schema sql) ≡ command → IsPlain (understood schema sql) → ¬ Ends command
    → (HasCleanDisk old → (old.now.schema ≡ schema) × IsTrue old.in_transaction)
    → Survives old new (CommitsBy sql params old) → Survives old new (λ _. ⊥)
inside_only sql params old new schema command is plain other ready s =
    survives_weaker old new _ _ (λ clean db h. let known = ready (omega (arith, clean, s.clean)) in
    inside_nothing sql params old command (subst (λ k. command_of (understood k sql) ≡ command) (sym known.0) is)
    (subst (λ k. IsPlain (understood k sql)) (sym known.0) plain) other known.1 db h) s

pub shows_inside : (old new : State) → IsTrue old.in_transaction
    → Shows old new new.now (if old.in_transaction then old.committed else new.now) old.in_transaction
    → Shows old new new.now old.committed true
shows_inside old new inside h = subst (λ b. Shows old new new.now (if b then old.committed else new.now) b) inside h

pub keeps_commit : (old new : State) → IsUnchanged old new ⊎ IsRolledBack old new → KeepsCommit old new
keeps_commit old new (inl same) = record { was_open = λ _. same.0.was_open; committed = λ _. same.0.committed_is }
keeps_commit old new (inr back) = record { was_open = back.was_open; committed = λ up. (back.undone up).1 }

pub same_tables : (old new : State) → new.now ≡ old.now → HasTables old → HasTables new
same_tables old new same has = record {
  schema = ap (λ (d : Database). d.schema) same ∙ has.schema;
  shaped = λ table. subst (λ (d : Database). IsShaped Table (d.trees (tree_number table))) (sym same) (has.shaped table);
}

pub same_old_tables : (old new : State) → new.now ≡ old.now → HasOldTables old → HasOldTables new
same_old_tables old new same has = record {
  schema = ap (λ (d : Database). d.schema) same ∙ has.schema;
  shaped =
      λ table low.
      subst (λ (d : Database). IsShaped Table (d.trees (tree_number table))) (sym same) (has.shaped table low);
}
