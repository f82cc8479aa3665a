-- The tables of version 1 are told from those of this version and from others.
use Rattle.std.proofs.Common.{◌≡◌, ◌≢◌, ◌⊎◌, inl, inr, List, [], ◌∷◌, map, Vec, Global, Ok, Err, Bool, false, IsTrue}
use Rattle.std.proofs.Common.{arith, refl, sym, ap, subst, ◌∙◌}
use Rattle.std.specs.Prelude.{Contains}
use Rattle.sqlite.specs.State as sqlite
use Rattle.sqlite.specs.State.{HasCleanDisk, IsUnchanged}
use Rattle.sqlite.specs.Schema.{Schema}
use Rattle.sqlite.specs.Tree.{Trees}
use Rattle.sqlite_catalog.specs.Listing.{IsSound}
use Rattle.desk_store.specs.Loading.{AreOldRows, AreTheRows, Reads}
use Rattle.desk_store.specs.MetaColumns.{meta_columns, meta_from}
use Rattle.desk_store.specs.Opening.{AreForeign, AreOfVersion, HasOtherVersion, IsOfOtherVersion, IsOld}
use Rattle.desk_store.specs.Opening.{WhyBut, WhyNoneOld, WhyNot}
use Rattle.desk_store.specs.declared.fault.OpenFault.{OpenFault}
use Rattle.desk_store.specs.declared.fault.OpenFault.TheVariants.{Memory, Store, Foreign, Old, Damaged}
use Rattle.desk_store.specs.declared.meta.MetaRow.{MetaRow}
use Rattle.desk_store.proofs.Metas.{none-bad, rows-once, same-rows}
use Rattle.desk_store.proofs.Readings.{HasRead, reads-ok, reads-why, was-clean}
use Rattle.table_store.specs.Opened.{IsForeign}
use Rattle.table_store.specs.Schema.{IsOwn, desk_schema, old_schema, tree_number}
use Rattle.table_store.specs.Stored.{AreLoaded, FailsToLoad, HasBadRow, row_of}
use Rattle.table_store.specs.Values.{HasOldTables, HasTable, HasTables}
use Rattle.table_store.specs.declared.fault.Failed.{Failed}
use Rattle.table_store.specs.declared.fault.TableFault.{TableFault}
use Rattle.table_store.specs.declared.fault.TableFault.TheVariants as TheFault
use Rattle.table_store.specs.declared.name.TableName.TheVariants.{Meta}
use Rattle.table_store.proofs.Opening.{apart, one_schema}

-- ---- the rows of `meta`

-- rows that aren't of version 1, or no rows, are those of no tables of version 1
other-rows : (trees : Trees) (rows : List MetaRow)
    → AreLoaded meta_from meta_columns Meta (trees (tree_number Meta)) rows
    → (rows ≡ []) ⊎ HasOtherVersion 1 rows → ¬ IsOld trees
other-rows trees rows loaded which old =
    let same : old.rows ≡ rows =
    same-rows old.rows rows (rows-once (trees (tree_number Meta)) old.rows rows old.loaded loaded) in
    elim which [
      | inl none ↦ old.some (same ∙ none)
      | inr other ↦
          other.2 (old.version other.0 (subst (λ (ms : List MetaRow). Contains ms other.0) (sym same) other.1))
    ]

-- nor are rows of which one can't be read
unread-rows : (trees : Trees) → HasBadRow meta_from Meta (trees (tree_number Meta)) → ¬ IsOld trees
unread-rows trees bad old =
    none-bad bad.shown old.rows bad.bad
    (ap (map (row_of meta_from)) (bad.loaded ∙ sym old.loaded.loaded) ∙ old.loaded.read) bad.there.0 bad.there.1
    bad.there.2 bad.none

module _ (a b : sqlite.State) (read : HasRead a b) (listed : HasCleanDisk a → IsSound old_schema a.now.trees)
    (rows : Vec MetaRow Global) (shown : List MetaRow) (is : shown ≡ rows.items)
    (are : HasCleanDisk b
    → AreTheRows meta_from meta_columns (λ row. row.one ∷ []) Meta (a.now.trees (tree_number Meta)) rows.items) where
  -- rows of version 1 were read
  pub old-read : (shown ≢ []) × AreOfVersion 1 shown
      → Reads (λ trees (rows : Vec MetaRow Global). AreOldRows trees rows.items) WhyNoneOld a b (Ok rows)
  old-read old =
      reads-ok (λ trees (rows : Vec MetaRow Global). AreOldRows trees rows.items) WhyNoneOld a b rows read (λ clean.
      let each : AreOfVersion 1 rows.items = subst (AreOfVersion 1) is old.1 in
      record {
        are = are clean;
        version = each;
        old = record {
          listed = listed (was-clean a b _ read.crash clean);
          rows = rows.items;
          loaded = (are clean).loaded;
          some = λ none. old.0 (is ∙ none);
          version = each;
        };
      })

  -- others were read
  pub other-read : (shown ≡ []) ⊎ HasOtherVersion 1 shown
      → Reads (λ trees (rows : Vec MetaRow Global). AreOldRows trees rows.items) WhyNoneOld a b (Err Foreign)
  other-read which =
      reads-why (λ trees (rows : Vec MetaRow Global). AreOldRows trees rows.items) WhyNoneOld a b Foreign read (λ clean. (
        listed (was-clean a b _ read.crash clean),
        other-rows a.now.trees rows.items (are clean).loaded
            (subst (λ (ms : List MetaRow). (ms ≡ []) ⊎ HasOtherVersion 1 ms) is which),
      ))

-- none were read
pub none-read : (trees : Trees) → IsSound old_schema trees
    → HasBadRow meta_from Meta (trees (tree_number Meta)) → WhyNoneOld trees Foreign
none-read trees listed bad = (listed, unread-rows trees bad)

-- a row that can't be read was read
pub bad-read : (a b : sqlite.State) (fault : TableFault) (failed : Failed) → fault ≡ TheFault.BadRow failed
    → FailsToLoad meta_from Meta a b fault
    → HasBadRow meta_from Meta (a.now.trees (tree_number Meta)) × IsUnchanged a b
bad-read a b fault failed is fails = subst (FailsToLoad meta_from Meta a b) is fails

-- ---- the tables

-- they are those of one version where the schema isn't the other's
pub tables-now : (s : sqlite.State) → HasTables s ⊎ HasOldTables s → s.now.schema ≢ old_schema → HasTables s
tables-now s has other = elim has [ inl now ↦ now | inr old ↦ absurd (other old.schema) ]

-- tables of this version's schema are no older ones
pub never-old : (trees : Trees) → IsSound desk_schema trees → ¬ IsOld trees
never-old trees listed old = apart (one_schema trees desk_schema old_schema listed old.listed)

pub own-tables : (trees : Trees) → IsSound desk_schema trees → ¬ IsOfOtherVersion trees → ¬ AreForeign trees
own-tables trees listed not foreign = elim foreign [
  | inl others ↦ others.2 (inl (one_schema trees others.0 desk_schema others.1 listed))
  | inr more ↦ elim more [
    | inl old ↦ apart (one_schema trees desk_schema old_schema listed old.0)
    | inr other ↦ not other.1
  ]
]

-- why there is no desk in tables of this version's schema
pub why-now : (trees : Trees) → IsSound desk_schema trees → (e : OpenFault) → WhyBut IsOfOtherVersion trees e
    → WhyNot trees e
why-now trees listed Memory said = tt
why-now trees listed (Store failed) said = tt
why-now trees listed Foreign said = inr (inr (listed, said))
why-now trees listed Old said = absurd said
why-now trees listed (Damaged told) said =
    (said.0, said.1, own-tables trees listed said.2, never-old trees listed)

-- `meta` is there in the tables of version 1
pub old-meta : (s : sqlite.State) → HasOldTables s → HasTable Meta s
old-meta s old = record { listed = inr (old.schema, omega arith); shaped = old.shaped Meta (omega arith) }
