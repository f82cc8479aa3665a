-- What the laws of a database tell of the tables that a connection over it finds.
use Rattle.std.proofs.Common.{◌≡◌, ◌≢◌, ◌<◌, ◌≤◌, ℕ, suc, List, [], ◌∷◌, Bool, true, false, IsTrue, inl, inr}
use Rattle.std.proofs.Common.{Result, Ok, Err, IfOk, IfErr, refl, sym, ap, subst, ◌∙◌, arith}
use Rattle.sqlite.specs.Held.{Held, IsConnected, state}
use Rattle.sqlite.specs.State.{State, HasCleanDisk}
use Rattle.sqlite.specs.Table.{Table}
use Rattle.sqlite.specs.Schema.{Schema}
use Rattle.sqlite.specs.Tree.{Trees, IsTable}
use Rattle.sqlite_catalog.specs.Listing.{IsSound}
use Rattle.sqlite_catalog.proofs.LayoutLemmas.{table_shape}
use Rattle.sqlite_catalog.proofs.ReadLemmas.{lists_once}
use Rattle.sqlite_rules.specs.Lists.{Has}
use Rattle.sqlite_trees.specs.Objects.{catalog_tree, IsListed}
use Rattle.sqlite_trees.specs.View.{View, doubt, IsClean, IsOrdered, IsShaped}
use Rattle.sqlite_trees.specs.declared.store.Shape.TheVariants as shape
use Rattle.sqlite_trees.specs.declared.store.Store.{Ghosts}
use Rattle.table_store.specs.Opened.{IsForeign}
use Rattle.table_store.specs.Schema.{IsOwn, desk_schema, old_schema, position, tree_number}
use Rattle.table_store.specs.Values.{HasOldTables, HasTables}
use Rattle.table_store.specs.declared.name.TableName.{TableName}
use Rattle.table_store.specs.declared.name.TableName.TheVariants.{Meta, Categories, Locations, Parts, Lines}
use Rattle.table_store.specs.declared.name.TableName.TheVariants.{Substitutes, Items, History, Orders}
use Rattle.table_store.specs.declared.name.TableName.TheVariants.{OrderLines, Builds, Allocations, Kept, Spent}

-- a database whose list of objects is that of a schema has the schema's tables in order
pub tables_ordered : (v : View) (schema : Schema) → IsOrdered v.shape v.trees
    → IsListed (v.trees catalog_tree) v.shape v.reals → IsSound schema v.trees
    → (table : Table) → Has schema.tables table → IsShaped shape.Table (v.trees table.tree)
tables_ordered v schema ordered listed sound table there =
    let catalog : IsTable (v.trees catalog_tree) =
    (subst (λ s. IsShaped s (v.trees catalog_tree)) listed.itself.0 (ordered catalog_tree)).0 in
    subst (λ s. IsShaped s (v.trees table.tree)) (table_shape listed catalog sound.lists.listed table there).0
    (ordered table.tree)

-- a database that isn't broken is open
pub open_if_sound : (is_open is_broken : Bool) → (is_open ≡ false → IsTrue is_broken) → is_broken ≡ false
    → IsTrue is_open
open_if_sound true is_broken shut sound = refl
open_if_sound false is_broken shut sound = let clash : true ≡ false = sym (shut refl) ∙ sound in cc

-- what a connection keeps true of the database that it holds
abbrev pub Connects : {S : Type 0} → Ghosts S → Held S → Type 0
Connects g h = IsConnected (g.view h.store) (g.recovers h.store) h.schema h.saved h.in_transaction

-- ---- the desk's tables

abbrev IsPlaced : TableName → Type 0
IsPlaced name = (table : Table) × Has desk_schema.tables table × (table.tree ≡ tree_number name)

placed : (name : TableName) → IsPlaced name
placed Meta = (_, inl refl, refl)
placed Categories = (_, inr (inl refl), refl)
placed Locations = (_, inr (inr (inl refl)), refl)
placed Parts = (_, inr (inr (inr (inl refl))), refl)
placed Lines = (_, inr (inr (inr (inr (inl refl)))), refl)
placed Substitutes = (_, inr (inr (inr (inr (inr (inl refl))))), refl)
placed Items = (_, inr (inr (inr (inr (inr (inr (inl refl)))))), refl)
placed History = (_, inr (inr (inr (inr (inr (inr (inr (inl refl))))))), refl)
placed Orders = (_, inr (inr (inr (inr (inr (inr (inr (inr (inl refl)))))))), refl)
placed OrderLines = (_, inr (inr (inr (inr (inr (inr (inr (inr (inr (inl refl))))))))), refl)
placed Builds = (_, inr (inr (inr (inr (inr (inr (inr (inr (inr (inr (inl refl)))))))))), refl)
placed Allocations = (_, inr (inr (inr (inr (inr (inr (inr (inr (inr (inr (inr (inl refl))))))))))), refl)
placed Kept = (_, inr (inr (inr (inr (inr (inr (inr (inr (inr (inr (inr (inr (inl refl)))))))))))), refl)
placed Spent = (_, inr (inr (inr (inr (inr (inr (inr (inr (inr (inr (inr (inr (inr (inl refl))))))))))))), refl)

abbrev pub AreShaped : State → Type 0
AreShaped s = (table : Table) → Has s.now.schema.tables table → IsShaped shape.Table (s.now.trees table.tree)

-- an open connection's transaction isn't broken, so its database has them in order
pub in_order : {S : Type 0} (g : Ghosts S) (h : Held S)
    → ((s : S) → (g.view s).is_broken ≡ false → IsOrdered (g.view s).shape (g.view s).trees)
    → ((s : S) → (g.view s).is_broken ≡ false → IsListed ((g.view s).trees catalog_tree) (g.view s).shape (g.view s).reals)
    → Connects g h → IsTrue (state g h).is_open → AreShaped (state g h)
in_order g h ordered listed connected is_open =
    let it = connected.serves is_open in
    tables_ordered (g.view h.store) h.schema (ordered h.store it.unbroken) (listed h.store it.unbroken) it.sound

pub desk_shaped : (s : State) → s.now.schema ≡ desk_schema → AreShaped s → HasTables s
desk_shaped s desk shaped = record {
  schema = desk;
  shaped = λ name.
      let it = placed name in
      subst (λ t. IsShaped shape.Table (s.now.trees t)) it.2
      (shaped it.0 (subst (λ (d : Schema). Has d.tables it.0) (sym desk) it.1));
}

-- the tables of version 1
abbrev IsPlacedOld : TableName → Type 0
IsPlacedOld name = (table : Table) × Has old_schema.tables table × (table.tree ≡ tree_number name)

placed_old : (name : TableName) → position name < 13 → IsPlacedOld name
placed_old Meta low = (_, inl refl, refl)
placed_old Categories low = (_, inr (inl refl), refl)
placed_old Locations low = (_, inr (inr (inl refl)), refl)
placed_old Parts low = (_, inr (inr (inr (inl refl))), refl)
placed_old Lines low = (_, inr (inr (inr (inr (inl refl)))), refl)
placed_old Substitutes low = (_, inr (inr (inr (inr (inr (inl refl))))), refl)
placed_old Items low = (_, inr (inr (inr (inr (inr (inr (inl refl)))))), refl)
placed_old History low = (_, inr (inr (inr (inr (inr (inr (inr (inl refl))))))), refl)
placed_old Orders low = (_, inr (inr (inr (inr (inr (inr (inr (inr (inl refl)))))))), refl)
placed_old OrderLines low = (_, inr (inr (inr (inr (inr (inr (inr (inr (inr (inl refl))))))))), refl)
placed_old Builds low = (_, inr (inr (inr (inr (inr (inr (inr (inr (inr (inr (inl refl)))))))))), refl)
placed_old Allocations low = (_, inr (inr (inr (inr (inr (inr (inr (inr (inr (inr (inr (inl refl))))))))))), refl)
placed_old Kept low = (_, inr (inr (inr (inr (inr (inr (inr (inr (inr (inr (inr (inr (inl refl)))))))))))), refl)
placed_old Spent low = absurd (omega (arith, low))

pub old_shaped : (s : State) → s.now.schema ≡ old_schema → AreShaped s → HasOldTables s
old_shaped s old shaped = record {
  schema = old;
  shaped = λ name low.
      let it = placed_old name low in
      subst (λ t. IsShaped shape.Table (s.now.trees t)) it.2
      (shaped it.0 (subst (λ (d : Schema). Has d.tables it.0) (sym old) it.1));
}

-- trees list one schema
pub one_schema : (trees : Trees) (a b : Schema) → IsSound a trees → IsSound b trees → a ≡ b
one_schema trees a b one two = lists_once (trees catalog_tree) a b one.lists two.lists

abbrev count_of : List Table → ℕ
count_of [] = 0
count_of (t ∷ tables) = suc (count_of tables)

-- the schemas of the two versions are two
pub apart : desk_schema ≢ old_schema
apart same = let more : 14 ≡ 13 = ap (λ (s : Schema). count_of s.tables) same in absurd (omega (arith, more))

-- trees that list a schema of the desk's list no other
not_foreign : (trees : Trees) (schema : Schema) → IsSound schema trees → IsOwn schema → ¬ IsForeign trees
not_foreign trees schema sound own (other, listed, not) =
    not (subst IsOwn (one_schema trees schema other sound listed) own)

module _ {C E : Type 0} (shows : C → State) where
  -- nor are they another's whose schema was found to be one of the desk's
  pub own_told : (r : Result C E) (conn : C) (trees : Trees) → IfOk r (λ c. c ≡ conn)
      → IfOk r (λ c. IsOwn (shows c).now.schema)
      → (HasCleanDisk (shows conn) → IsSound (shows conn).now.schema (shows conn).now.trees)
      → (HasCleanDisk (shows conn) → (shows conn).now.trees ≡ trees)
      → IfOk r (λ c. HasCleanDisk (shows c) → ¬ IsForeign trees)
  own_told (Ok c) conn trees same desk sound is = λ clean.
      let here : HasCleanDisk (shows conn) = subst (λ x. HasCleanDisk (shows x)) same clean in
      not_foreign trees (shows conn).now.schema (subst (IsSound (shows conn).now.schema) (is here) (sound here))
      (subst (λ x. IsOwn (shows x).now.schema) same desk)
  own_told (Err e) conn trees same desk sound is = tt

  -- the trees of a connection that was handed on are those of its schema
  pub sound_told : (r : Result C E) (conn : C) → IfOk r (λ c. c ≡ conn)
      → (HasCleanDisk (shows conn) → IsSound (shows conn).now.schema (shows conn).now.trees)
      → IfOk r (λ c. HasCleanDisk (shows c) → IsSound (shows c).now.schema (shows c).now.trees)
  sound_told (Ok c) conn same sound =
      subst (λ x. HasCleanDisk (shows x) → IsSound (shows x).now.schema (shows x).now.trees) (sym same) sound
  sound_told (Err e) conn same sound = tt

  -- and a crash leaves of it what it left before
  pub left_told : (r : Result C E) (conn : C) (Before : Trees → Type 0) → IfOk r (λ c. c ≡ conn)
      → (HasCleanDisk (shows conn) → (trees : Trees) → (shows conn).may_leave trees → Before trees)
      → IfOk r (λ c. HasCleanDisk (shows c) → (trees : Trees) → (shows c).may_leave trees → Before trees)
  left_told (Ok c) conn Before same left =
      subst (λ x. HasCleanDisk (shows x) → (trees : Trees) → (shows x).may_leave trees → Before trees) (sym same) left
  left_told (Err e) conn Before same left = tt

module _ {C F S : Type 0} (view : S → View) (recovers : S → Trees → Type 0) where
  -- what a crash leaves of a database that was handed back is what it left before
  pub harmless_by : (r : Result C (F × S)) (dirt : ℕ) (Leaves Before : Trees → Type 0)
      → IfErr r (λ e. dirt ≤ doubt (view e.1).is_clean)
      → IfErr r (λ e. (trees : Trees) → recovers e.1 trees → Leaves trees)
      → (dirt ≡ 0 → (trees : Trees) → Leaves trees → Before trees)
      → IfErr r (λ e. IsClean (view e.1) → (trees : Trees) → recovers e.1 trees → Before trees)
  harmless_by (Ok c) dirt Leaves Before less leaves before = tt
  harmless_by (Err e) dirt Leaves Before less leaves before =
      λ clean trees h. before (omega (arith, clean, less)) trees (leaves trees h)
