-- The rows that are added to `kept`, one by one, in the table and in the transaction.
use Rattle.std.proofs.Common.{◌≡◌, ◌≢◌, ℕ, Bool, true, false, cond, List, [], ◌∷◌, map, Option}
use Rattle.std.proofs.Common.{Some, None, Result, Ok, Err, OnOk, refl, sym, ap, subst, ◌∙◌}
use Rattle.std.specs.Prelude.{All, option_copied}
use Rattle.std.specs.FinMap.{get, get-insert, get-remove, insert}
use Rattle.sqlite.specs.Order.{Row}
use Rattle.sqlite.specs.State.{State}
use Rattle.sheet_core.specs.Columns.{AreSmall}
use Rattle.sheet_core.specs.Filled.{StandUnderKeys}
use Rattle.sheet_core.specs.Sheet.{Table, given, is_listed, IsDifference, IsEachOnce}
use Rattle.sheet_core.specs.declared.column.Column.{Column}
use Rattle.sheet_core.specs.declared.sheet.Pending.{Pending}
use Rattle.sheet_core.proofs.Keys.{key_eq, key_eq-true, keys_total}
use Rattle.table_store.specs.Stored.{values_of}
use Rattle.table_store.specs.Transactions.{StaysInside}
use Rattle.table_store.specs.Values.{HasTables, HasSet, with_row}
use Rattle.table_store.specs.Written.{tree_of, IsReady, Holds, Writes, SuitKept, KeptTakes}
use Rattle.table_store.specs.Written.{StayAsTheyAre, AreNew, changes_of, given_all}
use Rattle.table_store.specs.declared.name.TableName.{TableName}
use Rattle.table_store.specs.declared.name.TableName.TheVariants.{Kept}
use Rattle.table_store.proofs.Changes.{stays-on, stays-here, key_in, listed-first, listed-later, all-listed}
use Rattle.table_store.proofs.Holding.{own-put}
use Rattle.table_store.proofs.KeptRows.{holds-added}

-- ---- one row

module _ {X E : Type 0} (columns : X → List Column) (key_of : X → List ℕ) (suits : SuitKept columns key_of)
    (old new : State) (r : Result (Unit {0}) E) where
  pub row-added : (x : X) (values : Row) → HasTables old → values ≡ values_of columns x
      → OnOk r (HasSet Kept (with_row Kept values (tree_of Kept old)) old new)
      → (rows : Table X) → StandUnderKeys key_of rows → get rows (key_of x) ≡ None
      → Holds columns Kept (tree_of Kept old) rows
      → OnOk r (Holds columns Kept (tree_of Kept new) (insert rows (key_of x) x))
  row-added x values has is set rows own none holds = go r set
    where
      go : (r : Result (Unit {0}) E) → OnOk r (HasSet Kept (with_row Kept values (tree_of Kept old)) old new)
          → OnOk r (Holds columns Kept (tree_of Kept new) (insert rows (key_of x) x))
      go (Ok u) set =
          subst (λ tree. Holds columns Kept tree (insert rows (key_of x) x))
          (ap (λ (vs : Row). with_row Kept vs (tree_of Kept old)) (sym is) ∙ sym set.rows)
          (holds-added columns key_of suits (tree_of Kept old) rows (has.shaped Kept) own holds x none
          (own-put columns key_of rows x own))
      go (Err e) set = tt

-- ---- some rows are added, and these are left of all

-- where `Is` says of a tree whose rows it has
pub record IsAdding {X : Type 0} (Is : List Row → Table X → Type 0) (key_of : X → List ℕ)
    (left all : List (List ℕ × Option X)) (old now : State) : Type 0 where
  pub ready : IsReady now
  pub stays : StaysInside old now
  pub others : (other : TableName) → other ≢ Kept → tree_of other now ≡ tree_of other old
  pub rows : (rows : Table X) → StandUnderKeys key_of rows → AreNew all rows → Is (tree_of Kept old) rows
      → (mid : Table X) × StandUnderKeys key_of mid × AreNew left mid × Is (tree_of Kept now) mid
      × (given_all left mid ≡ given_all all rows)

pub adding-writes : {X : Type 0} (Is : List Row → Table X → Type 0) (key_of : X → List ℕ)
    (left all : List (List ℕ × Option X)) (old now : State) → IsAdding Is key_of left all old now → Writes Kept old now
adding-writes Is key_of left all old now m =
    record { rows = refl; others = m.others; tables = m.ready.0.0; shown = m.stays }

module _ {X : Type 0} (Is : List Row → Table X → Type 0) (columns : X → List Column) (key_of : X → List ℕ) where
  own-added : (rows : Table X) (k : List ℕ) (o : Option X) → StandUnderKeys key_of rows → KeptTakes columns key_of k o
      → StandUnderKeys key_of (given k o rows)
  own-added rows k None own takes = absurd takes
  own-added rows k (Some x) own takes =
      subst (λ q. StandUnderKeys key_of (insert rows q x)) (sym takes.0) (own-put columns key_of rows x own)

  pub adding-start : (all : List (List ℕ × Option X)) (s : State) → IsReady s → IsAdding Is key_of all all s s
  adding-start all s ready = record {
    ready = ready;
    stays = stays-here s ready;
    others = λ other differs. refl;
    rows = λ rows own free holds. (rows, own, free, holds, refl);
  }

  pub adding-more : (c : List ℕ × Option X) (left all : List (List ℕ × Option X)) (old now new : State)
      → KeptTakes columns key_of c.0 c.1 → IsAdding Is key_of (c ∷ left) all old now → Writes Kept now new
      → ((rows : Table X) → StandUnderKeys key_of rows → get rows c.0 ≡ None → Is (tree_of Kept now) rows
      → Is (tree_of Kept new) (given c.0 c.1 rows))
      → IsAdding Is key_of left all old new
  adding-more c left all old now new takes m set made = record {
    ready = ((set.tables, set.shown.mode), set.shown.is_open);
    stays = stays-on old now new m.stays set.shown;
    others = λ other differs. set.others other differs ∙ m.others other differs;
    rows =
        λ rows own free holds. let mid = m.rows rows own free holds in
        (given c.0 c.1 mid.0, own-added mid.0 c.0 c.1 mid.1 takes, mid.2.1, made mid.0 mid.1 mid.2.0 mid.3, mid.4);
  }

-- ---- the changes of a sheet whose rows stay as they are

module _ {X K : Type 0} (digits : K → List ℕ) where
  still-free : (rows : Table X) (q k : List ℕ) (o : Option X) → key_eq k q ≡ false → get rows k ≡ None
      → get (given q o rows) k ≡ None
  still-free rows q k None other none = get-remove keys_total rows q k ∙ ap (λ b. cond b None (get rows k)) other ∙ none
  still-free rows q k (Some x) other none =
      get-insert keys_total rows q x k ∙ ap (λ b. cond b (Some x) (get rows k)) other ∙ none

  each-new : (ps : List (Pending X K)) (rows : Table X) → IsEachOnce (map (key_in digits) ps)
      → ((k : List ℕ) → is_listed k (map (key_in digits) ps) ≡ true → get rows k ≡ None)
      → AreNew (changes_of digits ps) rows
  each-new [] rows once none = tt
  each-new (p ∷ ps) rows once none = (
    none (key_in digits p) (listed-first digits p ps),
    each-new ps (given (key_in digits p) (option_copied p.row) rows) once.1
        (λ k h. still-free rows (key_in digits p) k (option_copied p.row) (apart k h (key_eq k (key_in digits p)) refl)
        (none k (listed-later digits p ps k h))),
  )
    where
      apart : (k : List ℕ) → is_listed k (map (key_in digits) ps) ≡ true → (b : Bool)
          → key_eq k (key_in digits p) ≡ b → b ≡ false
      apart k h true e =
          let listed : is_listed (key_in digits p) (map (key_in digits) ps) ≡ true =
          subst (λ q. is_listed q (map (key_in digits) ps) ≡ true) (key_eq-true k (key_in digits p) e) h in
          cc
      apart k h false e = refl

  module _ (now before : Table X) (stay : StayAsTheyAre before now) where
    -- there was no row before under a key that has changed
    none-before : (keys : List (List ℕ)) → IsDifference keys now before → (k : List ℕ) → is_listed k keys ≡ true
        → get before k ≡ None
    none-before keys exact k listed = go (get before k) refl
      where
        go : (o : Option X) → get before k ≡ o → o ≡ None
        go None e = refl
        go (Some x) e = let not : is_listed k keys ≡ false = (exact k).1 (stay k x e ∙ sym e) in cc

    pub all-new : (ps : List (Pending X K)) → IsEachOnce (map (λ p. digits p.key.now) ps)
        → IsDifference (map (λ p. digits p.key.now) ps) now before → AreNew (changes_of digits ps) before
    all-new ps once exact = each-new ps before once (none-before (map (key_in digits) ps) exact)

    pub own-before : (key_of : X → List ℕ) → StandUnderKeys key_of now → StandUnderKeys key_of before
    own-before key_of own k x e = own k x (stay k x e)

    module _ (columns : X → List Column) (key_of : X → List ℕ) (own : StandUnderKeys key_of now)
        (small : AreSmall columns now) where
      takes-one : (keys : List (List ℕ)) → IsDifference keys now before → (k : List ℕ) (o : Option X)
          → is_listed k keys ≡ true → o ≡ get now k → KeptTakes columns key_of k o
      takes-one keys exact k (Some x) listed is = (own k x (sym is), small k x (sym is))
      takes-one keys exact k None listed is =
          let not : is_listed k keys ≡ false = (exact k).1 (sym is ∙ sym (none-before keys exact k listed)) in cc

      pub kept-takes-all : (ps : List (Pending X K)) → IsDifference (map (λ p. digits p.key.now) ps) now before
          → All (λ p. option_copied p.row ≡ get now (digits p.key.now)) ps
          → All (λ c. KeptTakes columns key_of c.0 c.1) (changes_of digits ps)
      kept-takes-all ps exact is =
          all-listed digits now (KeptTakes columns key_of) ps (takes-one (map (key_in digits) ps) exact) is
