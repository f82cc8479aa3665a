-- What the answers and the row of the counter bring to their tables.
use Rattle.std.proofs.Common.{◌≡◌, ℕ, Bool, true, false, cond, List, [], ◌∷◌, Some, arith, refl, sym, ap, ◌∙◌, subst}
use Rattle.std.specs.Prelude.{All}
use Rattle.std.specs.Ordering.{eq_by_cmp}
use Rattle.std.specs.FinMap.{empty, get, get-insert, insert, same_map}
use Rattle.std.proofs.lemmas.List.Elements.{All-from_recursion}
use Rattle.sqlite.specs.Order.{Row}
use Rattle.sheet_core.specs.Columns.{AreSmall, IsSmall}
use Rattle.sheet_core.specs.Filled.{StandUnderKeys}
use Rattle.sheet_core.specs.Sheet.{Rows, Table, key_cmp, now_of}
use Rattle.sheet_core.proofs.FilledTables.{filled-own}
use Rattle.sheet_core.proofs.Keys.{keys_exact, keys_total}
use Rattle.desk_core.specs.KeptColumns.{kept_columns, kept_from}
use Rattle.desk_core.specs.Machine.{IsSoundState, State, StandsKept}
use Rattle.desk_core.specs.declared.kept.Kept.{Kept as KeptRow}
use Rattle.desk_store.specs.MetaColumns.{meta_columns, meta_from, meta_of, only}
use Rattle.desk_store.specs.declared.meta.MetaRow.{MetaRow}
use Rattle.table_store.specs.Written.{IsTableOf, StayAsTheyAre}
use Rattle.table_store.specs.declared.name.TableName.TheVariants.{Meta, Kept}

module _ (sheet source : Rows KeptRow) (same : sheet ≡ source) where
  pub own_words : ((k : List ℕ) (row : KeptRow) → get (now_of source) k ≡ Some row → StandsKept k row)
      → StandUnderKeys (λ (r : KeptRow). r.word) (now_of sheet)
  own_words h =
      subst (λ (s : Rows KeptRow). StandUnderKeys (λ (r : KeptRow). r.word) (now_of s)) (sym same)
      (λ k r is. (h k r is).own)

  pub answers_stay : StayAsTheyAre source.before (now_of source) → StayAsTheyAre sheet.before (now_of sheet)
  answers_stay h = subst (λ (s : Rows KeptRow). StayAsTheyAre s.before (now_of s)) (sym same) h

  pub before_there : (tree : List Row) → IsTableOf kept_from kept_columns Kept tree source.before
      → IsTableOf kept_from kept_columns Kept tree sheet.before
  before_there tree h = subst (λ (s : Rows KeptRow). IsTableOf kept_from kept_columns Kept tree s.before) (sym same) h

  pub now_there : (tree : List Row) → IsTableOf kept_from kept_columns Kept tree (now_of sheet)
      → IsTableOf kept_from kept_columns Kept tree (now_of source)
  now_there tree h = subst (λ (s : Rows KeptRow). IsTableOf kept_from kept_columns Kept tree (now_of s)) same h

-- answers have no numbers
pub small_answers : (t : Table KeptRow) → AreSmall kept_columns t
small_answers t k row is = All-from_recursion IsSmall (kept_columns row) (tt, (tt, (tt, tt)))

-- the numbers of the counter's row are small
pub small_meta : (s : State) → IsSoundState s → All IsSmall (meta_columns (meta_of s))
small_meta s sound =
    let numbers = s.counter.limits.numbers_within in
    let entries = s.counter.limits.entries_within in
    let next = sound.next.1 in
    let within = sound.stock.items.within in
    All-from_recursion IsSmall (meta_columns (meta_of s)) (
      omega arith,
      (
        omega arith,
        (
          omega (arith, next, numbers),
          (omega (arith, within, entries), (omega (arith, numbers), (omega (arith, entries), tt))),
        ),
      ),
    )

-- ---- the table of one row

pub own_meta : (m : MetaRow) → StandUnderKeys (λ (r : MetaRow). r.one ∷ []) (only m)
own_meta m = filled-own (λ (r : MetaRow). r.one ∷ []) (m ∷ [])

absorbed : {A : Type 0} (b : Bool) (x y z : A) → cond b x (cond b y z) ≡ cond b x z
absorbed true x y z = refl
absorbed false x y z = refl

-- of two rows that are put under one key the later one is there
pub put_twice : {X : Type 0} (k : List ℕ) (x y : X)
    → insert (insert (empty {X = X} {R = key_cmp}) k x) k y ≡ insert empty k y
put_twice k x y =
    same_map keys_total keys_exact _ _ (λ q.
    get-insert keys_total (insert empty k x) k y q
    ∙ ap (cond (eq_by_cmp key_cmp q k) (Some y)) (get-insert keys_total empty k x q)
    ∙ absorbed (eq_by_cmp key_cmp q k) (Some y) (Some x) (get empty q) ∙ sym (get-insert keys_total empty k y q))

-- the row of a state is written over whatever row is there
pub meta_there : (tree : List Row) (old : MetaRow) (new : State) (row : MetaRow) → old.one ≡ 1 → row ≡ meta_of new
    → IsTableOf meta_from meta_columns Meta tree (insert (only old) (row.one ∷ []) row)
    → IsTableOf meta_from meta_columns Meta tree (only (meta_of new))
meta_there tree old new row key is h =
    subst (IsTableOf meta_from meta_columns Meta tree)
    (ap (λ (r : MetaRow). insert (only old) (r.one ∷ []) r) is
    ∙ ap (λ n. insert (insert empty (n ∷ []) old) (1 ∷ []) (meta_of new)) key
    ∙ put_twice (1 ∷ []) old (meta_of new))
    h
