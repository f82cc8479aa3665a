-- A column leaves the values that it takes as they are.
use Rattle.std.proofs.Common.{◌≡◌, ℕ, ℤ, List, [], ◌∷◌, Bool, true, false, cond}
use Rattle.std.proofs.Common.{Option, refl, ap, ◌∙◌, ◌+◌, ◌&&◌, suc, length, arith}
use Rattle.std.specs.Prelude.{if◌then◌else◌}
use Rattle.sqlite_sql.specs.Ops.{unary, is_null}
use Rattle.sqlite.specs.declared.types.Value.{Value}
use Rattle.sqlite.specs.declared.types.Value.TheVariants.{Null, Int, Text as Words}
use Rattle.sqlite.specs.Order.{Row}
use Rattle.sqlite.specs.Kind.{Kind}
use Rattle.sqlite.specs.Kind.TheVariants.{Integer, Text}
use Rattle.sqlite.specs.Cast.{cast, cast_all}
use Rattle.sqlite.specs.Rows.{mended_from}
use Rattle.sqlite_schema.specs.declared.schema.Column.{Column}
use Rattle.table_store.specs.Values.{Takes, TakeAll}

either : (b : Bool) (x : Value) → cond b x x ≡ x
either true x = refl
either false x = refl

pub cast_int : (n : ℤ) → cast Integer (Int n) ≡ Int n
unfolding unary
cast_int n = either _ (Int n)

pub cast_null : cast Integer Null ≡ Null
unfolding unary
cast_null = either _ Null

taken : (kind : Kind) (not_null : Bool) (v : Value) → Takes kind not_null v → cast kind v ≡ v
taken Integer not_null (Int n) it = cast_int n
taken Integer false Null it = cast_null
taken Text not_null (Words t) it = refl
taken Text false Null it = refl
taken _ _ _ it = absurd it

all_taken : (columns : List Column) (values : Row) → TakeAll columns values → cast_all columns values ≡ values
all_taken [] [] all = refl
all_taken (c ∷ columns) (v ∷ values) all =
    ap (λ w. w ∷ cast_all columns values) (taken c.kind c.not_null v all.0)
    ∙ ap (λ l. v ∷ l) (all_taken columns values all.1)
all_taken _ _ all = absurd all

pub as_many : (columns : List Column) (values : Row) → TakeAll columns values → length values ≡ length columns
as_many [] [] all = refl
as_many (c ∷ columns) (v ∷ values) all = ap suc (as_many columns values all.1)
as_many _ _ all = absurd all

a_text : (v : Value) → Takes Text true v → (t : List ℕ) × (v ≡ Words t)
a_text (Words t) it = (t, refl)
a_text _ it = absurd it

pub two_texts : (first second : Column) (values : Row) → first.kind ≡ Text → first.not_null ≡ true → second.kind ≡ Text
    → second.not_null ≡ true
    → TakeAll (first ∷ second ∷ []) values → (a : List ℕ) × (b : List ℕ) × (values ≡ Words a ∷ Words b ∷ [])
two_texts first second (v ∷ w ∷ []) k n l m all =
    let a = a_text v (rw (k, n) at all.0) in
    let b = a_text w (rw (l, m) at all.1.0) in
    (a.0, b.0, ap (λ x. x ∷ w ∷ []) a.1 ∙ ap (λ x. Words a.0 ∷ x ∷ []) b.1)
two_texts first second values k n l m all = absurd (omega (arith, as_many (first ∷ second ∷ []) values all))

pub row_cast : (id : ℤ) (columns : List Column) (values : Row) → TakeAll columns values
    → cast Integer (Int id) ∷ cast Integer Null ∷ cast_all columns values ≡ Int id ∷ Null ∷ values
row_cast id columns values all =
    ap (λ v. v ∷ cast Integer Null ∷ cast_all columns values) (cast_int id)
    ∙ ap (λ v. Int id ∷ v ∷ cast_all columns values) cast_null
    ∙ ap (λ l. Int id ∷ Null ∷ l) (all_taken columns values all)

not_mended : (kind : Kind) (not_null others : Bool) (v default : Value) → Takes kind not_null v
    → (if not_null && is_null v && others then default else v) ≡ v
not_mended kind false others v default it = refl
not_mended Integer true others (Int n) default it = refl
not_mended Text true others (Words t) default it = refl
not_mended _ true _ _ _ it = absurd it

pub none_mended : (key : Option ℕ) (at : ℕ) (columns : List Column) (values : Row) → TakeAll columns values
    → mended_from key at columns values ≡ values
none_mended key at [] [] all = refl
none_mended key at (c ∷ columns) (v ∷ values) all =
    ap (λ w. w ∷ mended_from key (at + 1) columns values) (not_mended c.kind c.not_null _ v c.default all.0)
    ∙ ap (λ l. v ∷ l) (none_mended key (at + 1) columns values all.1)
none_mended _ _ _ _ all = absurd all
