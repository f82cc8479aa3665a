-- The columns of a row are read one by one, and the rows of a table likewise.
use Rattle.std.proofs.Common.{◌≡◌, Result, Ok, Err, IfOk, ℕ, pos, negsuc, Bool, true, false, cond, ◌+◌, ◌<◌, ◌≤◌, List}
use Rattle.std.proofs.Common.{[], ◌∷◌, ◌++◌, map, take, get_or, length, Option, Some, None, refl, sym, ap, subst, ◌∙◌}
use Rattle.std.specs.Prelude.{All}
use Rattle.std.specs.List.{AllByRecursion}
use Rattle.std.specs.Str.{is_utf8}
use Rattle.std.proofs.lemmas.List.{take_more, take_all}
use Rattle.std.proofs.lemmas.List.Elements.{recursion_from_All, All-push}
use Rattle.sqlite.specs.declared.types.Value.TheVariants.{Null, Int, Real, Text as Words, Blob}
use Rattle.sqlite.specs.declared.types.Value.{Value}
use Rattle.sqlite.specs.Order.{Row}
use Rattle.sheet_core.specs.Columns.{◌>>=◌}
use Rattle.sheet_core.specs.declared.column.Column.{Column}
use Rattle.sheet_core.specs.declared.column.Column.TheVariants.{Whole, Text, Absent}
use Rattle.table_store.specs.Stored.{value_of, values_of, column_of, columns_in}
use Rattle.table_store.specs.Written.{IsRead}

-- these columns, before those
abbrev pub onto : List Column → Option (List Column) → Option (List Column)
onto columns None = None
onto columns (Some more) = Some (columns ++ more)

one-found : (v : Value) (vs : Row) (c : Column) → column_of v ≡ Some c
    → columns_in (v ∷ vs) ≡ (columns_in vs >>= λ cs. Some (c ∷ cs))
one-found v vs c e = ap (λ (o : Option Column). o >>= λ c. columns_in vs >>= λ cs. Some (c ∷ cs)) e

-- ---- what is written of columns is read again

-- the value of the column is read as the column
abbrev pub IsKept : Column → Type 0
IsKept c = column_of (value_of c) ≡ Some c

pub text_kept : (text : List ℕ) → is_utf8 text ≡ true → IsKept (Text text)
text_kept text e = ap (λ b. cond b (Some (Text text)) None) e

each_kept : (columns : List Column) → AllByRecursion IsKept columns → columns_in (map value_of columns) ≡ Some columns
each_kept [] h = refl
each_kept (c ∷ cs) h =
    one-found (value_of c) (map value_of cs) c h.0
    ∙ ap (λ (o : Option (List Column)). o >>= λ more. Some (c ∷ more)) (each_kept cs h.1)

columns_kept : (columns : List Column) → All IsKept columns → columns_in (map value_of columns) ≡ Some columns
columns_kept columns all = each_kept columns (recursion_from_All IsKept columns all)

-- one more column, in a loop over them
pub kept_more : (columns : List Column) (i : ℕ) (c : Column) → i < length columns → c ≡ get_or columns i c → IsKept c
    → All IsKept (take i columns) → All IsKept (take (i + 1) columns)
kept_more columns i c within is here before =
    subst (All IsKept) (ap (λ (x : Column). take i columns ++ x ∷ []) is ∙ sym (take_more columns i c within))
    (All-push IsKept (take i columns) c before here)

pub all_kept : (columns : List Column) (i : ℕ) → length columns ≤ i → All IsKept (take i columns)
    → columns_in (map value_of columns) ≡ Some columns
all_kept columns i over all = columns_kept columns (subst (All IsKept) (take_all i columns over) all)

-- a row whose columns are read again is read again
pub row_kept :
    {R : Type 0} (row_from : List Column → Option R) (columns_of : R → List Column) (r : R) (columns : List Column)
    → columns ≡ columns_of r → columns_in (map value_of columns) ≡ Some columns → row_from columns ≡ Some r
    → IsRead row_from columns_of r
row_kept row_from columns_of r columns is read from =
    ap (λ (cs : List Column). columns_in (map value_of cs) >>= row_from) (sym is) ∙ ap (λ o. o >>= row_from) read ∙ from

-- ---- columns are the values that they were read from

same_some : {X : Type 0} (a b : X) → Some a ≡ Some b → a ≡ b
same_some a b e = cc

value_told : (v : Value) (c : Column) → column_of v ≡ Some c → value_of c ≡ v
value_told Null c e = ap value_of (sym (same_some Absent c e))
value_told (Int (pos n)) c e = ap value_of (sym (same_some (Whole n) c e))
value_told (Int (negsuc n)) c e = cc
value_told (Words text) c e = go (is_utf8 text) e
  where
    go : (b : Bool) → cond b (Some (Text text)) None ≡ Some c → value_of c ≡ Words text
    go true e = ap value_of (sym (same_some (Text text) c e))
    go false e = cc
value_told (Real x) c e = cc
value_told (Blob b) c e = cc

pub values_told : (row : Row) (columns : List Column) → columns_in row ≡ Some columns → map value_of columns ≡ row
values_told [] columns e = ap (map value_of) (sym (same_some [] columns e))
values_told (v ∷ vs) columns e = go (column_of v) (columns_in vs) refl refl e (λ cs. values_told vs cs)
  where
    go : (o : Option Column) (more : Option (List Column)) → column_of v ≡ o → columns_in vs ≡ more
        → (o >>= λ c. more >>= λ cs. Some (c ∷ cs)) ≡ Some columns
        → ((cs : List Column) → columns_in vs ≡ Some cs → map value_of cs ≡ vs) → map value_of columns ≡ v ∷ vs
    go None more first rest e ih = cc
    go (Some c) None first rest e ih = cc
    go (Some c) (Some cs) first rest e ih =
        ap (map value_of) (sym (same_some (c ∷ cs) columns e))
        ∙ ap (λ (w : Value). w ∷ map value_of cs) (value_told v c first)
        ∙ ap (λ (ws : Row). v ∷ ws) (ih cs rest)

-- a row that was read from columns is the row that they were read from
pub row_told : {R E : Type 0} (columns_of : R → List Column) (r : Result R E) (row : Row) (columns given : List Column)
    → columns_in row ≡ Some columns → given ≡ columns
    → IfOk r (λ x. columns_of x ≡ given) → IfOk r (λ x. values_of columns_of x ≡ row)
row_told columns_of (Ok x) row columns given read same told =
    ap (map value_of) (told ∙ same) ∙ values_told row columns read
row_told columns_of (Err e) row columns given read same told = tt
