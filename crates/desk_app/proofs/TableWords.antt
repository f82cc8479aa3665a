-- Tables by their names.
use Rattle.std.proofs.Common.{◌≡◌, ◌<◌, ℕ, zero, suc, Bool, true, false, List, [], ◌∷◌, Option, Some, None, refl, sym}
use Rattle.std.proofs.Common.{subst, cond, arith, slice_index, Decides}
use Rattle.std.specs.Prelude.{codes, ◌&&◌, nat_lt}
use Rattle.std.specs.List.{list_all}
use Rattle.std.specs.Str.{bytes_eq, IsUtf8, IsAscii}
use Rattle.std.proofs.lemmas.Bool.Decides.{nat_tests}
use Rattle.std.proofs.lemmas.Slice.Eq.{bytes_eq-Decides}
use Rattle.std.proofs.lemmas.Str.{IsUtf8-from_ascii}
use Rattle.table_store.specs.declared.name.TableName.{TableName}
use Rattle.table_store.specs.declared.name.TableName.TheVariants as table
use Rattle.table_store.specs.Named.{table_named}

ascii : (s : List ℕ) → list_all (λ b. nat_lt b 128) s ≡ true → IsAscii s
ascii [] h i = omega arith
ascii (b ∷ s) h i = by (nat_lt b 128) refl h (ascii s) i
  where
    by : (c : Bool) → nat_lt b 128 ≡ c → (c && list_all (λ x. nat_lt x 128) s) ≡ true
        → (list_all (λ x. nat_lt x 128) s ≡ true → IsAscii s) → (j : ℕ) → slice_index (b ∷ s) j < 128
    by false q e ih j = absurd (cc)
    by true q e ih zero = grind (arith, nat_tests)
    by true q e ih (suc j) = ih e j

-- bytes that are no text aren't this name of ASCII: what is said of others decides
other : (s name : List ℕ) (t : TableName) (rest : Option TableName) → (IsUtf8 s → ⊥)
    → list_all (λ b. nat_lt b 128) name ≡ true → None ≡ rest → None ≡ cond (bytes_eq s name) (Some t) rest
other s name t rest alien plain e = by (bytes_eq s name) (bytes_eq-Decides s name)
  where
    by : (c : Bool) → Decides c (s ≡ name) → None ≡ cond c (Some t) rest
    by true is = absurd (alien (subst IsUtf8 (sym (is.0 refl)) (IsUtf8-from_ascii name (ascii name plain))))
    by false isnt = e

pub no_table : (s : List ℕ) → (IsUtf8 s → ⊥) → None ≡ table_named s
no_table s alien =
    other s (codes "meta") table.Meta _ alien refl
    (other s (codes "categories") table.Categories _ alien refl
    (other s (codes "locations") table.Locations _ alien refl
    (other s (codes "parts") table.Parts _ alien refl
    (other s (codes "lines") table.Lines _ alien refl
    (other s (codes "substitutes") table.Substitutes _ alien refl
    (other s (codes "items") table.Items _ alien refl
    (other s (codes "history") table.History _ alien refl
    (other s (codes "orders") table.Orders _ alien refl
    (other s (codes "order_lines") table.OrderLines _ alien refl
    (other s (codes "builds") table.Builds _ alien refl
    (other s (codes "allocations") table.Allocations _ alien refl
    (other s (codes "kept") table.Kept _ alien refl
    (other s (codes "spent") table.Spent _ alien refl refl)))))))))))))
