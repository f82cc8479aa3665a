-- A table is one of the desk's where each of its parts is that table's.
use Rattle.std.proofs.Common.{◌≡◌, ◌≢◌, ◌↔◌, ◌<◌, ◌≤◌, ℕ, get_or, length, map, take, arith, refl, sym, ap, subst, ◌∙◌}
use Rattle.std.proofs.lemmas.List.{get_or-map, get_or-take, length-take}
use Rattle.sqlite.specs.Table.{Table}
use Rattle.table_store.specs.Schema.{all_names, position, table_of}
use Rattle.table_store.specs.Shape.{IsNumbered, IsWorded, IsKeyed, HasNoRule, HasParts}
use Rattle.table_store.specs.declared.name.TableName.{TableName}
use Rattle.table_store.specs.declared.name.TableName.TheVariants.{Meta, Categories, Locations, Parts, Lines}
use Rattle.table_store.specs.declared.name.TableName.TheVariants.{Substitutes, Items, History, Orders}
use Rattle.table_store.specs.declared.name.TableName.TheVariants.{OrderLines, Builds, Allocations, Kept, Spent}

pub keyed_by_number : (name : TableName) (t : Table) → name ≢ Kept → IsKeyed name t ↔ IsNumbered t
keyed_by_number Kept t other = absurd (other refl)
keyed_by_number _ t other = (λ h. h, λ h. h)

same_table : (t u : Table) → t.name ≡ u.name → t.tree ≡ u.tree → t.columns ≡ u.columns → t.key ≡ u.key
    → t.primary ≡ u.primary → t.uniques ≡ u.uniques → t.orders ≡ u.orders → t.checks ≡ u.checks
    → t.references ≡ u.references → t.computed ≡ u.computed → t.stamps ≡ u.stamps → t.is_counted ≡ u.is_counted → t ≡ u
same_table t u a b c d e f g h i j k l =
    ap (λ x. record t { name = x }) a
    ∙ ap (λ x. record t { name = u.name; tree = x }) b
    ∙ ap (λ x. record t { name = u.name; tree = u.tree; columns = x }) c
    ∙ ap (λ x. record t { name = u.name; tree = u.tree; columns = u.columns; key = x }) d
    ∙ ap (λ x. record t { name = u.name; tree = u.tree; columns = u.columns; key = u.key; primary = x }) e
    ∙ ap
    (λ x. record t { name = u.name; tree = u.tree; columns = u.columns; key = u.key; primary = u.primary; uniques = x })
    f
    ∙ ap (λ x. record u {
      orders = x;
      checks = t.checks;
      references = t.references;
      computed = t.computed;
      stamps = t.stamps;
      is_counted = t.is_counted;
    }) g
    ∙ ap (λ x. record u {
      checks = x;
      references = t.references;
      computed = t.computed;
      stamps = t.stamps;
      is_counted = t.is_counted;
    }) h
    ∙ ap (λ x. record u { references = x; computed = t.computed; stamps = t.stamps; is_counted = t.is_counted }) i
    ∙ ap (λ x. record u { computed = x; stamps = t.stamps; is_counted = t.is_counted }) j
    ∙ ap (λ x. record u { stamps = x; is_counted = t.is_counted }) k
    ∙ ap (λ x. record u { is_counted = x }) l

-- ---- the desk's own

rule_free : (name : TableName) → HasNoRule (table_of name)
rule_free Kept = record { checks = refl; references = refl; computed = refl; stamps = refl; counted = refl }
rule_free _ = record { checks = refl; references = refl; computed = refl; stamps = refl; counted = refl }

own_parts : (name : TableName) → HasParts name (table_of name)
own_parts Kept = record {
  named = record { name_is = refl; tree = refl; columns = refl };
  keyed = record { key = refl; primary = refl; uniques = refl; orders = refl };
  bare = rule_free Kept;
}
own_parts name = record {
  named = record { name_is = refl; tree = refl; columns = refl };
  keyed = record { key = refl; primary = refl; uniques = refl; orders = refl };
  bare = rule_free name;
}

numbered_is : (t u : Table) → IsNumbered t → IsNumbered u → HasNoRule t → HasNoRule u → t.name ≡ u.name
    → t.tree ≡ u.tree → t.columns ≡ u.columns → t ≡ u
numbered_is t u a b p q name tree columns =
    same_table t u name tree columns (a.key ∙ sym b.key) (a.primary ∙ sym b.primary) (a.uniques ∙ sym b.uniques)
    (a.orders ∙ sym b.orders) (p.checks ∙ sym q.checks) (p.references ∙ sym q.references) (p.computed ∙ sym q.computed)
    (p.stamps ∙ sym q.stamps) (p.counted ∙ sym q.counted)

worded_is : (t u : Table) → IsWorded t → IsWorded u → HasNoRule t → HasNoRule u → t.name ≡ u.name → t.tree ≡ u.tree
    → t.columns ≡ u.columns → t ≡ u
worded_is t u a b p q name tree columns =
    same_table t u name tree columns (a.key ∙ sym b.key) (a.primary ∙ sym b.primary) (a.uniques ∙ sym b.uniques)
    (a.orders ∙ sym b.orders) (p.checks ∙ sym q.checks) (p.references ∙ sym q.references) (p.computed ∙ sym q.computed)
    (p.stamps ∙ sym q.stamps) (p.counted ∙ sym q.counted)

parts_are : (name : TableName) (t : Table) → HasParts name t → t ≡ table_of name
parts_are Kept t h =
    worded_is t (table_of Kept) h.keyed (own_parts Kept).keyed h.bare (rule_free Kept) h.named.name_is h.named.tree
    h.named.columns
parts_are table t h =
    numbered_is t (table_of table) h.keyed (own_parts table).keyed h.bare (rule_free table) h.named.name_is h.named.tree h.named.columns

pub table_by_parts : (name : TableName) (t : Table) → HasParts name t ↔ (t ≡ table_of name)
table_by_parts name t = (parts_are name t, λ e. subst (HasParts name) (sym e) (own_parts name))

-- ---- the places of the tables

own_place : (name : TableName) → get_or all_names (position name) Meta ≡ name
own_place Kept = refl
own_place _ = refl

-- among the first so many tables each stands at its own place
pub at_place : (name : TableName) (count place : ℕ) (d : Table) → position name ≡ place → place < count → count ≤ 14
    → get_or (map table_of (take count all_names)) place d ≡ table_of name
at_place name count place d is low most =
    let all : length all_names ≡ 14 = refl in
    let many = length-take count all_names in
    get_or-map table_of (take count all_names) place Meta d (omega (arith, all, many, low, most))
    ∙ ap table_of
    (get_or-take count all_names place Meta low ∙ ap (λ n. get_or all_names n Meta) (sym is) ∙ own_place name)
