-- What SELECT .. ORDER BY the key shows of a table.
use Rattle.std.proofs.Common.{◌≡◌, ℕ, pos, negsuc, List, [], ◌∷◌, map, false, None, refl, sym, ap, subst, ◌∙◌}
use Rattle.std.specs.List.{AllByRecursion, flat_map}
use Rattle.std.specs.declared.cmp.Ordering.TheVariants.{Less, Equal}
use Rattle.std.specs.Ordering.{ordering_then}
use Rattle.sqlite.specs.declared.types.Value.TheVariants.{Int}
use Rattle.sqlite.specs.Order.{Row, value_cmp}
use Rattle.sqlite.specs.Term.{Term, eval_all, lit, col}
use Rattle.sqlite.specs.Query.{Query, inner, end, IsAnswer, Output, output, output_cmp}
use Rattle.sqlite.specs.Collation.TheVariants.{Binary}
use Rattle.sqlite_value.specs.Keys.{ascending}
use Rattle.sqlite_sql.proofs.QueryLemmas.{output_cmp_total}
use Rattle.sqlite.specs.Tree.{Trees, rowid, IsTable, IsAscending}
use Rattle.sqlite_keyed.proofs.SortLemmas.{sorted_unique}

-- each row of one table, in the order of its numbers
abbrev pub in_order : ℕ → List Term → Query
in_order tree shown = record {
  from = inner tree end;
  filter = [];
  group = None;
  project = shown;
  distinct = false;
  collations = [];
  order = (col 1 0, ascending Binary) ∷ [];
  limit = lit (Int (negsuc 0));
  offset = lit (Int (pos 0));
}

module _ (tree : ℕ) (shown : List Term) (params : Row) where
  -- the key of a row, and what is shown of it
  abbrev made : Row → Output
  made r = (rowid r ∷ [], eval_all shown (params ∷ r ∷ []))

  all_matched : (rows : List Row)
      → map (output (in_order tree shown)) (flat_map (λ r. (params ∷ r ∷ []) ∷ []) rows) ≡ map made rows
  all_matched [] = refl
  all_matched (r ∷ rows) = ap (λ l. made r ∷ l) (all_matched rows)

  above_each : (r : Row) (rows : List Row) → AllByRecursion (λ x. value_cmp (rowid r) (rowid x) ≡ Less) rows
      → AllByRecursion (λ o. output_cmp (in_order tree shown) (made r) o ≡ Less) (map made rows)
  above_each r [] h = tt
  above_each r (x ∷ rows) h = (ap (λ c. ordering_then c Equal) h.0, above_each r rows h.1)

  rising : (rows : List Row) → IsTable rows
      → IsAscending (λ a b. output_cmp (in_order tree shown) a b ≡ Less) (map made rows)
  rising [] h = tt
  rising (r ∷ rows) h = (above_each r rows h.0, rising rows h.1)

  shown_of : (rows : List Row)
      → map (λ (o : Output). o.1) (map made rows) ≡ map (λ r. eval_all shown (params ∷ r ∷ [])) rows
  shown_of [] = refl
  shown_of (r ∷ rows) = ap (λ l. eval_all shown (params ∷ r ∷ []) ∷ l) (shown_of rows)

  pub loads : (db : Trees) (rows : List Row) → IsTable (db tree) → IsAnswer (in_order tree shown) db params rows
      → rows ≡ map (λ r. eval_all shown (params ∷ r ∷ [])) (db tree)
  loads db rows sorted a =
      let kept : a.kept ≡ map made (db tree) =
      a.distinct ∙ ap (map (output (in_order tree shown))) a.grouped ∙ all_matched (db tree) in
      let strict =
      subst (IsAscending (λ x y. output_cmp (in_order tree shown) x y ≡ Less)) (sym kept) (rising (db tree) sorted) in
      let same : a.ordered ≡ a.kept =
      sorted_unique (output_cmp (in_order tree shown)) (output_cmp_total (in_order tree shown)) a.kept a.ordered strict
      a.same a.sorted in
      a.shown ∙ ap (map (λ (o : Output). o.1)) (same ∙ kept) ∙ shown_of (db tree)
