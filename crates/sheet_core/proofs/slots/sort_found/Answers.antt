use Rattle.std.proofs.Common.{rules}
use Rattle.std.specs.Ordering.{is_lt}
use Rattle.std.proofs.lemmas.List.Sorted.{ranks_by, answers_always}
use Rattle.sheet_core.specs.Sheet.{key_cmp}
use Rattle.sheet_core.proofs.Keys.{keys_total}
use Rattle.sheet_core.proofs.slots.sort_found.Goals as goal

pub returns-clause-sorted : goal.returns-clause-sorted
returns-clause-sorted g c =
    c.sort_unstable_by.ensures.sorted
    (λ x y. is_lt (key_cmp (g.R.Key.RowKey.digits x.key.now) (g.R.Key.RowKey.digits y.key.now)))
    (ranks_by keys_total (λ f. g.R.Key.RowKey.digits f.key.now)) (answers_always _ _ _ (λ f a r f' h. search rules))
