use Rattle.std.proofs.Common.{ap, ◌∙◌}
use Rattle.std.specs.Prelude.{sum_by}
use Rattle.std.specs.FinMap as table
use Rattle.sheet_core.specs.Index.{filed_under, numbers_of}
use Rattle.sheet_core.specs.Sheet.{now_of}
use Rattle.sheet_core.proofs.FiledSums.{adds, sum-filed}
use Rattle.sheet_core.proofs.Indexes.{row-covered}
use Rattle.sheet_core.proofs.IndexKeys.{filed-by_hash}
use Rattle.sheet_core.specs.Indexed.{hashed}
use Rattle.sheet_core.proofs.indexed.IndexedSheet.sum_under.Goals as goal

pub returns : goal.returns
returns g c = λ f is under.
    let s = c.self.inside.sheet in
    let fs = c.self.inside.index.filings.keys in
    c.sum_rows.ensures.sum f is
    ∙ sum-filed f (now_of s) (numbers_of (filed_under c.hash_of-key.result fs)) c.sum_rows.ensures.rise
    (row-covered (hashed c.self.inside.seed g.R.Indexed.index_keys) g.R.Row.key_of s fs c.self.inside.index.touched.items c.self.invariant
    c.hash_of-key.result (adds f)
    (filed-by_hash c.self.inside.seed g.R.Indexed.index_keys _ c.hash_of-key.result (adds f) c.hash_of-key.ensures under))
    ∙ ap (λ s. sum_by f (table.values (now_of s))) c.self.view_is
