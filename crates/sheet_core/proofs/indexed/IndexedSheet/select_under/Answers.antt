use Rattle.std.proofs.Common.{ap, ◌∙◌}
use Rattle.std.specs.Prelude.{filter}
use Rattle.std.specs.FinMap as table
use Rattle.std.proofs.lemmas.Result.{IfOk-weaker}
use Rattle.sheet_core.specs.Index.{filed_under, numbers_of}
use Rattle.sheet_core.specs.Sheet.{now_of}
use Rattle.sheet_core.proofs.FiledRows.{selected-filed}
use Rattle.sheet_core.proofs.Indexes.{row-covered}
use Rattle.sheet_core.proofs.IndexKeys.{filed-by_hash}
use Rattle.sheet_core.specs.Indexed.{hashed}
use Rattle.sheet_core.proofs.indexed.IndexedSheet.select_under.Goals as goal

pub returns : goal.returns
returns g c =
    let s = c.self.inside.sheet in
    let fs = c.self.inside.index.filings.keys in
    IfOk-weaker c.find_rows.result _ _ (λ rows found p is under.
    found p is
    ∙ selected-filed p (now_of s) (numbers_of (filed_under c.hash_of-key.result fs)) c.find_rows.ensures.rise
    (row-covered (hashed c.self.inside.seed g.R.Indexed.index_keys) g.R.Row.key_of s fs c.self.inside.index.touched.items c.self.invariant
    c.hash_of-key.result p
    (filed-by_hash c.self.inside.seed g.R.Indexed.index_keys _ c.hash_of-key.result p c.hash_of-key.ensures under))
    ∙ ap (λ s. filter p (table.values (now_of s))) c.self.view_is) c.find_rows.ensures.found
