use Rattle.std.proofs.Common.{ap, ◌∙◌}
use Rattle.std.specs.List.{list_any}
use Rattle.std.specs.FinMap as table
use Rattle.sheet_core.specs.Index.{filed_under, numbers_of}
use Rattle.sheet_core.specs.Sheet.{now_of}
use Rattle.sheet_core.proofs.FiledRows.{any-filed}
use Rattle.sheet_core.proofs.Indexes.{row-covered}
use Rattle.sheet_core.proofs.IndexKeys.{filed-by_hash}
use Rattle.sheet_core.specs.Indexed.{hashed}
use Rattle.sheet_core.proofs.indexed.IndexedSheet.any_under.Goals as goal

pub returns : goal.returns
returns g c = λ p is under.
    let s = c.self.inside.sheet in
    let fs = c.self.inside.index.filings.keys in
    c.any_row.ensures.any p is
    ∙ any-filed p (now_of s) (numbers_of (filed_under c.hash_of-key.result fs)) c.any_row.ensures.rise
    (row-covered (hashed c.self.inside.seed g.R.Indexed.index_keys) g.R.Row.key_of s fs c.self.inside.index.touched.items c.self.invariant
    c.hash_of-key.result p
    (filed-by_hash c.self.inside.seed g.R.Indexed.index_keys _ c.hash_of-key.result p c.hash_of-key.ensures under))
    ∙ ap (λ s. list_any p (table.values (now_of s))) c.self.view_is
