use Rattle.std.proofs.Common.{◌∙◌, ap, length, min, take, filter, nat_le}
use Rattle.desk_store.proofs.Showing.{entries_told}
use Rattle.desk_store.proofs.shown.entries_from.Goals as goal

pub returns : goal.returns
returns c =
    let entries = c.as_slice-entries.result.now in
    let begin = c.min-before.ensures ∙ ap (λ n. min n (length entries)) c.saturating_sub.ensures in
    entries_told c.args.from entries c.min-before.result c.min.result 1000 c.as_slice-entries.ensures.numbered begin
    c.min.ensures
    ∙ ap (λ es. take 1000 (filter (λ e. nat_le c.args.from e.number) es)) c.as_slice-entries.ensures.rows
