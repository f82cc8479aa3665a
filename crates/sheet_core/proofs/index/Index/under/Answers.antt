use Rattle.std.proofs.Common.{ap, ◌∙◌}
use Rattle.std.specs.Prelude.{filter}
use Rattle.std.specs.BTreeMap.Range.{range_contains}
use Rattle.std.specs.Range.{range_inclusive_end}
use Rattle.std.specs.declared.ops.Bound.TheVariants.{Included}
use Rattle.sheet_core.proofs.Filings.{between-under, filing_cmp, rise-under}
use Rattle.sheet_core.proofs.index.Index.under.Goals as goal

pub returns-clause-filed : goal.returns-clause-filed
returns-clause-filed c =
    let fs = c.args.self.now.filings.keys in
    c.range.ensures.between c.new.ensures.exhausted
    ∙ ap (λ first. filter (range_contains filing_cmp (Included first) (Included (range_inclusive_end c.new.result))) fs)
    c.new.ensures.start
    ∙ ap
    (λ last. filter (range_contains filing_cmp (Included (record { key = c.args.key; number = 0 })) (Included last)) fs)
    c.new.ensures.end
    ∙ between-under c.args.key fs

pub returns-clause-rise : goal.returns-clause-rise
returns-clause-rise c = rise-under c.args.key c.args.self.now.filings.keys c.range.ensures.ordered
