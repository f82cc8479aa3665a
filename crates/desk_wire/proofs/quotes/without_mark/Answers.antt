use Rattle.std.proofs.Common.{sym, ◌∙◌}
use Rattle.desk_wire.proofs.OpenQuotes.{mark-goes, no-mark-stays}
use Rattle.desk_wire.proofs.quotes.without_mark.Goals as goal

pub returns-then-starts_with : goal.returns-then-starts_with
returns-then-starts_with c =
    mark-goes c.args.bytes.now (sym c.starts_with.ensures.value ∙ c.if-starts_with.true)

pub returns-else-starts_with : goal.returns-else-starts_with
returns-else-starts_with c =
    no-mark-stays c.args.bytes.now (sym c.starts_with.ensures.value ∙ c.if-starts_with.false)
