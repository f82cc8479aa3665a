use Rattle.std.proofs.Common.{rules, ◌≡◌, ap, ◌∙◌, subst}
use Rattle.desk_core.specs.CommandText.{AreFit}
use Rattle.desk_core.specs.KeptColumns.{kept_columns, kept_from}
use Rattle.desk_core.proofs.KeptRows.{kept_read}
use Rattle.desk_core.proofs.kept.KeptStored.columns.Goals as goal

pub returns-clause-read : goal.returns-clause-read
returns-clause-read c =
    let columns : c.in_ok-vec.field-0.items ≡ kept_columns c.args.self.now = search rules in
    ap kept_from columns ∙ kept_read c.args.self.now c.as_str.ensures.fits c.are_fit.ensures.entries
    (subst AreFit c.as_slice.ensures c.are_fit.ensures.ids)
