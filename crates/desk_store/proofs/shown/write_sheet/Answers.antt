use Rattle.std.proofs.Common.{◌∙◌, ap, map, subst}
use Rattle.std.specs.Borrow.{Bor}
use Rattle.desk_core.specs.TextWriting.{Adds}
use Rattle.desk_store.specs.Shown.{rows_data}
use Rattle.desk_store.proofs.shown.write_sheet.Goals as goal

pub returns : goal.returns
returns g c =
    let told = ap (map (λ (row : Bor _). row.now)) c.as_slice.ensures.value ∙ c.in_ok-rows.ensures in
    subst (Adds c.write_lent.result c.args.out.now c.write_lent.new.out)
    (ap (λ rows. rows_data (map g.R.Stored.columns_of rows)) told) c.write_lent.ensures
