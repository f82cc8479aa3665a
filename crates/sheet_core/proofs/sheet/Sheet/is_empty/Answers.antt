use Rattle.std.proofs.Common.{sym, ap, ◌∙◌}
use Rattle.std.specs.FinMap as table
use Rattle.std.proofs.lemmas.Bool.{eqb-true, eq-eqb}
use Rattle.sheet_core.specs.Sheet.{key_cmp, now_of}
use Rattle.sheet_core.specs.Slots.{now_row, slots_of, table_by}
use Rattle.sheet_core.proofs.sheet.Sheet.is_empty.Goals as goal

pub returns : goal.returns
returns g c =
    let rows = table_by now_row (slots_of g.R.Key.RowKey.digits c.self.inside.slots.entries) in
    let view = ap now_of c.self.view_is in
    record {
      empty = (
        λ t. sym view ∙ table.empty_of_len rows (sym c.self.invariant.len ∙ eqb-true c.self.inside.len 0 t),
        λ e. eq-eqb c.self.inside.len 0
            (c.self.invariant.len ∙ ap table.len (view ∙ e) ∙ table.len-empty key_cmp g.row.R.Denot),
      );
    }
