use Rattle.table_store.proofs.Shapes.{table_by_parts}
use Rattle.table_store.proofs.shape.is_table.Goals as goal

pub returns : goal.returns
returns c =
    let same = table_by_parts c.args.name c.args.table.now in
    (λ h. same.0 (c.has_parts.ensures.0 h), λ h. c.has_parts.ensures.1 (same.1 h))
