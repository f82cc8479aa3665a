use Rattle.table_store.proofs.Shapes.{keyed_by_number}
use Rattle.table_store.proofs.shape.is_keyed.Goals as goal

pub returns-in-Kept : goal.returns-in-Kept
returns-in-Kept c = rw c.in-Kept.is c.is_worded.ensures

pub returns-in_default : goal.returns-in_default
returns-in_default c =
    let same = keyed_by_number c.args.name c.args.table.now c.in_default.not-Kept in
    (λ h. same.1 (c.is_numbered.ensures.0 h), λ h. c.is_numbered.ensures.1 (same.0 h))
