use Rattle.std.proofs.Common.{◌≡◌, ℕ, ◌<◌, get_or}
use Rattle.desk_store.specs.declared.meta.MetaRow.{MetaRow}
use Rattle.desk_store.proofs.old.are_old.Given as goal

-- the rows so far are of version 1
abbrev pub invariant-loop-row : goal.invariant-loop-row
invariant-loop-row l = (k : ℕ) (d : MetaRow) → k < l.row-index → (get_or l.rows k d).version ≡ 1
