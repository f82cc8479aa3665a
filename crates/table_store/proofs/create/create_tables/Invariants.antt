use Rattle.sqlite.specs.Held.{state}
use Rattle.sqlite.specs.State.{HasCleanDisk, Survives, KeepsCommit}
use Rattle.table_store.specs.Making.{HasMade}
use Rattle.table_store.proofs.create.create_tables.Given as goal

abbrev pub invariant-tables : goal.invariant-tables
invariant-tables g l =
    let old = state g.S.Store l.fn.conn in
    let now = state g.S.Store l.conn in
    Survives old now (λ _. ⊥) × (HasCleanDisk now → HasMade l.place now × KeepsCommit old now)
