-- A desk that is made anew.
use Rattle.std.proofs.Common.{◌≡◌, refl, subst, sym}
use Rattle.desk_store.specs.Migrating.{WhyNotMigrated}
use Rattle.desk_store.specs.Opening.{MayBeMade, WhyNot}
use Rattle.desk_store.specs.declared.fault.OpenFault.{OpenFault}
use Rattle.desk_store.specs.declared.fault.OpenFault.TheVariants.{Memory, Store, Foreign, Old, Damaged}
use Rattle.sqlite.specs.State.{State}
use Rattle.sqlite.specs.Tree.{Trees}
use Rattle.table_store.specs.Schema.{IsOwn}
use Rattle.word_core.specs.declared.limits.Limits.{Limits}
use Rattle.desk_core.specs.Machine.{start}
use Rattle.desk_core.specs.Empty.{AreLargest}
use Rattle.desk_cli.specs.FileFaults.{MayBeNew, TellsUnmoved, TellsWhy, file_fault_of}
use Rattle.desk_cli.specs.declared.database.FileFault.{FileFault}

new_as : (limits : Limits) → AreLargest limits → (trees : Trees) (fault : OpenFault) → MayBeMade limits trees fault
    → MayBeNew trees (file_fault_of fault)
new_as limits large trees Memory made = absurd made
new_as limits large trees (Store failed) made =
    (start limits, record { limits = limits; largest = large; state = refl }, made)
new_as limits large trees Foreign made = absurd made
new_as limits large trees Old made = absurd made
new_as limits large trees (Damaged told) made = absurd made

-- what a crash leaves where the making failed
pub may_be_new : (limits : Limits) → AreLargest limits → (trees : Trees) (fault : OpenFault) (told : FileFault)
    → told ≡ file_fault_of fault → MayBeMade limits trees fault
    → MayBeNew trees told
may_be_new limits large trees fault told is made =
    subst (MayBeNew trees) (sym is) (new_as limits large trees fault made)

-- ---- why there is no desk in tables of either version

why_as : (d : State) (fault : OpenFault) → IsOwn d.now.schema → WhyNot d.committed.trees fault
    → TellsWhy d (file_fault_of fault)
why_as d Memory own why = tt
why_as d (Store failed) own why = (own, why)
why_as d Foreign own why = (own, why)
why_as d Old own why = (own, why)
why_as d (Damaged told) own why = (own, why)

pub tells_why : (d : State) (fault : OpenFault) (told : FileFault) → told ≡ file_fault_of fault → IsOwn d.now.schema
    → WhyNot d.committed.trees fault → TellsWhy d told
tells_why d fault told is own why = subst (TellsWhy d) (sym is) (why_as d fault own why)

unmoved_as : (d : State) (fault : OpenFault) → IsOwn d.now.schema → WhyNotMigrated d.committed.trees fault
    → TellsUnmoved d (file_fault_of fault)
unmoved_as d Memory own why = tt
unmoved_as d (Store failed) own why = (own, why)
unmoved_as d Foreign own why = (own, why)
unmoved_as d Old own why = why
unmoved_as d (Damaged told) own why = (own, why)

pub tells_unmoved : (d : State) (fault : OpenFault) (told : FileFault) → told ≡ file_fault_of fault
    → IsOwn d.now.schema → WhyNotMigrated d.committed.trees fault → TellsUnmoved d told
tells_unmoved d fault told is own why = subst (TellsUnmoved d) (sym is) (unmoved_as d fault own why)
