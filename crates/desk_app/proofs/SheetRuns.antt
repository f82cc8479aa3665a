-- How the import of a sheet ends where no line is run.
use Rattle.std.proofs.Common.{◌≡◌, ℕ, List, Bool, true, false, refl, inl}
use Rattle.std.specs.Prelude.{Option, Result, Ok, Err}
use Rattle.std.specs.Io.KnownBytes.{Keeps}
use Rattle.sqlite.specs.Tree.{Trees}
use Rattle.desk_core.specs.Machine.{State}
use Rattle.desk_wire.specs.Writing.{fault_text}
use Rattle.desk_wire.specs.declared.fault.WireFault.{WireFault}
use Rattle.desk_core.specs.declared.end.RunEnd.{RunEnd}
use Rattle.desk_core.specs.declared.end.RunEnd.TheVariants.{Done, ReadFailed, WriteFailed, Memory, Store}
use Rattle.desk_app.specs.Checked.{TellsFaults}
use Rattle.desk_app.specs.SheetRuns.{PrintsText, RunsSheet, Unmade}

-- a fault that was printed is told
pub fault_told : (fault : List ℕ) (w w' : Option (List ℕ)) (end : RunEnd) → PrintsText false fault w w' end
    → TellsFaults fault w w' end
fault_told fault w w' (Done all) h = h
fault_told fault w w' ReadFailed h = h
fault_told fault w w' WriteFailed h = h
fault_told fault w w' Memory h = h
fault_told fault w w' Store h = absurd h

-- memory ran out for the text
pub unmade : {F : Type 0} (stop : Bool) (reading : Result (List ℕ) WireFault) (w w' : Option (List ℕ)) (f : Option F)
    (leaves : Trees → Type 0) (s : State) → Keeps w w'
    → RunsSheet stop reading w w' f f leaves s s Memory
unmade stop (Ok text) w w' f leaves s k = inl (record { why = refl; same = refl; still = refl; untold = k })
unmade stop (Err fault) w w' f leaves s k = (refl, refl, k)
