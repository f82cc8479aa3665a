use Rattle.build_core.proofs.BesideBills.{sound-beside_bills}
use Rattle.build_core.proofs.BillsStay.{open-bills-stay}
use Rattle.build_core.proofs.laws.sound_beside_bills.Goals as goal

pub returns : goal.returns
returns c = record { bills = open-bills-stay; builds = sound-beside_bills }
