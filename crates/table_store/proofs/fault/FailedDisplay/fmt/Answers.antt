use Rattle.std.proofs.Common.{List, ℕ, ◌++◌, codes, subst, sym}
use Rattle.std.specs.Fmt.{DisplaysOnOk, HasWritten}
use Rattle.table_store.specs.Faults.{cause_text}
use Rattle.table_store.specs.declared.fault.Cause.{Cause}
use Rattle.table_store.proofs.fault.FailedDisplay.fmt.Goals as goal

pub returns-in-NoTable-clause-writes : goal.returns-in-NoTable-clause-writes
returns-in-NoTable-clause-writes g c =
    subst (λ (cause : Cause). DisplaysOnOk g.W.Write.write_str_gives c.args.f.now c.write-in-NoTable.result
    (cause_text cause) c.write-in-NoTable.new.self)
    (sym c.in-NoTable.is)
    (λ plain ok.
    subst (λ (name : List ℕ). HasWritten g.W.Write.write_str_gives c.args.f.now
    (codes "the table " ++ (name ++ codes " is not as it should be")) c.write-in-NoTable.new.self)
    c.name.ensures
    (c.write-in-NoTable.ensures.writes plain ok))
