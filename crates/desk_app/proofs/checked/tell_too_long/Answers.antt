use Rattle.std.proofs.Common.{◌∙◌, subst}
use Rattle.desk_app.specs.Checked.{TellsFaults}
use Rattle.desk_app.proofs.checked.tell_too_long.Goals as goal

pub returns-in-Ok-fault_text-clause-told : goal.returns-in-Ok-fault_text-clause-told
returns-in-Ok-fault_text-clause-told g c =
    subst
    (λ text. TellsFaults text (g.W.Write.contents c.args.writer.now) (g.W.Write.contents c.tell_faults.new.writer)
    c.tell_faults.result)
    (c.as_bytes.ensures.value ∙ c.in-Ok-fault_text.ensures) c.tell_faults.ensures.told
