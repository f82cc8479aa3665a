use Rattle.desk_core.proofs.OneText.{one_text}
use Rattle.desk_core.proofs.texts.texts_tell.Goals as goal

pub returns : goal.returns
returns g c =
    let c = g.C.Formed in
    let laws = g.met.C.Formed in
    one_text c.forms_of c.verb_of c.fields_of c.command_of laws.fills laws.back laws.distinct
