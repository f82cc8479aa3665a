use Rattle.desk_wire.proofs.Filled.{lines_are}
use Rattle.desk_wire.proofs.read.lines_are_commands.Goals as goal

pub returns : goal.returns
returns g c =
    let c = g.C.Formed in
    lines_are c.forms_of c.verb_of c.fields_of c.command_of g.met.C.Formed.made
