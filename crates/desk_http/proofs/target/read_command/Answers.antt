use Rattle.std.proofs.Common.{◌∙◌, sym}
use Rattle.desk_http.proofs.Documents.{name_is_text}
use Rattle.desk_http.proofs.target.read_command.Goals as goal

pub returns-in-Err : goal.returns-in-Err
returns-in-Err c =
    absurd
    (c.in-Err.ensures.cases.0 (name_is_text c.args.bytes.now (sym c.is_name.ensures ∙ c.if-not-is_name.false)))
