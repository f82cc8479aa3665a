use Rattle.std.proofs.Common.{◌∙◌, sym}
use Rattle.desk_http.proofs.Documents.{list_name_is_text}
use Rattle.desk_http.proofs.asked.read_list_name.Goals as goal

pub returns-in-Err : goal.returns-in-Err
returns-in-Err c =
    absurd
    (c.in-Err.ensures.cases.0
    (list_name_is_text c.args.bytes.now (sym c.is_list_name.ensures ∙ c.if-not-is_list_name.false)))
