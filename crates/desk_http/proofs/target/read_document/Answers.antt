use Rattle.std.proofs.Common.{◌∙◌, sym}
use Rattle.desk_http.proofs.Documents.{is_text}
use Rattle.desk_http.proofs.target.read_document.Goals as goal

pub returns-in-Err-clause-value : goal.returns-in-Err-clause-value
returns-in-Err-clause-value c =
    absurd
    (c.in-Err.ensures.cases.0 (is_text c.args.bytes.now (sym c.is_document.ensures ∙ c.if-not-is_document.false)))
