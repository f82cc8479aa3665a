use Rattle.invdesk.specs.Asks.{question_of}
use Rattle.invdesk.proofs.Asking.{unread, unsent}
use Rattle.invdesk.proofs.at.ask_once.Goals as goal

pub returns-in_err-body : goal.returns-in_err-body
returns-in_err-body g c =
    unread (question_of c.args.asked) c.from_residual.result c.in_err-body.field-0.0 c.in_err-body.ensures
    c.from_residual.ensures.1

pub returns : goal.returns
returns g c =
    unsent (question_of c.args.asked) c.question_of-question.result c.as_slice-bytes.result.now c.ask_and_print.result
    c.question_of-question.ensures c.ask_and_print.ensures
