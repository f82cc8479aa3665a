use Rattle.std.proofs.Common.{Bool, subst, sym}
use Rattle.invdesk.specs.Works.{AnswersBy}
use Rattle.invdesk.proofs.lines.answer_on.Goals as goal

pub returns-then-how-clause-answers : goal.returns-then-how-clause-answers
returns-then-how-clause-answers g c = (
  c.options_of-options.result,
  c.options_of-options.ensures,
  subst
      (λ (check : Bool). AnswersBy g.S.Store c.options_of-options.result check c.args.desk c.check_on.result.0
      c.check_on.result.1)
      (sym c.if-how.true) c.check_on.ensures.checks,
)

pub returns-clause-answers : goal.returns-clause-answers
returns-clause-answers g c = (
  c.options_of-options.result,
  c.options_of-options.ensures,
  subst
      (λ (check : Bool). AnswersBy g.S.Store c.options_of-options.result check c.args.desk c.run_on.result.0
      c.run_on.result.1)
      (sym c.if-how.false) c.run_on.ensures.runs,
)
