use Rattle.std.proofs.Common.{Bool, subst, sym}
use Rattle.invdesk.specs.Memory.{AnswersBy}
use Rattle.invdesk.proofs.Ending.{runs_in_memory}
use Rattle.invdesk.proofs.lines.answer_in_memory.Goals as goal

pub returns-then-how : goal.returns-then-how
returns-then-how c = (
  c.options_of-options.result,
  c.options_of-options.ensures,
  subst (λ (check : Bool). AnswersBy c.options_of-options.result check c.check_in_memory.result)
      (sym c.if-how.true) c.check_in_memory.ensures,
)

pub returns : goal.returns
returns c = (
  c.options_of-options.result,
  c.options_of-options.ensures,
  subst (λ (check : Bool). AnswersBy c.options_of-options.result check c.run_in_memory.result)
      (sym c.if-how.false)
      (runs_in_memory c.options_of-options.result c.run_in_memory.result c.run_in_memory.ensures.done
      c.run_in_memory.ensures.stopped c.run_in_memory.ensures.never),
)
