use Rattle.std.proofs.Common.{rules}
use Rattle.order_core.proofs.commands.issue_order.issue_order.Goals as goal

pub returns-in-Some-clause-does : goal.returns-in-Some-clause-does
returns-in-Some-clause-does c =
    let told = c.issue_order_refusal-refusal.ensures c.args.floor.now in search (rules, told)

pub set_state-made-requires-clause-there : goal.set_state-made-requires-clause-there
set_state-made-requires-clause-there c =
    let told = c.issue_order_refusal-refusal.ensures c.args.floor.now in search (rules, told)

pub set_state-made-requires-clause-own : goal.set_state-made-requires-clause-own
set_state-made-requires-clause-own c =
    let told = c.issue_order_refusal-refusal.ensures c.args.floor.now in search (rules, told)

pub returns-clause-does : goal.returns-clause-does
returns-clause-does c =
    let told = c.issue_order_refusal-refusal.ensures c.args.floor.now in search (rules, told)
