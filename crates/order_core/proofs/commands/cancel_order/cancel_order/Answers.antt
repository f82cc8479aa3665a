use Rattle.std.proofs.Common.{rules}
use Rattle.order_core.proofs.commands.cancel_order.cancel_order.Goals as goal

pub returns-in-Some-clause-does : goal.returns-in-Some-clause-does
returns-in-Some-clause-does c =
    let told = c.cancel_order_refusal-refusal.ensures c.args.floor.now in search (rules, told)

pub cancel-made-requires-clause-there : goal.cancel-made-requires-clause-there
cancel-made-requires-clause-there c =
    let told = c.cancel_order_refusal-refusal.ensures c.args.floor.now in search (rules, told)

pub returns-clause-does : goal.returns-clause-does
returns-clause-does c =
    let told = c.cancel_order_refusal-refusal.ensures c.args.floor.now in search (rules, told)
