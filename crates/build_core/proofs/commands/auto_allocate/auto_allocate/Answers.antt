use Rattle.std.proofs.Common.{rules}
use Rattle.build_core.proofs.commands.auto_allocate.auto_allocate.Goals as goal

pub returns-in-Some-clause-does : goal.returns-in-Some-clause-does
returns-in-Some-clause-does c =
    let told = c.auto_allocate_refusal-refusal.ensures c.args.floor.now in search (rules, told)

pub serve_build-moved-requires-clause-there : goal.serve_build-moved-requires-clause-there
serve_build-moved-requires-clause-there c =
    let told = c.auto_allocate_refusal-refusal.ensures c.args.floor.now in search (rules, told)

pub returns-clause-does : goal.returns-clause-does
returns-clause-does c =
    let told = c.auto_allocate_refusal-refusal.ensures c.args.floor.now in search (rules, told)
