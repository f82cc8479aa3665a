use Rattle.std.proofs.Common.{rules}
use Rattle.build_core.proofs.commands.new_build.new_build.Goals as goal

pub returns-in-Some-clause-does : goal.returns-in-Some-clause-does
returns-in-Some-clause-does c =
    let told = c.new_build_refusal-refusal.ensures c.args.builds.now in search (rules, told)

pub put_build-made-requires : goal.put_build-made-requires
put_build-made-requires c =
    let told = c.new_build_refusal-refusal.ensures c.args.builds.now in search (rules, told)

pub returns-clause-does : goal.returns-clause-does
returns-clause-does c =
    let told = c.new_build_refusal-refusal.ensures c.args.builds.now in search (rules, told)
