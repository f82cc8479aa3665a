use Rattle.std.proofs.Common.{refl}
use Rattle.invdesk.proofs.Asking.{unsent}
use Rattle.invdesk.proofs.at.ask_for_person.Goals as goal

pub returns : goal.returns
returns c =
    unsent c.args.question c.args.question c.args.body.now c.ask_and_print.result refl c.ask_and_print.ensures
