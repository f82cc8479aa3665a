use Rattle.std.specs.Prelude.{None}
use Rattle.invdesk.proofs.Printing.{prints_migrated}
use Rattle.invdesk.proofs.migrate.print_moved.Goals as goal

pub returns : goal.returns
returns c =
    let printed = c.print_migrated-end in (
      _,
      printed.result,
      prints_migrated None None printed.result printed.ensures.whole printed.ensures.front
          printed.ensures.only,
      c.end_of_print.ensures,
    )
