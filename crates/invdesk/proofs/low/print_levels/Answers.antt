use Rattle.std.proofs.Common.{ap, subst, sym, ◌∙◌}
use Rattle.std.specs.Prelude.{Ok}
use Rattle.desk_core.specs.ShopView.{state_of}
use Rattle.desk_cli.specs.LowLevels.{levels_in}
use Rattle.desk_cli.specs.LowLists.{TellsNoLevels}
use Rattle.invdesk.proofs.Printing.{Keeps-refl, low_failed, low_found, prints_text}
use Rattle.invdesk.proofs.low.print_levels.Goals as goal

pub returns-in-Ok : goal.returns-in-Ok
returns-in-Ok g c =
    let s = state_of c.args.desk.now.shop in
    low_found c.args.layout (levels_in c.args.bytes.now s) c.as_slice.result.now s _ _
    c.print_list.result (c.in-Ok.ensures ∙ ap Ok (sym c.as_slice.ensures.value))
    (prints_text _ _ _ c.print_list.result c.print_list.ensures.whole c.print_list.ensures.front
    c.print_list.ensures.nothing c.print_list.ensures.never)

pub returns-in-Err-Wrong : goal.returns-in-Err-Wrong
returns-in-Err-Wrong g c =
    let s = state_of c.args.desk.now.shop in
    let reading = levels_in c.args.bytes.now s in
    low_failed c.args.layout reading c.in-Err-Wrong.error s _ _ c.print_file_fault.result
    (subst (TellsNoLevels c.args.desk.now.failed reading) c.in-Err-Wrong.field-0-is c.in-Err-Wrong.ensures)
    (rw c.in-Err-Wrong.field-0-is at c.print_file_fault.ensures)

pub returns-in-Err-Closed : goal.returns-in-Err-Closed
returns-in-Err-Closed g c = Keeps-refl _
