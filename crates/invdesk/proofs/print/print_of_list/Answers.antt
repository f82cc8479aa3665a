use Rattle.std.proofs.Common.{subst, sym}
use Rattle.desk_core.specs.ShopView.{state_of}
use Rattle.list_words.specs.Lists.{listing_by}
use Rattle.desk_cli.specs.Subjects.{TellsNoRow}
use Rattle.invdesk.specs.Prints.{PrintsList}
use Rattle.invdesk.proofs.Printing.{list_closed, list_found, list_no_memory, list_unfound, prints_text}
use Rattle.invdesk.proofs.print.print_of_list.Goals as goal

pub returns-after-says_item_too : goal.returns-after-says_item_too
returns-after-says_item_too g c =
    list_found c.args.layout _ c.in-Ok.listing (state_of c.args.desk.now.shop) _ _ c.print_list.result c.in-Ok.ensures
    (prints_text _ _ _ c.print_list.result c.print_list.ensures.whole c.print_list.ensures.front
    c.print_list.ensures.nothing c.print_list.ensures.never)

pub returns-in-Err-Wrong : goal.returns-in-Err-Wrong
returns-in-Err-Wrong g c =
    let s = state_of c.args.desk.now.shop in
    let asked = listing_by c.args.list s in
    subst (PrintsList c.args.layout asked s _ _) (sym c.tell_no_row.ensures)
    (list_unfound c.args.layout asked c.in-Err-Wrong.what s _
    (subst (TellsNoRow c.args.desk.now.failed asked) c.in-Err-Wrong.field-0-is c.in-Err-Wrong.ensures))

pub returns-in-Err-Memory : goal.returns-in-Err-Memory
returns-in-Err-Memory g c =
    list_no_memory c.args.layout (listing_by c.args.list (state_of c.args.desk.now.shop))
    (state_of c.args.desk.now.shop) _

pub returns-in-Err-Closed : goal.returns-in-Err-Closed
returns-in-Err-Closed g c =
    list_closed c.args.layout (listing_by c.args.list (state_of c.args.desk.now.shop))
    (state_of c.args.desk.now.shop) _
