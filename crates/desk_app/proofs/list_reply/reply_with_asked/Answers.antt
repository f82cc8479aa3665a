use Rattle.std.proofs.Common.{◌≡◌, subst, sym}
use Rattle.std.specs.Prelude.{IfOk}
use Rattle.desk_core.specs.ShopView.{state_of}
use Rattle.desk_wire.specs.Steps.{Fails}
use Rattle.list_words.specs.Lists.{listing_by}
use Rattle.desk_http.specs.Services.{reply_view}
use Rattle.desk_app.specs.Services.{by_listed}
use Rattle.desk_app.proofs.ListReplies.{found, unfound}
use Rattle.desk_app.proofs.list_reply.reply_with_asked.Goals as goal

pub returns-in-Ok-clause-ok : goal.returns-in-Ok-clause-ok
returns-in-Ok-clause-ok c =
    subst (λ lines. IfOk c.reply_with_listing.result (λ reply. reply_view reply ≡ by_listed c.args.csv lines))
    (sym (found c.args.list (state_of c.args.shop.now) c.in-Ok.listing c.in-Ok.ensures))
    c.reply_with_listing.ensures.ok

pub returns-in-Err-Wrong-clause-ok : goal.returns-in-Err-Wrong-clause-ok
returns-in-Err-Wrong-clause-ok c =
    let s = state_of c.args.shop.now in
    let wrong = subst (λ e. Fails e (listing_by c.args.list s)) c.in-Err-Wrong.field-0-is c.in-Err-Wrong.ensures in
    subst (λ lines. IfOk c.no_row.result (λ reply. reply_view reply ≡ by_listed c.args.csv lines))
    (sym (unfound c.args.list s c.in-Err-Wrong.what wrong))
    c.no_row.ensures.ok
