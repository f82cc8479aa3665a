use Rattle.std.proofs.Common.{◌≡◌, ◌∙◌, ◌⊎◌, ap, subst}
use Rattle.std.specs.Prelude.{IfOk}
use Rattle.desk_core.specs.Machine.{State, step}
use Rattle.desk_core.specs.declared.command.Request.{Request}
use Rattle.desk_http.specs.Services.{reply_view}
use Rattle.desk_store.specs.StateTables.{TablesAre}
use Rattle.desk_app.specs.Journal.{journalled}
use Rattle.desk_app.specs.Services.{by_outcome}
use Rattle.desk_app.proofs.service.reply_to_given.Goals as goal

pub returns-in-Ok-journalled-clause-ok : goal.returns-in-Ok-journalled-clause-ok
returns-in-Ok-journalled-clause-ok g c =
    let given =
    c.in-Ok-journalled.ensures
    ∙ ap (λ (s : State). journalled c.args.journal s c.args.request) c.in-Ok.ensures.shop in
    subst
    (λ (r : Request). IfOk c.reply_to_request.result
    (λ reply. (g.B.Books.state_in c.reply_to_request.new.books, reply_view reply)
    ≡ by_outcome (step (g.B.Books.state_in c.args.books.now) r)))
    given c.reply_to_request.ensures.ok

pub returns-in-Ok-journalled-clause-left : goal.returns-in-Ok-journalled-clause-left
returns-in-Ok-journalled-clause-left g c before trees there =
    let given =
    c.in-Ok-journalled.ensures
    ∙ ap (λ (s : State). journalled c.args.journal s c.args.request) c.in-Ok.ensures.shop in
    subst
    (λ (r : Request). TablesAre (g.B.Books.state_in c.reply_to_request.new.books) trees
    ⊎ TablesAre (step (g.B.Books.state_in c.reply_to_request.new.books) r).0 trees)
    given (c.reply_to_request.ensures.left before trees there)
