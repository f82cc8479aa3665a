use Rattle.std.proofs.Common.{codes, refl}
use Rattle.std.proofs.lemmas.Result.{IfOk-weaker}
use Rattle.clap.specs.Words.{App, app_of, with_rule}
use Rattle.desk_cli.specs.Words.{file_rule, optional_rule}
use Rattle.desk_cli.proofs.CommandLines.{rule_added}
use Rattle.desk_cli.proofs.words.with_place.Goals as goal

pub returns : goal.returns
returns c =
    let app : App = app_of c.args.command in
    let one : App = with_rule app file_rule in
    let two : App = with_rule one (optional_rule (codes "at")) in
    let one_is =
    rule_added c.args.command c.file.result c.in_ok-arg.field-0 app file_rule c.in_ok-arg.ensures c.file.ensures.local
    refl c.file.ensures.rule in
    let two_is =
    rule_added c.in_ok-arg.field-0 c.at_option.result c.in_ok-arg-2.field-0 one (optional_rule (codes "at"))
    c.in_ok-arg-2.ensures c.at_option.ensures.local one_is c.at_option.ensures.rule in
    IfOk-weaker c.arg-3.result _ _
    (λ r added. rule_added c.in_ok-arg-2.field-0 c.token_option.result r two (optional_rule (codes "token")) added
    c.token_option.ensures.local two_is c.token_option.ensures.rule)
    c.arg-3.ensures
