use Rattle.std.proofs.Common.{ap, codes, false, ◌≡◌, ◌∙◌}
use Rattle.std.proofs.lemmas.Result.{IfOk-weaker}
use Rattle.clap.specs.Words.{App, app_of, new_app, rule_of, with_rule}
use Rattle.clap.specs.Simple.{app_of_fields}
use Rattle.clap.specs.declared.builder.arg.Arg.{Arg}
use Rattle.desk_cli.specs.Words.{option_rule, optional_rule}
use Rattle.desk_cli.proofs.CommandLines.{rule_added}
use Rattle.desk_cli.proofs.words.stop_command.Goals as goal

pub returns : goal.returns
returns c =
    let line_is : app_of c.after_help.result ≡ new_app (codes "stop") =
    ap app_of_fields c.after_help.ensures ∙ ap app_of_fields c.about.ensures ∙ c.new.ensures.app in
    let port_is : rule_of c.help-port.result ≡ option_rule (codes "at") =
    ap rule_of c.help-port.ensures ∙ c.option.ensures.rule in
    let port_local : c.help-port.result.global ≡ false =
    ap (λ (a : Arg). a.global) c.help-port.ensures ∙ c.option.ensures.local in
    let one : App = with_rule (new_app (codes "stop")) (option_rule (codes "at")) in
    let one_is =
    rule_added c.after_help.result c.help-port.result c.in_ok-arg.field-0 (new_app (codes "stop"))
    (option_rule (codes "at")) c.in_ok-arg.ensures port_local line_is port_is in
    IfOk-weaker c.arg-2.result _ _
    (λ r added. rule_added c.in_ok-arg.field-0 c.token_option.result r one (optional_rule (codes "token")) added
    c.token_option.ensures.local one_is c.token_option.ensures.rule)
    c.arg-2.ensures
