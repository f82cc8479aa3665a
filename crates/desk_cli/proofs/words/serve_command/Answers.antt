use Rattle.std.proofs.Common.{ap, codes, false, ◌≡◌, ◌∙◌}
use Rattle.std.proofs.lemmas.Result.{IfOk-weaker}
use Rattle.clap.specs.Words.{App, app_of, new_app, rule_of, with_rule}
use Rattle.clap.specs.Simple.{app_of_fields}
use Rattle.clap.specs.declared.builder.arg.Arg.{Arg}
use Rattle.desk_cli.specs.Words.{file_rule, flag_rule, journal_rule, names_rule, option_rule, optional_rule}
use Rattle.desk_cli.proofs.CommandLines.{rule_added}
use Rattle.desk_cli.proofs.words.serve_command.Goals as goal

pub returns : goal.returns
returns c =
    let line_is : app_of c.after_help.result ≡ new_app (codes "serve") =
    ap app_of_fields c.after_help.ensures ∙ ap app_of_fields c.about.ensures ∙ c.new.ensures.app in
    let port_is : rule_of c.help-port.result ≡ option_rule (codes "port") =
    ap rule_of c.help-port.ensures ∙ c.option.ensures.rule in
    let port_local : c.help-port.result.global ≡ false =
    ap (λ (a : Arg). a.global) c.help-port.ensures ∙ c.option.ensures.local in
    let count_is : rule_of c.help-count.result ≡ optional_rule (codes "count") =
    ap rule_of c.help-count.ensures ∙ c.optional.ensures.rule in
    let count_local : c.help-count.result.global ≡ false =
    ap (λ (a : Arg). a.global) c.help-count.ensures ∙ c.optional.ensures.local in
    let token_is : rule_of c.help-token.result ≡ optional_rule (codes "token") =
    ap rule_of c.help-token.ensures ∙ c.optional-2.ensures.rule in
    let token_local : c.help-token.result.global ≡ false =
    ap (λ (a : Arg). a.global) c.help-token.ensures ∙ c.optional-2.ensures.local in
    let one : App = with_rule (new_app (codes "serve")) file_rule in
    let named : App = with_rule one names_rule in
    let keyed : App = with_rule named journal_rule in
    let paged : App = with_rule keyed (flag_rule (codes "page")) in
    let two : App = with_rule paged (option_rule (codes "port")) in
    let three : App = with_rule two (optional_rule (codes "count")) in
    let one_is =
    rule_added c.after_help.result c.file.result c.in_ok-arg.field-0 (new_app (codes "serve")) file_rule
    c.in_ok-arg.ensures c.file.ensures.local line_is c.file.ensures.rule in
    let named_is =
    rule_added c.in_ok-arg.field-0 c.names_flag.result c.in_ok-arg-2.field-0 one names_rule c.in_ok-arg-2.ensures
    c.names_flag.ensures.local one_is c.names_flag.ensures.rule in
    let keyed_is =
    rule_added c.in_ok-arg-2.field-0 c.journal_flag.result c.in_ok-arg-3.field-0 named journal_rule c.in_ok-arg-3.ensures
    c.journal_flag.ensures.local named_is c.journal_flag.ensures.rule in
    let paged_is =
    rule_added c.in_ok-arg-3.field-0 c.flag.result c.in_ok-arg-4.field-0 keyed (flag_rule (codes "page"))
    c.in_ok-arg-4.ensures c.flag.ensures.local keyed_is c.flag.ensures.rule in
    let two_is =
    rule_added c.in_ok-arg-4.field-0 c.help-port.result c.in_ok-arg-5.field-0 paged (option_rule (codes "port"))
    c.in_ok-arg-5.ensures port_local paged_is port_is in
    let three_is =
    rule_added c.in_ok-arg-5.field-0 c.help-count.result c.in_ok-arg-6.field-0 two (optional_rule (codes "count"))
    c.in_ok-arg-6.ensures count_local two_is count_is in
    IfOk-weaker c.arg-7.result _ _
    (λ r added. rule_added c.in_ok-arg-6.field-0 c.help-token.result r three (optional_rule (codes "token")) added
    token_local three_is token_is)
    c.arg-7.ensures
