use Rattle.std.proofs.Common.{ap, codes, ◌≡◌, ◌∙◌}
use Rattle.std.proofs.lemmas.Result.{IfOk-weaker}
use Rattle.clap.specs.Words.{App, app_of, new_app, with_rule}
use Rattle.clap.specs.Simple.{app_of_fields}
use Rattle.desk_cli.specs.Words.{flag_rule, journal_rule, names_rule, with_place}
use Rattle.desk_cli.proofs.CommandLines.{rule_added}
use Rattle.desk_cli.proofs.words.run_command.Goals as goal

pub returns : goal.returns
returns c =
    let line_is : app_of c.after_help-command.result ≡ new_app (codes "run") =
    ap app_of_fields c.after_help-command.ensures ∙ ap app_of_fields c.about.ensures ∙ c.new.ensures.app in
    let one : App = with_place (new_app (codes "run")) in
    let named : App = with_rule one names_rule in
    let keyed : App = with_rule named journal_rule in
    let stopped : App = with_rule keyed (flag_rule (codes "stop")) in
    let checked : App = with_rule stopped (flag_rule (codes "check")) in
    let one_is = c.in_ok-with_place.ensures ∙ ap with_place line_is in
    let named_is =
    rule_added c.in_ok-with_place.field-0 c.names_flag.result c.in_ok-arg.field-0 one names_rule c.in_ok-arg.ensures
    c.names_flag.ensures.local one_is c.names_flag.ensures.rule in
    let keyed_is =
    rule_added c.in_ok-arg.field-0 c.journal_flag.result c.in_ok-arg-2.field-0 named journal_rule c.in_ok-arg-2.ensures
    c.journal_flag.ensures.local named_is c.journal_flag.ensures.rule in
    let stopped_is =
    rule_added c.in_ok-arg-2.field-0 c.flag.result c.in_ok-arg-3.field-0 keyed (flag_rule (codes "stop"))
    c.in_ok-arg-3.ensures c.flag.ensures.local keyed_is c.flag.ensures.rule in
    let checked_is =
    rule_added c.in_ok-arg-3.field-0 c.flag-2.result c.in_ok-arg-4.field-0 stopped (flag_rule (codes "check"))
    c.in_ok-arg-4.ensures c.flag-2.ensures.local stopped_is c.flag-2.ensures.rule in
    IfOk-weaker c.arg-5.result _ _
    (λ r added. rule_added c.in_ok-arg-4.field-0 c.explain_flag.result r checked (flag_rule (codes "explain")) added
    c.explain_flag.ensures.local checked_is c.explain_flag.ensures.rule)
    c.arg-5.ensures
