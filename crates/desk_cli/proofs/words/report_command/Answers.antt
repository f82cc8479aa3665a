use Rattle.std.proofs.Common.{ap, codes, false, ◌≡◌, ◌∙◌}
use Rattle.std.proofs.lemmas.Result.{IfOk-weaker}
use Rattle.clap.specs.Words.{App, app_of, new_app, rule_of, with_rule}
use Rattle.clap.specs.Simple.{app_of_fields}
use Rattle.clap.specs.declared.builder.arg.Arg.{Arg}
use Rattle.desk_cli.specs.Words.{flag_rule, names_rule, report_rule, with_place, word_rule}
use Rattle.desk_cli.proofs.CommandLines.{rule_added}
use Rattle.desk_cli.proofs.words.report_command.Goals as goal

pub returns : goal.returns
returns c =
    let name = c.report_word.ensures.rule in
    let line_is : app_of c.after_help-command.result ≡ new_app (codes "report") =
    ap app_of_fields c.after_help-command.ensures ∙ ap app_of_fields c.about.ensures ∙ c.new.ensures.app in
    let number_is : rule_of c.help-number.result ≡ word_rule (codes "number") =
    ap rule_of c.help-number.ensures ∙ c.word.ensures.rule in
    let number_local : c.help-number.result.global ≡ false =
    ap (λ (a : Arg). a.global) c.help-number.ensures ∙ c.word.ensures.local in
    let one : App = with_place (new_app (codes "report")) in
    let two : App = with_rule one names_rule in
    let three : App = with_rule two (flag_rule (codes "csv")) in
    let four : App = with_rule three (report_rule name.0) in
    let one_is = c.in_ok-with_place.ensures ∙ ap with_place line_is in
    let two_is =
    rule_added c.in_ok-with_place.field-0 c.names_flag.result c.in_ok-arg.field-0 one names_rule c.in_ok-arg.ensures
    c.names_flag.ensures.local one_is c.names_flag.ensures.rule in
    let three_is =
    rule_added c.in_ok-arg.field-0 c.flag.result c.in_ok-arg-2.field-0 two (flag_rule (codes "csv"))
    c.in_ok-arg-2.ensures c.flag.ensures.local two_is c.flag.ensures.rule in
    let four_is =
    rule_added c.in_ok-arg-2.field-0 c.report_word.result c.in_ok-arg-3.field-0 three (report_rule name.0)
    c.in_ok-arg-3.ensures c.report_word.ensures.local three_is name.1 in
    IfOk-weaker c.arg-4.result _ _ (λ r added. (
      name.0,
      rule_added c.in_ok-arg-3.field-0 c.help-number.result r four (word_rule (codes "number")) added number_local
          four_is number_is,
    )) c.arg-4.ensures
