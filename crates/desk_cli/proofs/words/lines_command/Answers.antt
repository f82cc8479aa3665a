use Rattle.std.proofs.Common.{ap, codes, false, ◌≡◌, ◌∙◌}
use Rattle.std.proofs.lemmas.Result.{IfOk-weaker}
use Rattle.clap.specs.Words.{App, app_of, new_app, rule_of, with_rule}
use Rattle.clap.specs.Simple.{app_of_fields}
use Rattle.clap.specs.declared.builder.arg.Arg.{Arg}
use Rattle.desk_cli.specs.Words.{kind_rule, option_rule, repeated_rule, word_rule}
use Rattle.desk_cli.proofs.CommandLines.{rule_added}
use Rattle.desk_cli.proofs.words.lines_command.Goals as goal

pub returns : goal.returns
returns c =
    let kind = c.kind_option.ensures.rule in
    let line_is : app_of c.after_help.result ≡ new_app (codes "lines") =
    ap app_of_fields c.after_help.ensures ∙ ap app_of_fields c.about.ensures ∙ c.new.ensures.app in
    let document_is : rule_of c.help-document.result ≡ option_rule (codes "document") =
    ap rule_of c.help-document.ensures ∙ c.option.ensures.rule in
    let document_local : c.help-document.result.global ≡ false =
    ap (λ (a : Arg). a.global) c.help-document.ensures ∙ c.option.ensures.local in
    let day_is : rule_of c.help-day.result ≡ option_rule (codes "day") =
    ap rule_of c.help-day.ensures ∙ c.option-2.ensures.rule in
    let day_local : c.help-day.result.global ≡ false =
    ap (λ (a : Arg). a.global) c.help-day.ensures ∙ c.option-2.ensures.local in
    let path_is : rule_of c.help-path.result ≡ word_rule (codes "path") =
    ap rule_of c.help-path.ensures ∙ c.word.ensures.rule in
    let path_local : c.help-path.result.global ≡ false =
    ap (λ (a : Arg). a.global) c.help-path.ensures ∙ c.word.ensures.local in
    let one : App = with_rule (new_app (codes "lines")) (kind_rule kind.0) in
    let two : App = with_rule one (option_rule (codes "document")) in
    let three : App = with_rule two (option_rule (codes "day")) in
    let four : App = with_rule three (repeated_rule (codes "set")) in
    let five : App = with_rule four (repeated_rule (codes "column")) in
    let one_is =
    rule_added c.after_help.result c.kind_option.result c.in_ok-arg.field-0 (new_app (codes "lines")) (kind_rule kind.0)
    c.in_ok-arg.ensures c.kind_option.ensures.local line_is kind.1 in
    let two_is =
    rule_added c.in_ok-arg.field-0 c.help-document.result c.in_ok-arg-2.field-0 one (option_rule (codes "document"))
    c.in_ok-arg-2.ensures document_local one_is document_is in
    let three_is =
    rule_added c.in_ok-arg-2.field-0 c.help-day.result c.in_ok-arg-3.field-0 two (option_rule (codes "day"))
    c.in_ok-arg-3.ensures day_local two_is day_is in
    let four_is =
    rule_added c.in_ok-arg-3.field-0 c.set_option.result c.in_ok-arg-4.field-0 three (repeated_rule (codes "set"))
    c.in_ok-arg-4.ensures c.set_option.ensures.local three_is c.set_option.ensures.rule in
    let five_is =
    rule_added c.in_ok-arg-4.field-0 c.column_option.result c.in_ok-arg-5.field-0 four (repeated_rule (codes "column"))
    c.in_ok-arg-5.ensures c.column_option.ensures.local four_is c.column_option.ensures.rule in
    IfOk-weaker c.arg-6.result _ _ (λ r added. (
      kind.0,
      rule_added c.in_ok-arg-5.field-0 c.help-path.result r five (word_rule (codes "path")) added path_local
          five_is path_is,
    )) c.arg-6.ensures
