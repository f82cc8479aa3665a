use Rattle.std.proofs.Common.{ap, codes, false, ◌≡◌, ◌∙◌}
use Rattle.std.proofs.lemmas.Result.{IfOk-weaker}
use Rattle.clap.specs.Words.{App, app_of, new_app, rule_of, with_rule}
use Rattle.clap.specs.Simple.{app_of_fields}
use Rattle.clap.specs.declared.builder.arg.Arg.{Arg}
use Rattle.desk_cli.specs.Words.{flag_rule, kind_rule, names_rule, option_rule, repeated_rule, word_rule, with_place}
use Rattle.desk_cli.proofs.CommandLines.{rule_added}
use Rattle.desk_cli.proofs.words.import_command.Goals as goal

pub returns : goal.returns
returns c =
    let kind = c.kind_option.ensures.rule in
    let line_is : app_of c.after_help-command.result ≡ new_app (codes "import") =
    ap app_of_fields c.after_help-command.ensures ∙ ap app_of_fields c.about.ensures ∙ c.new.ensures.app in
    let document_is : rule_of c.help-document.result ≡ option_rule (codes "document") =
    ap rule_of c.help-document.ensures ∙ c.option.ensures.rule in
    let document_local : c.help-document.result.global ≡ false =
    ap (λ (a : Arg). a.global) c.help-document.ensures ∙ c.option.ensures.local in
    let day_is : rule_of c.help-day.result ≡ option_rule (codes "day") =
    ap rule_of c.help-day.ensures ∙ c.option-2.ensures.rule in
    let day_local : c.help-day.result.global ≡ false =
    ap (λ (a : Arg). a.global) c.help-day.ensures ∙ c.option-2.ensures.local in
    let path_is : rule_of c.help-path.result ≡ word_rule (codes "path") =
    ap rule_of c.help-path.ensures ∙ c.word.ensures.rule in
    let path_local : c.help-path.result.global ≡ false =
    ap (λ (a : Arg). a.global) c.help-path.ensures ∙ c.word.ensures.local in
    let one : App = with_place (new_app (codes "import")) in
    let named : App = with_rule one names_rule in
    let loose : App = with_rule named (flag_rule (codes "loose")) in
    let unchanged : App = with_rule loose (flag_rule (codes "unchanged")) in
    let explained : App = with_rule unchanged (flag_rule (codes "explain")) in
    let two : App = with_rule explained (kind_rule kind.0) in
    let three : App = with_rule two (option_rule (codes "document")) in
    let four : App = with_rule three (option_rule (codes "day")) in
    let five : App = with_rule four (repeated_rule (codes "set")) in
    let six : App = with_rule five (repeated_rule (codes "column")) in
    let seven : App = with_rule six (flag_rule (codes "stop")) in
    let one_is = c.in_ok-with_place.ensures ∙ ap with_place line_is in
    let named_is =
    rule_added c.in_ok-with_place.field-0 c.names_flag.result c.in_ok-arg.field-0 one names_rule c.in_ok-arg.ensures
    c.names_flag.ensures.local one_is c.names_flag.ensures.rule in
    let loose_is =
    rule_added c.in_ok-arg.field-0 c.flag.result c.in_ok-arg-2.field-0 named (flag_rule (codes "loose"))
    c.in_ok-arg-2.ensures c.flag.ensures.local named_is c.flag.ensures.rule in
    let unchanged_is =
    rule_added c.in_ok-arg-2.field-0 c.flag-2.result c.in_ok-arg-3.field-0 loose (flag_rule (codes "unchanged"))
    c.in_ok-arg-3.ensures c.flag-2.ensures.local loose_is c.flag-2.ensures.rule in
    let explained_is =
    rule_added c.in_ok-arg-3.field-0 c.explain_flag.result c.in_ok-arg-4.field-0 unchanged (flag_rule (codes "explain"))
    c.in_ok-arg-4.ensures c.explain_flag.ensures.local unchanged_is c.explain_flag.ensures.rule in
    let two_is =
    rule_added c.in_ok-arg-4.field-0 c.kind_option.result c.in_ok-arg-5.field-0 explained (kind_rule kind.0)
    c.in_ok-arg-5.ensures c.kind_option.ensures.local explained_is kind.1 in
    let three_is =
    rule_added c.in_ok-arg-5.field-0 c.help-document.result c.in_ok-arg-6.field-0 two (option_rule (codes "document"))
    c.in_ok-arg-6.ensures document_local two_is document_is in
    let four_is =
    rule_added c.in_ok-arg-6.field-0 c.help-day.result c.in_ok-arg-7.field-0 three (option_rule (codes "day"))
    c.in_ok-arg-7.ensures day_local three_is day_is in
    let five_is =
    rule_added c.in_ok-arg-7.field-0 c.set_option.result c.in_ok-arg-8.field-0 four (repeated_rule (codes "set"))
    c.in_ok-arg-8.ensures c.set_option.ensures.local four_is c.set_option.ensures.rule in
    let six_is =
    rule_added c.in_ok-arg-8.field-0 c.column_option.result c.in_ok-arg-9.field-0 five (repeated_rule (codes "column"))
    c.in_ok-arg-9.ensures c.column_option.ensures.local five_is c.column_option.ensures.rule in
    let seven_is =
    rule_added c.in_ok-arg-9.field-0 c.flag-3.result c.in_ok-arg-10.field-0 six (flag_rule (codes "stop"))
    c.in_ok-arg-10.ensures c.flag-3.ensures.local six_is c.flag-3.ensures.rule in
    IfOk-weaker c.arg-11.result _ _ (λ r added. (
      kind.0,
      rule_added c.in_ok-arg-10.field-0 c.help-path.result r seven (word_rule (codes "path")) added path_local
          seven_is path_is,
    )) c.arg-11.ensures
