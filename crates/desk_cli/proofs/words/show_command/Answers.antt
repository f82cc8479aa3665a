use Rattle.std.proofs.Common.{ap, codes, false, ◌≡◌, ◌∙◌}
use Rattle.std.proofs.lemmas.Result.{IfOk-weaker}
use Rattle.clap.specs.Words.{App, app_of, new_app, rule_of, with_rule}
use Rattle.clap.specs.Simple.{app_of_fields}
use Rattle.clap.specs.declared.builder.arg.Arg.{Arg}
use Rattle.desk_cli.specs.Words.{flag_rule, list_rule, optional_rule, optional_word_rule, with_place}
use Rattle.desk_cli.proofs.CommandLines.{rule_added}
use Rattle.desk_cli.proofs.words.show_command.Goals as goal

pub returns : goal.returns
returns c =
    let list = c.list_word.ensures.rule in
    let line_is : app_of c.after_help-command.result ≡ new_app (codes "show") =
    ap app_of_fields c.after_help-command.ensures ∙ ap app_of_fields c.about.ensures ∙ c.new.ensures.app in
    let low_is : rule_of c.help-low.result ≡ optional_rule (codes "low") =
    ap rule_of c.help-low.ensures ∙ c.optional.ensures.rule in
    let low_local : c.help-low.result.global ≡ false =
    ap (λ (a : Arg). a.global) c.help-low.ensures ∙ c.optional.ensures.local in
    let levels_is : rule_of c.help-levels.result ≡ optional_rule (codes "levels") =
    ap rule_of c.help-levels.ensures ∙ c.optional-2.ensures.rule in
    let levels_local : c.help-levels.result.global ≡ false =
    ap (λ (a : Arg). a.global) c.help-levels.ensures ∙ c.optional-2.ensures.local in
    let from_is : rule_of c.help-from.result ≡ optional_rule (codes "from") =
    ap rule_of c.help-from.ensures ∙ c.optional-3.ensures.rule in
    let from_local : c.help-from.result.global ≡ false =
    ap (λ (a : Arg). a.global) c.help-from.ensures ∙ c.optional-3.ensures.local in
    let to_is : rule_of c.help-to.result ≡ optional_rule (codes "to") =
    ap rule_of c.help-to.ensures ∙ c.optional-4.ensures.rule in
    let to_local : c.help-to.result.global ≡ false =
    ap (λ (a : Arg). a.global) c.help-to.ensures ∙ c.optional-4.ensures.local in
    let of_is : rule_of c.help-of.result ≡ optional_word_rule (codes "of") =
    ap rule_of c.help-of.ensures ∙ c.optional_word.ensures.rule in
    let of_local : c.help-of.result.global ≡ false =
    ap (λ (a : Arg). a.global) c.help-of.ensures ∙ c.optional_word.ensures.local in
    let one : App = with_place (new_app (codes "show")) in
    let two : App = with_rule one (flag_rule (codes "csv")) in
    let three : App = with_rule two (flag_rule (codes "open")) in
    let four : App = with_rule three (optional_rule (codes "low")) in
    let five : App = with_rule four (optional_rule (codes "levels")) in
    let six : App = with_rule five (optional_rule (codes "from")) in
    let seven : App = with_rule six (optional_rule (codes "to")) in
    let eight : App = with_rule seven (list_rule list.0) in
    let one_is = c.in_ok-with_place.ensures ∙ ap with_place line_is in
    let two_is =
    rule_added c.in_ok-with_place.field-0 c.flag.result c.in_ok-arg.field-0 one (flag_rule (codes "csv"))
    c.in_ok-arg.ensures c.flag.ensures.local one_is c.flag.ensures.rule in
    let three_is =
    rule_added c.in_ok-arg.field-0 c.flag-2.result c.in_ok-arg-2.field-0 two (flag_rule (codes "open"))
    c.in_ok-arg-2.ensures c.flag-2.ensures.local two_is c.flag-2.ensures.rule in
    let four_is =
    rule_added c.in_ok-arg-2.field-0 c.help-low.result c.in_ok-arg-3.field-0 three (optional_rule (codes "low"))
    c.in_ok-arg-3.ensures low_local three_is low_is in
    let five_is =
    rule_added c.in_ok-arg-3.field-0 c.help-levels.result c.in_ok-arg-4.field-0 four (optional_rule (codes "levels"))
    c.in_ok-arg-4.ensures levels_local four_is levels_is in
    let six_is =
    rule_added c.in_ok-arg-4.field-0 c.help-from.result c.in_ok-arg-5.field-0 five (optional_rule (codes "from"))
    c.in_ok-arg-5.ensures from_local five_is from_is in
    let seven_is =
    rule_added c.in_ok-arg-5.field-0 c.help-to.result c.in_ok-arg-6.field-0 six (optional_rule (codes "to"))
    c.in_ok-arg-6.ensures to_local six_is to_is in
    let eight_is =
    rule_added c.in_ok-arg-6.field-0 c.list_word.result c.in_ok-arg-7.field-0 seven (list_rule list.0)
    c.in_ok-arg-7.ensures c.list_word.ensures.local seven_is list.1 in
    IfOk-weaker c.arg-8.result _ _ (λ r added. (
      list.0,
      rule_added c.in_ok-arg-7.field-0 c.help-of.result r eight (optional_word_rule (codes "of")) added of_local
          eight_is of_is,
    )) c.arg-8.ensures
