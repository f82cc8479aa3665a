use Rattle.std.proofs.Common.{ap, codes, false, rules, ◌≡◌, ◌∙◌}
use Rattle.std.proofs.lemmas.Result.{IfOk-weaker}
use Rattle.clap.specs.Words.{app_of, new_app, rule_of}
use Rattle.clap.specs.Simple.{app_of_fields}
use Rattle.clap.specs.declared.builder.arg.Arg.{Arg}
use Rattle.desk_cli.specs.Words.{Listing, table_names, word_rule, among, with_place}
use Rattle.desk_cli.proofs.CommandLines.{rule_added, rule_among}
use Rattle.desk_cli.proofs.words.export_command.Goals as goal

pub returns : goal.returns
returns c =
    let names : Listing table_names = record { at = c.as_slice.result; are = search rules } in
    let line_is : app_of c.after_help-command.result ≡ new_app (codes "export") =
    ap app_of_fields c.after_help-command.ensures ∙ ap app_of_fields c.about.ensures ∙ c.new.ensures.app in
    let given = c.value_parser.ensures.given in
    let table_is : rule_of c.help-table.result ≡ among c.as_slice.result (word_rule (codes "table")) =
    ap rule_of c.help-table.ensures ∙ rule_among c.word.result c.value_parser.result c.as_slice.result
    (word_rule (codes "table")) c.value_parser.ensures.others given.0 given.1 given.2 c.word.ensures.rule in
    let table_local : c.help-table.result.global ≡ false =
    ap (λ (a : Arg). a.global) c.help-table.ensures
    ∙ (ap (λ (a : Arg). a.global) c.value_parser.ensures.others ∙ c.word.ensures.local) in
    let one = c.in_ok-with_place.ensures ∙ ap with_place line_is in
    IfOk-weaker c.arg.result _ _ (λ r added. (
      names,
      rule_added c.in_ok-with_place.field-0 c.help-table.result r (with_place (new_app (codes "export")))
          (among c.as_slice.result (word_rule (codes "table"))) added table_local one table_is,
    )) c.arg.ensures
