use Rattle.std.proofs.Common.{ap, codes, ◌≡◌, ◌∙◌}
use Rattle.std.proofs.lemmas.Result.{IfOk-weaker}
use Rattle.clap.specs.Words.{app_of, new_app}
use Rattle.clap.specs.Simple.{app_of_fields}
use Rattle.desk_cli.specs.Words.{topic_rule}
use Rattle.desk_cli.proofs.CommandLines.{rule_added}
use Rattle.desk_cli.proofs.words.help_command.Goals as goal

pub returns : goal.returns
returns c =
    let topic = c.topic_word.ensures.rule in
    let line_is : app_of c.about.result ≡ new_app (codes "help") = ap app_of_fields c.about.ensures ∙ c.new.ensures.app in
    IfOk-weaker c.arg.result _ _ (λ r added. (
      topic.0,
      rule_added c.about.result c.topic_word.result r (new_app (codes "help")) (topic_rule topic.0) added
          c.topic_word.ensures.local line_is topic.1,
    )) c.arg.ensures
