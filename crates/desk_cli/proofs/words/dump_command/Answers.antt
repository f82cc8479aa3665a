use Rattle.std.proofs.Common.{ap, codes, ◌≡◌, ◌∙◌}
use Rattle.std.proofs.lemmas.Result.{IfOk-weaker}
use Rattle.clap.specs.Words.{app_of, new_app}
use Rattle.clap.specs.Simple.{app_of_fields}
use Rattle.desk_cli.specs.Words.{with_place}
use Rattle.desk_cli.proofs.words.dump_command.Goals as goal

pub returns : goal.returns
returns c =
    let line_is : app_of c.after_help-command.result ≡ new_app (codes "dump") =
    ap app_of_fields c.after_help-command.ensures ∙ ap app_of_fields c.about.ensures ∙ c.new.ensures.app in
    IfOk-weaker c.with_place.result _ _ (λ r placed. placed ∙ ap with_place line_is) c.with_place.ensures
