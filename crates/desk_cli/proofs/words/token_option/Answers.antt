use Rattle.std.proofs.Common.{ap, ◌∙◌}
use Rattle.clap.specs.Words.{rule_of}
use Rattle.clap.specs.declared.builder.arg.Arg.{Arg}
use Rattle.desk_cli.proofs.words.token_option.Goals as goal

pub returns : goal.returns
returns c = record {
  rule = ap rule_of c.help.ensures ∙ c.optional.ensures.rule;
  local = ap (λ (a : Arg). a.global) c.help.ensures ∙ c.optional.ensures.local;
}
