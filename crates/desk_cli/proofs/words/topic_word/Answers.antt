use Rattle.std.proofs.Common.{ap, codes, rules, ◌∙◌}
use Rattle.clap.specs.Words.{rule_of}
use Rattle.clap.specs.declared.builder.arg.Arg.{Arg}
use Rattle.desk_cli.specs.Words.{Listing, optional_word_rule, topic_names}
use Rattle.desk_cli.proofs.CommandLines.{rule_among}
use Rattle.desk_cli.proofs.words.topic_word.Goals as goal

pub returns : goal.returns
returns c =
    let names : Listing topic_names = record { at = c.as_slice.result; are = search rules } in
    let given = c.value_parser.ensures.given in
    record {
      rule = (
        names,
        ap rule_of c.help.ensures ∙ rule_among c.optional_word.result c.value_parser.result c.as_slice.result
            (optional_word_rule (codes "topic")) c.value_parser.ensures.others given.0 given.1 given.2 c.optional_word.ensures.rule,
      );
      local =
          ap (λ (a : Arg). a.global) c.help.ensures
          ∙ (ap (λ (a : Arg). a.global) c.value_parser.ensures.others ∙ c.optional_word.ensures.local);
    }
