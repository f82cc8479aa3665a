use Rattle.std.proofs.Common.{ap, codes, rules, ◌∙◌}
use Rattle.clap.specs.Words.{rule_of}
use Rattle.clap.specs.declared.builder.arg.Arg.{Arg}
use Rattle.desk_cli.specs.Words.{Listing, report_names, word_rule}
use Rattle.desk_cli.proofs.CommandLines.{rule_among}
use Rattle.desk_cli.proofs.words.report_word.Goals as goal

pub returns : goal.returns
returns c =
    let names : Listing report_names = record { at = c.as_slice.result; are = search rules } in
    let given = c.value_parser.ensures.given in
    record {
      rule = (
        names,
        ap rule_of c.help.ensures ∙ rule_among c.word.result c.value_parser.result c.as_slice.result
            (word_rule (codes "name")) c.value_parser.ensures.others given.0 given.1 given.2 c.word.ensures.rule,
      );
      local =
          ap (λ (a : Arg). a.global) c.help.ensures
          ∙ (ap (λ (a : Arg). a.global) c.value_parser.ensures.others ∙ c.word.ensures.local);
    }
