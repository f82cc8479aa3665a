-- A command line, as it is put together.
use Rattle.std.proofs.Common.{◌≡◌, ◌∙◌, ap, ap₂, true, false}
use Rattle.std.specs.Prelude.{Some, List, Option}
use Rattle.std.specs.Borrow.{Bor}
use Rattle.clap.specs.Words.{App, Rule, Text, app_of, rule_of, with_rule, with_subcommand, AddsArg, AddsSubcommand}
use Rattle.clap.specs.declared.builder.arg.Arg.{Arg}
use Rattle.clap.specs.declared.builder.command.Command.{Command}
use Rattle.clap.specs.declared.builder.value_parser.ValueParser.{ValueParser}
use Rattle.clap.specs.declared.builder.value_parser.ValueParser.TheVariants.{Names}
use Rattle.clap.proofs.SimpleLemmas.{plain_fields}
use Rattle.desk_cli.specs.Words.{among}

pub rule_added : (old : Command) (a : Arg) (new : Command) (app : App) (rule : Rule) → AddsArg old a new
    → a.global ≡ false
    → app_of old ≡ app → rule_of a ≡ rule → app_of new ≡ with_rule app rule
rule_added old a new app rule added local before given = added.shape local ∙ ap₂ with_rule before given

pub line_added : (old sub new : Command) (app line : App) → AddsSubcommand old sub new → line.top.is_plain ≡ true
    → app_of old ≡ app → app_of sub ≡ line → app_of new ≡ with_subcommand app line.top
line_added old sub new app line added plain before given =
    let is_plain = ap (λ (a : App). a.top.is_plain) given ∙ plain in
    added.shape (plain_fields sub is_plain).globals ∙ ap₂ with_subcommand before (ap (λ (a : App). a.top) given)

pub rule_among : (a b : Arg) (names : Bor (List (Bor Text))) (rule : Rule)
    → b ≡ record a { value_parser = b.value_parser }
    → (q : ValueParser) → b.value_parser ≡ Some q → q ≡ Names names → rule_of a ≡ rule → rule_of b ≡ among names rule
rule_among a b names rule others q given is before =
    ap rule_of others ∙ ap₂ (λ (r : Rule) (p : Option ValueParser). record r { parser = p }) before
    (given ∙ ap (λ (v : ValueParser). Some v) is)
