-- All values of an option.
use Rattle.std.proofs.Common.{◌≡◌, ◌∙◌, List, [], ap, sym}
use Rattle.std.specs.Prelude.{Option, option_map, unwrap_or}
use Rattle.clap.specs.Words.{Text, all_of, found_of, rows_of}
use Rattle.clap.specs.Matches.{matched_of, raw_values}
use Rattle.clap.specs.declared.parser.matches.ArgMatches.{ArgMatches}
use Rattle.clap.proofs.WalkLemmas.{raw_values-rows}
use Rattle.desk_cli.specs.SheetWords.{values_in}
use Rattle.desk_cli.specs.Words.{rows_in}

pub given_values : (m : ArgMatches) (id : Text) (o : Option (List Text)) → o ≡ option_map raw_values (matched_of (found_of m) id)
    → values_in id (rows_in m) ≡ unwrap_or o []
given_values m id o e = ap (λ (v : Option (List Text)). unwrap_or v []) (sym (e ∙ raw_values-rows (found_of m) id))
