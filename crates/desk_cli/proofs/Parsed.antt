-- What `clap` makes of the words, by its contract.
use Rattle.std.proofs.Common.{◌≡◌, ◌∙◌, List, [], true, ap, sym, subst, refl, inl}
use Rattle.std.specs.Prelude.{Result, Ok, Err, map}
use Rattle.std.specs.Borrow.{Bor}
use Rattle.std.specs.Result.{IsErrAnd}
use Rattle.clap.specs.Words.{App, HasKind, HasMatchesOf, Text, fault_of, is_simple}
use Rattle.clap.specs.Words.{is_simple_and_free, kind_of, subcommand_of}
use Rattle.clap.specs.declared.error.Error.{Error}
use Rattle.clap.specs.declared.error.kind.ErrorKind.TheVariants.{OutOfMemory}
use Rattle.clap.specs.declared.parser.matches.ArgMatches.{ArgMatches}
use Rattle.desk_cli.specs.Words.{IsCommandLine, Parses, Places, command_line, faults, kind_names, list_names, topic_names}
use Rattle.desk_cli.specs.Words.{report_names, table_names, desk_task, desk_task_met}
use Rattle.desk_cli.proofs.Faulty.{is_faults, is_free, is_simple_line}

abbrev lying : List Text → List (Bor Text)
lying names = map (λ (name : Text). record { ref_ptr = (0, 0); now = name }) names

-- the names, lying anywhere
pub anywhere : Places
anywhere = record {
  reports = record { at = record { ref_ptr = (0, 0); now = lying report_names }; are = refl };
  tables = record { at = record { ref_ptr = (0, 0); now = lying table_names }; are = refl };
  lists = record { at = record { ref_ptr = (0, 0); now = lying list_names }; are = refl };
  kinds = record { at = record { ref_ptr = (0, 0); now = lying kind_names }; are = refl };
  line_kinds = record { at = record { ref_ptr = (0, 0); now = lying kind_names }; are = refl };
  topics = record { at = record { ref_ptr = (0, 0); now = lying topic_names }; are = refl };
}

is_desk_task : (places : Places) (words : List Text)
    → desk_task_met (subcommand_of (command_line places) words) ≡ desk_task places words
unfolding desk_task
is_desk_task places words = refl

pub refused : (words : List Text) (r : Result ArgMatches Error) → IsErrAnd r (λ d. kind_of d ≡ OutOfMemory)
    → Parses words r
refused words (Ok m) h = absurd h
refused words (Err e) h = record { places = anywhere; fails = inl h; desk_task = tt }

same_kinds : (words : List Text) (app : App) (line : IsCommandLine app) → fault_of app words ≡ faults line.0 words
same_kinds words app line = ap (λ (a : App). fault_of a words) line.1 ∙ is_faults line.0 words

pub free_line : (app : App) → IsCommandLine app → is_simple_and_free app ≡ true
free_line app line = ap is_simple_and_free line.1 ∙ is_free line.0

pub failed : (words : List Text) (app : App) → IsCommandLine app → (r : Result ArgMatches Error) (e : Error)
    → IsErrAnd r (λ d. d ≡ e)
    → HasKind (fault_of app words) e → Parses words r
failed words app line (Ok m) e h k = absurd h
failed words app line (Err d) e h k = record {
  places = line.0;
  fails =
      subst (HasKind (faults line.0 words)) (sym h) (subst (λ kinds. HasKind kinds e) (same_kinds words app line) k);
  desk_task = tt;
}

pub parsed : (words : List Text) (app : App) → IsCommandLine app → (m : ArgMatches) → fault_of app words ≡ []
    → HasMatchesOf app words m
    → Parses words (Ok m)
parsed words app line m free has = record {
  places = line.0;
  fails = sym (same_kinds words app line) ∙ free;
  desk_task =
      ap desk_task_met
      ((has (ap is_simple line.1 ∙ is_simple_line line.0)).1 ∙ ap (λ (a : App). subcommand_of a words) line.1)
      ∙ is_desk_task line.0 words;
}
