use Rattle.std.proofs.Common.{map, sym, ◌∙◌, inl, inr}
use Rattle.std.specs.Prelude.{◌≢◌}
use Rattle.clap.specs.Words.{kind_of}
use Rattle.clap.specs.declared.error.kind.ErrorKind.TheVariants.{OutOfMemory}
use Rattle.desk_cli.specs.Words.{IsShown, faults}
use Rattle.desk_cli.proofs.Faulty.{found, no_run, is_help, is_version, not_free}
use Rattle.desk_cli.proofs.Faulty.{versions_not_free, shown_remembers, run_is_task}
use Rattle.desk_cli.proofs.RunOn.{no_run_on, no_run_with, run_on_task, run_with_task}
use Rattle.desk_cli.proofs.Told.{told_answers, told_runs, told_runs_on}
use Rattle.desk_cli.proofs.words.read_words.Goals as goal

pub returns-in-Ok : goal.returns-in-Ok
returns-in-Ok g c =
    let words = map g.S.AsStr.text c.args.words.now in
    let p = c.in-Ok.ensures in
    record {
      answers = (p.places, told_answers p.places words _ c.told_by.result p.fails p.desk_task c.told_by.ensures);
      runs = λ h. told_runs _ c.told_by.result (p.desk_task ∙ run_is_task p.places words h) c.told_by.ensures;
      runs_on =
          λ name file h.
          told_runs_on file _ c.told_by.result (p.desk_task ∙ run_on_task p.places words name file h) c.told_by.ensures;
      runs_with =
          λ name file path h. told_runs_on file _ c.told_by.result
          (p.desk_task ∙ run_with_task p.places words name file path h) c.told_by.ensures;
      helps = λ h. absurd (not_free p.places words p.fails h);
      versions = λ h. absurd (versions_not_free p.places words p.fails h);
    }

pub returns-in-OutOfMemory-clause-answers : goal.returns-in-OutOfMemory-clause-answers
returns-in-OutOfMemory-clause-answers g c = (c.in-Err.ensures.places, tt)

pub returns-in-DisplayHelp : goal.returns-in-DisplayHelp
returns-in-DisplayHelp g c =
    let words = map g.S.AsStr.text c.args.words.now in
    let p = c.in-Err.ensures in
    let shown : IsShown (kind_of c.in-Err.e) = inl (sym c.in-DisplayHelp.ensures) in
    let among = found (faults p.places words) c.in-Err.e p.fails (shown_remembers (kind_of c.in-Err.e) shown) in
    record {
      answers = (p.places, (shown, among));
      runs = no_run p.places words (kind_of c.in-Err.e) among;
      runs_on = no_run_on p.places words (kind_of c.in-Err.e) among;
      runs_with = no_run_with p.places words (kind_of c.in-Err.e) among;
      helps = is_help p.places words (kind_of c.in-Err.e) among;
      versions = is_version p.places words (kind_of c.in-Err.e) among;
    }

pub returns-in-DisplayVersion : goal.returns-in-DisplayVersion
returns-in-DisplayVersion g c =
    let words = map g.S.AsStr.text c.args.words.now in
    let p = c.in-Err.ensures in
    let shown : IsShown (kind_of c.in-Err.e) = inr (sym c.in-DisplayVersion.ensures) in
    let among = found (faults p.places words) c.in-Err.e p.fails (shown_remembers (kind_of c.in-Err.e) shown) in
    record {
      answers = (p.places, (shown, among));
      runs = no_run p.places words (kind_of c.in-Err.e) among;
      runs_on = no_run_on p.places words (kind_of c.in-Err.e) among;
      runs_with = no_run_with p.places words (kind_of c.in-Err.e) among;
      helps = is_help p.places words (kind_of c.in-Err.e) among;
      versions = is_version p.places words (kind_of c.in-Err.e) among;
    }

pub returns : goal.returns
returns g c =
    let words = map g.S.AsStr.text c.args.words.now in
    let p = c.in-Err.ensures in
    let no_memory : kind_of c.in-Err.e ≢ OutOfMemory = λ e. c.in_default.not-OutOfMemory (c.kind.ensures ∙ e) in
    let none_shown : ¬ IsShown (kind_of c.in-Err.e) = λ shown. elim shown [
      | inl e ↦ c.in_default.not-DisplayHelp (c.kind.ensures ∙ e)
      | inr e ↦ c.in_default.not-DisplayVersion (c.kind.ensures ∙ e)
    ] in
    let among = found (faults p.places words) c.in-Err.e p.fails no_memory in
    record {
      answers = (p.places, inl (none_shown, no_memory, among));
      runs = no_run p.places words (kind_of c.in-Err.e) among;
      runs_on = no_run_on p.places words (kind_of c.in-Err.e) among;
      runs_with = no_run_with p.places words (kind_of c.in-Err.e) among;
      helps = λ h. none_shown (inl (is_help p.places words (kind_of c.in-Err.e) among h));
      versions = λ h. none_shown (inr (is_version p.places words (kind_of c.in-Err.e) among h));
    }
