-- What is told of a task of a desk.
use Rattle.std.proofs.Common.{◌≡◌, ◌∙◌, List, [], false, sym, refl, inr}
use Rattle.std.specs.Prelude.{Option, Some, None, option_map}
use Rattle.clap.specs.Words.{Text}
use Rattle.desk_wire.specs.SheetViews.{shown_sheet}
use Rattle.desk_cli.specs.declared.task.LookAt.{LookAt}
use Rattle.desk_cli.specs.declared.task.LookAt.TheVariants as look
use Rattle.desk_cli.specs.declared.task.Task.{Task}
use Rattle.desk_cli.specs.declared.task.Task.TheVariants.{Run, Look, Migrate, Import, Sheet, Lines, Serve, Guide, At}
use Rattle.desk_cli.specs.declared.task.Task.TheVariants.{Help, Wrong, Unreadable, Memory}
use Rattle.desk_cli.specs.AtWords.{asking_of}
use Rattle.desk_cli.specs.Words.{Places, DeskTask, at, guide, run, report, export, dump, show, low_list, migrate, import}
use Rattle.desk_cli.specs.Words.{sheet, lines, serve, look_task, plain_run, rows_import, serving, sheet_import}
use Rattle.list_words.specs.Lists.{listed_of}
use Rattle.desk_cli.specs.Words.{desk_task, faults, subject_of, Tells, AnswersAt, Runs, RunsOn}

pub told_answers : (places : Places) (words : List Text) (w : Option DeskTask) (task : Task) → faults places words ≡ []
    → w ≡ desk_task places words
    → Tells w task → AnswersAt places words task
told_answers places words w (Run file how) free same t = (free, sym same ∙ t)
told_answers places words w (Look file shown) free same t = (free, sym same ∙ t)
told_answers places words w (Migrate file) free same t = (free, sym same ∙ t)
told_answers places words w (Import file rows) free same t = (free, sym same ∙ t)
told_answers places words w (Sheet file told) free same t = (free, sym same ∙ t)
told_answers places words w (Lines told path) free same t = (free, sym same ∙ t)
told_answers places words w (Serve file how) free same t = (free, sym same ∙ t)
told_answers places words w (Guide topic) free same t = (free, sym same ∙ t)
told_answers places words w (At port token asked) free same t = (free, sym same ∙ t)
told_answers places words w (Help e) free same t = absurd t
told_answers places words w (Wrong e) free same t = inr (free, sym same ∙ t.0, t.1)
told_answers places words w Unreadable free same t = absurd t
told_answers places words w Memory free same t = tt

no_file : {X Y : Type 0} (f : X → Y) (file : Option X) → option_map f file ≡ None → file ≡ None
no_file f None e = refl
no_file f (Some x) e = absurd (cc)

-- a run is no look
no_look : (file : Option Text) (from : Text) (shown : LookAt) → Some (plain_run file) ≡ Some (look_task from shown) → ⊥
no_look file from (look.Report name of) e =
    let f : Some (plain_run file) ≡ Some (report from name (subject_of of)) = e in cc
no_look file from (look.Export table) e = let f : Some (plain_run file) ≡ Some (export from table) = e in cc
no_look file from look.Dump e = let f : Some (plain_run file) ≡ Some (dump from) = e in cc
no_look file from (look.Show list csv) e =
    let f : Some (plain_run file) ≡ Some (show from (listed_of list) csv) = e in cc
no_look file from (look.Low levels csv) e =
    let f : Some (plain_run file) ≡ Some (low_list from levels.now csv) = e in cc

pub told_runs : (w : Option DeskTask) (task : Task) → w ≡ Some (plain_run None) → Tells w task → Runs task
told_runs w (Run from how) e t =
    let f : Some (plain_run None) ≡ Some (run (option_map (λ path. path.now) from) how) = sym e ∙ t in
    (no_file (λ path. path.now) from (cc), cc)
told_runs w (Look from shown) e t =
    let f : Some (plain_run None) ≡ Some (look_task from.now shown) = sym e ∙ t in absurd (no_look None from.now shown f)
told_runs w (Migrate from) e t =
    let f : Some (plain_run None) ≡ Some (migrate from.now) = sym e ∙ t in absurd (cc)
told_runs w (Import from rows) e t =
    let f : Some (plain_run None) ≡ Some (import from.now (rows_import rows)) = sym e ∙ t in absurd (cc)
told_runs w (Sheet from told) e t =
    let f : Some (plain_run None) ≡ Some (sheet from.now (sheet_import told)) = sym e ∙ t in absurd (cc)
told_runs w (Lines told from) e t =
    let f : Some (plain_run None) ≡ Some (lines (shown_sheet told) from.now) = sym e ∙ t in absurd (cc)
told_runs w (Serve from how) e t =
    let f : Some (plain_run None) ≡ Some (serve (option_map (λ path. path.now) from) (serving how)) = sym e ∙ t in absurd (cc)
told_runs w (Guide topic) e t =
    let f : Some (plain_run None) ≡ Some (guide topic.now) = sym e ∙ t in absurd (cc)
told_runs w (At port token asked) e t =
    let f : Some (plain_run None) ≡ Some (at port (option_map (λ path. path.now) token) (asking_of asked)) = sym e ∙ t in absurd (cc)
told_runs w (Help error) e t = absurd t
told_runs w (Wrong error) e t = let f = t.0 in absurd (cc)
told_runs w Unreadable e t = absurd t
told_runs w Memory e t = tt

pub told_runs_on : (path : Text) (w : Option DeskTask) (task : Task) → w ≡ Some (plain_run (Some path)) → Tells w task
    → RunsOn path task
told_runs_on path w (Run from how) e t =
    let f : Some (plain_run (Some path)) ≡ Some (run (option_map (λ given. given.now) from) how) = sym e ∙ t in
    (cc, cc)
told_runs_on path w (Look from shown) e t =
    let f : Some (plain_run (Some path)) ≡ Some (look_task from.now shown) = sym e ∙ t in absurd (no_look (Some path) from.now shown f)
told_runs_on path w (Migrate from) e t =
    let f : Some (plain_run (Some path)) ≡ Some (migrate from.now) = sym e ∙ t in absurd (cc)
told_runs_on path w (Import from rows) e t =
    let f : Some (plain_run (Some path)) ≡ Some (import from.now (rows_import rows)) = sym e ∙ t in absurd (cc)
told_runs_on path w (Sheet from told) e t =
    let f : Some (plain_run (Some path)) ≡ Some (sheet from.now (sheet_import told)) = sym e ∙ t in absurd (cc)
told_runs_on path w (Lines told from) e t =
    let f : Some (plain_run (Some path)) ≡ Some (lines (shown_sheet told) from.now) = sym e ∙ t in absurd (cc)
told_runs_on path w (Serve from how) e t =
    let f : Some (plain_run (Some path)) ≡ Some (serve (option_map (λ given. given.now) from) (serving how)) = sym e ∙ t in absurd (cc)
told_runs_on path w (Guide topic) e t =
    let f : Some (plain_run (Some path)) ≡ Some (guide topic.now) = sym e ∙ t in absurd (cc)
told_runs_on path w (At port token asked) e t =
    let f : Some (plain_run (Some path)) ≡ Some (at port (option_map (λ given. given.now) token) (asking_of asked)) = sym e ∙ t in absurd (cc)
told_runs_on path w (Help error) e t = absurd t
told_runs_on path w (Wrong error) e t = let f = t.0 in absurd (cc)
told_runs_on path w Unreadable e t = absurd t
told_runs_on path w Memory e t = tt
