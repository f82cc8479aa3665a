use Rattle.std.proofs.Common.{inl, inr, refl, ap, ◌∙◌}
use Rattle.std.specs.Prelude.{Ok, Err}
use Rattle.desk_cli.specs.declared.look.Content.TheVariants.{Database}
use Rattle.invdesk.specs.Statuses.{status_on_file}
use Rattle.invdesk.proofs.Ending.{by_end, told_so}
use Rattle.invdesk.proofs.status_for.Goals as goal

pub returns-in-Run : goal.returns-in-Run
returns-in-Run c = rw c.in-Run.is c.run_status.ensures

pub returns-in-Serve : goal.returns-in-Serve
returns-in-Serve c = rw c.in-Serve.is c.serve_status.ensures

pub returns-in-Import : goal.returns-in-Import
returns-in-Import c =
    rw c.in-Import.is
    (by_end c.import_to_file.result c.import_to_file.ensures.acts c.import_to_file.ensures.none
    (λ end e acts. inr (refl, inl (refl, (Ok end, (Database, inl (refl, acts)), c.told_status.ensures ∙ ap status_on_file e))))
    (λ fault e none. inr (refl, inl (refl, (Err fault, (Database, inr none), c.told_status.ensures ∙ ap status_on_file e)))))

pub returns-in-Sheet : goal.returns-in-Sheet
returns-in-Sheet c =
    rw c.in-Sheet.is
    (by_end c.import_sheet_to_file.result c.import_sheet_to_file.ensures.acts c.import_sheet_to_file.ensures.none
    (λ end e acts. inr (refl, inl (refl, (Ok end, (Database, inl (refl, acts)), c.told_status-in-Sheet.ensures ∙ ap status_on_file e))))
    (λ fault e none. inr (refl, inl (refl, (Err fault, (Database, inr none), c.told_status-in-Sheet.ensures ∙ ap status_on_file e)))))

pub returns-in-Look : goal.returns-in-Look
returns-in-Look c =
    rw c.in-Look.is (inr (refl, inl (refl, (c.look_at_file.result, c.look_at_file.ensures, c.told_status-in-Look.ensures))))

pub returns-in-Migrate : goal.returns-in-Migrate
returns-in-Migrate c =
    rw c.in-Migrate.is (inr (refl, inl (refl, (c.migrate_file.result, c.migrate_file.ensures, c.told_status-in-Migrate.ensures))))

pub returns-in-Lines : goal.returns-in-Lines
returns-in-Lines c =
    rw c.in-Lines.is (inr (refl, inr (refl, (c.print_lines.result, c.print_lines.ensures, c.status_of.ensures))))

pub returns-in-At : goal.returns-in-At
returns-in-At c =
    rw c.in-At.is (inr (refl, inr (refl, (c.ask_at.result, c.ask_at.ensures, c.status_of-in-At.ensures))))

pub returns-in-Guide : goal.returns-in-Guide
returns-in-Guide c = rw c.in-Guide.is (inl (told_so 0 c.status_at_once.result c.status_at_once.ensures))

pub returns-in-Help : goal.returns-in-Help
returns-in-Help c = rw c.in-Help.is (inl (told_so 0 c.status_at_once-in-Help.result c.status_at_once-in-Help.ensures))

pub returns-in-Wrong : goal.returns-in-Wrong
returns-in-Wrong c = rw c.in-Wrong.is (inl (told_so 2 c.status_at_once-in-Wrong.result c.status_at_once-in-Wrong.ensures))

pub returns-in-Unreadable : goal.returns-in-Unreadable
returns-in-Unreadable c = rw c.in-Unreadable.is (inl (told_so 2 c.status_at_once-in-Unreadable.result c.status_at_once-in-Unreadable.ensures))

pub returns-in-Memory : goal.returns-in-Memory
returns-in-Memory c = rw c.in-Memory.is (inl (inl refl))
