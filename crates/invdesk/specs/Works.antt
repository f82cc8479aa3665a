-- What is done with a desk, by what the words ask for.
use Rattle.std.specs.Prelude.{◌≡◌, Bool, true, false}
use Rattle.std.specs.declared.io.Stderr.{Stderr}
use Rattle.sqlite_trees.specs.declared.store.Store.{Ghosts}
use Rattle.sqlite.specs.Held.{state}
use Rattle.sqlite.specs.State.{HasCleanDisk}
use Rattle.sqlite.specs.Tree.{Trees}
use Rattle.desk_core.specs.ShopView.{state_of}
use Rattle.desk_store.specs.declared.desk.Desk.{Desk}
use Rattle.desk_app.specs.declared.options.RunOptions.{RunOptions}
use Rattle.desk_app.specs.declared.service.BooksService.{BooksService}
use Rattle.desk_app.specs.declared.watched.WatchedDesk.{WatchedDesk}
use Rattle.desk_core.specs.declared.end.RunEnd.{RunEnd}
use Rattle.desk_cli.specs.declared.task.RunWords.{RunWords}
use Rattle.desk_cli.specs.declared.task.ServeWords.{ServeWords}
use Rattle.desk_cli.specs.declared.task.Task.{Task}
use Rattle.desk_cli.specs.declared.task.Task.TheVariants as task
use Rattle.invdesk.specs.Checks.{ChecksInput}
use Rattle.invdesk.specs.Clients.{ServesClients, ends_at_fault, served_by}
use Rattle.invdesk.specs.Lines.{AreTakenBy, RunsLines}
use Rattle.invdesk.specs.declared.held.OpenedFile.{OpenedFile}
use Rattle.invdesk.specs.Prints.{PrintsMoved, PrintsOut}
use Rattle.invdesk.specs.Rows.{ImportsFile, ImportsSheet}

module _ {S : Type 0} (g : Ghosts S) where
  -- the tables that a crash may leave of a desk
  abbrev pub may_leave : Desk S → Trees → Type 0
  may_leave desk trees = HasCleanDisk (state g desk.conn) × (state g desk.conn).may_leave trees

  -- the lines of the standard input were run on a desk, which became another
  abbrev pub RunsOnDesk : RunOptions → Desk S → Desk S → RunEnd → Type 0
  RunsOnDesk options old new end =
      RunsLines options old.failed new.failed (may_leave new) (state_of old.shop) (state_of new.shop) end

  -- they were all looked at before any was run
  abbrev pub ChecksOnDesk : RunOptions → Desk S → Desk S → RunEnd → Type 0
  ChecksOnDesk options old new end =
      ChecksInput options old.failed new.failed (may_leave new) (state_of old.shop) (state_of new.shop) end

  -- by whether they are to be
  abbrev pub AnswersBy : RunOptions → Bool → Desk S → Desk S → RunEnd → Type 0
  AnswersBy options false old new end = RunsOnDesk options old new end
  AnswersBy options true old new end = ChecksOnDesk options old new end

  -- they were taken by what the words say
  abbrev pub AnswersOnDesk : RunWords → Desk S → Desk S → RunEnd → Type 0
  AnswersOnDesk how old new end =
      (options : RunOptions) × AreTakenBy how options × AnswersBy options how.check old new end

  -- clients were served with it, while its faults were told on the standard error
  pub record ServesDesk (how : ServeWords) (old new : Desk S) (end : RunEnd) : Type 0 where
    pub before : BooksService (WatchedDesk S OpenedFile Stderr)
    pub after : BooksService (WatchedDesk S OpenedFile Stderr)
    pub was : before.books.desk ≡ old
    pub until : before.ends_at_fault ≡ ends_at_fault how.page how.count
    pub is : after.books.desk ≡ new
    pub serves : ServesClients (λ watched. state_of watched.desk.shop) (λ watched. watched.desk.failed)
        (λ watched. may_leave watched.desk) (served_by how) how before after end

  -- What the words ask for was done with it, and ended so. Nothing else is asked of it.
  abbrev pub Does : Task → Desk S → Desk S → RunEnd → Type 0
  Does (task.Run file how) old new end = AnswersOnDesk how old new end
  Does (task.Look file shown) old new end = (new ≡ old) × PrintsOut shown (state_of old.shop) end
  Does (task.Migrate file) old new end = (new ≡ old) × PrintsMoved end
  Does (task.Import file rows) old new end =
      ImportsFile rows old.failed new.failed (may_leave new) (state_of old.shop) (state_of new.shop) end
  Does (task.Sheet file told) old new end =
      ImportsSheet told old.failed new.failed (may_leave new) (state_of old.shop) (state_of new.shop) end
  Does (task.Serve file how) old new end = ServesDesk how old new end
  Does _ old new end = ⊥
