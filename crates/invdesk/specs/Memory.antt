-- What is done with new books in memory, or by a service.
use Rattle.std.specs.Prelude.{Bool, true, false, None}
use Rattle.table_store.specs.declared.fault.Failed.{Failed}
use Rattle.desk_core.specs.Machine.{IsSoundState, State}
use Rattle.desk_core.specs.ShopView.{state_of}
use Rattle.desk_core.specs.declared.shop.Shop.{Shop}
use Rattle.desk_wire.specs.SheetViews.{shown_sheet}
use Rattle.desk_core.specs.Empty.{IsEmpty}
use Rattle.desk_app.specs.declared.options.RunOptions.{RunOptions}
use Rattle.desk_app.specs.declared.service.BooksService.{BooksService}
use Rattle.desk_core.specs.declared.end.RunEnd.{RunEnd}
use Rattle.desk_cli.specs.declared.task.RunWords.{RunWords}
use Rattle.desk_cli.specs.declared.task.ServeWords.{ServeWords}
use Rattle.desk_cli.specs.declared.task.Task.{Task}
use Rattle.desk_cli.specs.declared.task.Task.TheVariants as task
use Rattle.invdesk.specs.Asks.{AsksService}
use Rattle.invdesk.specs.Checks.{ChecksInput}
use Rattle.invdesk.specs.Clients.{ServesClients, served_by}
use Rattle.invdesk.specs.Lines.{AreTakenBy, RunsLines}
use Rattle.invdesk.specs.Rows.{PrintsLines}

-- the lines of the standard input were run on them
pub record RunsInMemory (options : RunOptions) (end : RunEnd) : Type 0 where
  pub before : State
  pub after : State
  pub empty : IsEmpty before
  pub runs : RunsLines {F = Failed} options None None (λ _. ⊥) before after end
  pub sound : IsSoundState after

-- they were all looked at before any was run
pub record ChecksInMemory (options : RunOptions) (end : RunEnd) : Type 0 where
  pub before : State
  pub after : State
  pub empty : IsEmpty before
  pub checks : ChecksInput {F = Failed} options None None (λ _. ⊥) before after end
  pub sound : IsSoundState after

-- by whether they are to be
abbrev pub AnswersBy : RunOptions → Bool → RunEnd → Type 0
AnswersBy options false end = RunsInMemory options end
AnswersBy options true end = ChecksInMemory options end

-- they were taken by what the words say
abbrev pub AnswersInMemory : RunWords → RunEnd → Type 0
AnswersInMemory how end = (options : RunOptions) × AreTakenBy how options × AnswersBy options how.check end

-- clients were served with them
pub record ServesInMemory (how : ServeWords) (end : RunEnd) : Type 0 where
  pub before : BooksService Shop
  pub after : BooksService Shop
  pub empty : IsEmpty (state_of before.books)
  pub sound : IsSoundState (state_of after.books)
  pub serves : ServesClients {F = Failed} state_of (λ _. None) (λ _ _. ⊥) (served_by how) how before after end

-- the lines that a file is are printed without any, and a service is asked without any; nothing else is asked of them
abbrev pub DoesInMemory : Task → RunEnd → Type 0
DoesInMemory (task.Run file how) end = AnswersInMemory how end
DoesInMemory (task.Serve file how) end = ServesInMemory how end
DoesInMemory (task.Lines told path) end = PrintsLines (shown_sheet told) end
DoesInMemory (task.At port token asked) end = AsksService asked end
DoesInMemory _ end = ⊥
