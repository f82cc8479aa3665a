-- How work ends, and the status of it.
use Rattle.std.proofs.Common.{◌≡◌, ◌∙◌, ◌⊎◌, ◌&&◌, inl, inr, ℕ, Bool, true, false, [], ap, arith, refl, sym, subst}
use Rattle.std.specs.Prelude.{◌≢◌, ◌≤◌, ◌^◌, ◌-◌, List, Option, Some, None, Result, Ok, Err, IfErr, IfOk, IfSome, IsSome, is_some, replicate}
use Rattle.std.specs.Prelude.{unwrap_or}
use Rattle.table_store.specs.declared.fault.Failed.{Failed}
use Rattle.sqlite.specs.Tree.{Trees}
use Rattle.sqlite_disk.specs.declared.Disk as disk
use Rattle.desk_http.specs.Sites.{PageView, SiteRules}
use Rattle.desk_app.specs.declared.options.LineOptions.{LineOptions}
use Rattle.desk_app.specs.declared.options.RunOptions.{RunOptions}
use Rattle.desk_app.specs.declared.service.BooksService.{BooksService}
use Rattle.desk_core.specs.Machine.{IsSoundState, State}
use Rattle.desk_core.specs.Empty.{IsEmpty}
use Rattle.desk_core.specs.Ends.{end_of}
use Rattle.desk_app.specs.Runs.{Finished, Stopped}
use Rattle.desk_core.specs.declared.end.RunEnd.{RunEnd}
use Rattle.desk_core.specs.declared.end.RunEnd.TheVariants.{Done, ReadFailed, WriteFailed, Memory, Store}
use Rattle.desk_core.specs.declared.end.Stop.{Stop}
use Rattle.desk_core.specs.declared.end.Stop.TheVariants as stops
use Rattle.desk_cli.specs.Statuses.{early_status, status_of}
use Rattle.desk_cli.specs.Words.{file_of}
use Rattle.desk_cli.specs.declared.database.FileFault.{FileFault}
use Rattle.desk_cli.specs.declared.look.Content.{Content}
use Rattle.desk_cli.specs.declared.look.Content.TheVariants.{Database}
use Rattle.desk_cli.specs.declared.task.ServeWords.{ServeWords}
use Rattle.desk_cli.specs.declared.task.Task.{Task}
use Rattle.desk_app.proofs.Running.{stopped_by}
use Rattle.invdesk.specs.Clients.{IsInFile, IsOfServing, OffersTo, ServesClients, most_of}
use Rattle.invdesk.specs.Lines.{RunsLines}
use Rattle.invdesk.specs.Files.{Acts, EndsOnFile, NoneComes, is_to_be_opened}
use Rattle.invdesk.specs.Memory.{DoesInMemory, RunsInMemory}
use Rattle.invdesk.specs.Statuses.{IsStatusOf, status_on_file}

-- ---- a serving

pub of_serving : {F : Type 0} (ends : Bool) (failure : Option F) (end : RunEnd) → (end ≡ ReadFailed) ⊎ (end ≡ Memory)
    → IsOfServing ends failure end
of_serving ends failure end (inl e) = subst (IsOfServing ends failure) (sym e) tt
of_serving ends failure end (inr e) = subst (IsOfServing ends failure) (sym e) tt

pub of_telling : {F : Type 0} (ends : Bool) (failure : Option F) (end : RunEnd) → (end ≡ WriteFailed) ⊎ (end ≡ Memory)
    → IsOfServing ends failure end
of_telling ends failure end (inl e) = subst (IsOfServing ends failure) (sym e) tt
of_telling ends failure end (inr e) = subst (IsOfServing ends failure) (sym e) tt

-- a text that may be a token
abbrev plain_token : List ℕ
plain_token = replicate 32 33

-- it is asked for, or none is
asked_if : (given : Bool) → (token : Option (List ℕ)) × (is_some token ≡ given) × IfSome token IsInFile
asked_if true = (Some plain_token, refl, (plain_token, refl))
asked_if false = (None, refl, tt)

some_if : {A : Type 0} → A → (given : Bool) → (x : Option A) × (is_some x ≡ given)
some_if x true = (Some x, refl)
some_if x false = (None, refl)

-- some site offers so much, though nothing was served by it
pub any_site : (port : ℕ) (has_token has_page : Bool) → (site : SiteRules) × OffersTo port has_token has_page site
any_site port has_token has_page =
    let token = asked_if has_token in
    let page = some_if {A = PageView} (record { text = []; policy = [] }) has_page in (
      record { access = record { port = port; token = token.0 }; page = page.0 },
      record {
        token = token.0;
        has = token.1;
        in_file = token.2;
        offers = record { port_is = refl; token_is = refl; page_is = page.1 };
      },
    )

-- no connection was served
pub unserved : {B F : Type 0} (state_in : B → State) (failure_of : B → Option F) (may_leave : B → Trees → Type 0)
    (options : LineOptions) (how : ServeWords) (service : BooksService B) (end : RunEnd)
    → service.options ≡ options → IsOfServing service.ends_at_fault (failure_of service.books) end
    → ServesClients state_in failure_of may_leave options how service service end
unserved state_in failure_of may_leave options how service end taken ends =
    let any = any_site how.port (is_some how.token) how.page in
    record {
      taken = taken;
      site = any.0;
      offers = any.1;
      steps = (0, omega arith, refl);
      operations = (0, omega arith, refl);
      ends = ends;
    }

-- ---- a run in memory

-- from some empty state, and to a sound one
abbrev pub FromEmpty : (State → State → Type 0) → Type 0
FromEmpty ran = (s : State) × IsEmpty s × (s' : State) × IsSoundState s' × ran s s'

no_stop : (all : Bool) (stop : Stop) → Done all ≡ end_of stop → ⊥
no_stop all stops.ReadFailed e = cc
no_stop all stops.WriteFailed e = cc
no_stop all stops.Memory e = cc
no_stop all stops.Store e = cc

abbrev stop_of : RunEnd → Option Stop
stop_of (Done all) = None
stop_of ReadFailed = Some stops.ReadFailed
stop_of WriteFailed = Some stops.WriteFailed
stop_of Memory = Some stops.Memory
stop_of Store = Some stops.Store

stop_back : (stop : Stop) → stop_of (end_of stop) ≡ Some stop
stop_back stops.ReadFailed = refl
stop_back stops.WriteFailed = refl
stop_back stops.Memory = refl
stop_back stops.Store = refl

one_stop : (a b : Stop) → end_of a ≡ end_of b → a ≡ b
one_stop a b e = let both : Some a ≡ Some b = sym (stop_back a) ∙ ap stop_of e ∙ stop_back b in cc

runs_done : (options : RunOptions) (all : Bool) (s s' : State) → Finished options None None None s s' all
    → RunsLines {F = Failed} options None None (λ _. ⊥) s s' (Done all)
runs_done options all s s' ran = record {
  done = λ other e. let same : all ≡ other = cc in subst (Finished options None None None s s') same ran;
  stopped = λ why e. absurd (no_stop all why e);
  were_open = λ _. (refl, refl);
  closed = λ e. absurd (cc);
  left = λ _ trees never. absurd never;
}

abbrev no_failure : Option Failed
no_failure = None

-- no tables are left of books in memory
abbrev Nothing : Trees → Type 0
Nothing trees = (no_failure ≡ None) × ⊥

no_tables : (trees : Trees) → Nothing trees → ⊥
no_tables trees may = may.1

runs_stopped : (options : RunOptions) (why : Stop) (s s' : State) → why ≢ stops.Store
    → Stopped options why None None None s s' (λ _. ⊥)
    → RunsLines {F = Failed} options None None (λ _. ⊥) s s' (end_of why)
runs_stopped options why s s' apart ran = record {
  done = λ all e. absurd (no_stop all why (sym e));
  stopped = λ other e.
      subst (λ v. Stopped options v None None None s s' Nothing) (one_stop why other e)
      (stopped_by options why None None None s s' (λ _. ⊥) Nothing no_tables ran);
  were_open = λ _. (refl, refl);
  closed = λ e. absurd (apart (one_stop why stops.Store e));
  left = λ _ trees never. absurd never;
}

finished_in_memory : (options : RunOptions) (all : Bool) → FromEmpty (λ s s'. Finished options None None None s s' all)
    → RunsInMemory options (Done all)
finished_in_memory options all (s, empty, s', sound, ran) = record {
  before = s;
  after = s';
  empty = empty;
  runs = runs_done options all s s' ran;
  sound = sound;
}

stopped_in_memory : (options : RunOptions) (why : Stop) → why ≢ stops.Store
    → FromEmpty (λ s s'. Stopped options why None None None s s' (λ _. ⊥)) → RunsInMemory options (end_of why)
stopped_in_memory options why apart (s, empty, s', sound, ran) = record {
  before = s;
  after = s';
  empty = empty;
  runs = runs_stopped options why s s' apart ran;
  sound = sound;
}

pub runs_in_memory : (options : RunOptions) (end : RunEnd)
    → ((all : Bool) → end ≡ Done all → FromEmpty (λ s s'. Finished options None None None s s' all))
    → ((why : Stop) → end ≡ end_of why
    → FromEmpty (λ s s'. Stopped options why None None None s s' (λ _. ⊥)))
    → end ≢ Store
    → RunsInMemory options end
runs_in_memory options (Done all) done stopped never = finished_in_memory options all (done all refl)
runs_in_memory options ReadFailed done stopped never =
    stopped_in_memory options stops.ReadFailed (λ e. absurd (cc)) (stopped stops.ReadFailed refl)
runs_in_memory options WriteFailed done stopped never =
    stopped_in_memory options stops.WriteFailed (λ e. absurd (cc)) (stopped stops.WriteFailed refl)
runs_in_memory options Memory done stopped never =
    stopped_in_memory options stops.Memory (λ e. absurd (cc)) (stopped stops.Memory refl)
runs_in_memory options Store done stopped never = absurd (never refl)

-- ---- the status

-- work on a file ended, or there was none
pub by_end : {E F R : Type 0} {P : E → Type 0} {Q : F → Type 0} (ended : Result E F) → IfOk ended P → IfErr ended Q
    → ((end : E) → ended ≡ Ok end → P end → R) → ((fault : F) → ended ≡ Err fault → Q fault → R) → R
by_end (Ok end) ok err done failed = done end refl ok
by_end (Err fault) ok err done failed = failed fault refl err

-- what is told at once
pub told_so : (early status : ℕ) → (status ≡ early) ⊎ (status ≡ 3)
    → (Some early ≡ Some status) ⊎ ((Some early ≢ None) × (status ≡ 3))
told_so early status (inl e) = inl (ap Some (sym e))
told_so early status (inr e) = inr ((λ none. absurd (cc)), e)

-- how many connections are served at most
pub most_is : (count : Option ℕ) (n : ℕ) → n ≤ unwrap_or count (2 ^ 64 - 1) → n ≤ most_of count
most_is (Some most) n h = h
most_is None n h = h
