-- What was answered is kept, however a run ends.
use Rattle.std.proofs.Common.{◌≡◌, ◌+◌, ℕ, Bool, List, [], ◌++◌, length, ap, sym, refl, ◌∙◌, subst}
use Rattle.std.proofs.Common.{append_assoc, append-nil, inl, inr}
use Rattle.std.specs.Prelude.{◌≢◌, Option, Some, None, Err}
use Rattle.std.specs.Io.KnownBytes.{Appends}
use Rattle.sqlite.specs.Tree.{Trees}
use Rattle.desk_core.specs.Machine.{State}
use Rattle.desk_store.specs.StateTables.{TablesAre}
use Rattle.desk_core.specs.declared.end.Stop.{Stop}
use Rattle.desk_core.specs.declared.end.Stop.TheVariants.{ReadFailed, WriteFailed, Memory, Store}
use Rattle.desk_app.specs.Answered.{AnsweredIsKept, AreAfterNoFewer}
use Rattle.desk_app.specs.declared.options.RunOptions.{RunOptions}
use Rattle.desk_app.specs.Runs.{lines_of, run_after, run_out, taken, AreTaken, BeginWith, EndsOpen, Finished, Stopped}
use Rattle.desk_app.proofs.Running.{run_out-append}
use Rattle.desk_app.proofs.Stopping.{begins_with_taken, taken_again, taken_before}

begins_before : (text : Option (List ℕ)) (told group : List (List ℕ)) → BeginWith text (told ++ group)
    → BeginWith text told
begins_before None told group h = tt
begins_before (Some xs) told group (rest, e) = (group ++ rest, e ∙ append_assoc told group rest)

-- the tables after these lines alone
after_these : (options : RunOptions) (text : Option (List ℕ)) (s s' : State) (done : List (List ℕ)) (trees : Trees)
    → BeginWith text done → AreTaken options s done
    → s' ≡ run_after options.lines s 1 done → TablesAre s' trees → AreAfterNoFewer options text s done trees
after_these options text s s' done trees first these state tables = record {
  further = [];
  first = subst (BeginWith text) (sym (append-nil done)) first;
  all_taken = subst (AreTaken options s) (sym (append-nil done)) these;
  tables = subst (λ v. TablesAre v trees) (state ∙ ap (run_after options.lines s 1) (sym (append-nil done))) tables;
}

-- all lines that were run have their answers written whole
all_answered : (options : RunOptions) (text w w' : Option (List ℕ)) (s s' : State) (leaves : Trees → Type 0)
    (done : List (List ℕ))
    → BeginWith text done → AreTaken options s done
    → s' ≡ run_after options.lines s 1 done → Appends w w' (run_out options.lines s 1 done)
    → ((trees : Trees) → leaves trees → TablesAre s' trees)
    → AnsweredIsKept options text w w' s leaves
all_answered options text w w' s s' leaves done first these state written left = record {
  answered = done;
  front = run_out options.lines s 1 done;
  more = [];
  first = first;
  all_taken = these;
  answers = sym (append-nil (run_out options.lines s 1 done));
  written = written;
  kept = λ trees may. after_these options text s s' done trees first these state (left trees may);
}

pub answered_finished : (options : RunOptions) (text w w' : Option (List ℕ)) (s s' : State) (all : Bool)
    (leaves : Trees → Type 0)
    → Finished options text w w' s s' all → ((trees : Trees) → leaves trees → TablesAre s' trees)
    → AnsweredIsKept options text w w' s leaves
answered_finished options None w w' s s' all leaves (lines, ran) left =
    all_answered options None w w' s s' leaves (taken options s lines) tt (taken_again options s lines)
    ran.state ran.written left
answered_finished options (Some xs) w w' s s' all leaves ran left =
    all_answered options (Some xs) w w' s s' leaves (taken options s (lines_of xs))
    (begins_with_taken options s (lines_of xs)) (taken_again options s (lines_of xs)) ran.state ran.written left

pub answered_stopped : (options : RunOptions) (why : Stop) (text w w' : Option (List ℕ)) (s s' : State)
    (leaves : Trees → Type 0)
    → Stopped options why text w w' s s' leaves
    → (why ≢ Store → (trees : Trees) → leaves trees → TablesAre s' trees)
    → AnsweredIsKept options text w w' s leaves
answered_stopped options ReadFailed text w w' s s' leaves h left =
    all_answered options text w w' s s' leaves h.done h.first h.all_taken h.state h.written
    (left (λ e. absurd (cc)))
answered_stopped options WriteFailed text w w' s s' leaves h left = record {
  answered = h.told ++ h.group;
  front = run_out options.lines s 1 h.told ++ h.front;
  more = h.more;
  first = h.first;
  all_taken = h.all_taken;
  answers =
      run_out-append options.lines s 1 h.told h.group
      ∙ ap (λ v. run_out options.lines s 1 h.told ++ v) h.answers
      ∙ sym (append_assoc (run_out options.lines s 1 h.told) h.front h.more);
  written = h.written;
  kept = λ trees may. after_these options text s s' (h.told ++ h.group) trees h.first h.all_taken h.state
      (left (λ e. absurd (cc)) trees may);
}
answered_stopped options Memory text w w' s s' leaves h left = record {
  answered = h.told ++ h.untold;
  front = run_out options.lines s 1 h.told;
  more = run_out options.lines (run_after options.lines s 1 h.told) (1 + length h.told) h.untold;
  first = h.first;
  all_taken = h.all_taken;
  answers = run_out-append options.lines s 1 h.told h.untold;
  written = h.written;
  kept = λ trees may. after_these options text s s' (h.told ++ h.untold) trees h.first h.all_taken h.state
      (left (λ e. absurd (cc)) trees may);
}
answered_stopped options Store text w w' s s' leaves h left =
    let first = begins_before text h.told h.group h.first in
    let these = taken_before options s h.told h.group h.all_taken in
    record {
      answered = h.told;
      front = run_out options.lines s 1 h.told;
      more = [];
      first = first;
      all_taken = these;
      answers = sym (append-nil (run_out options.lines s 1 h.told));
      written = h.written;
      kept = λ trees may. elim (h.left trees may) [
        | inl before ↦ after_these options text s (run_after options.lines s 1 h.told) h.told trees first these refl before
        | inr after ↦ record { further = h.group; first = h.first; all_taken = h.all_taken; tables = after }
      ];
    }

-- books of a run that ends otherwise than by a fault of the database aren't closed
pub open_but_store : {F : Type 0} (old new : Option F) (stop : Stop) → EndsOpen {F = F} {X = Bool} old new (Err stop)
    → stop ≢ Store → new ≡ None
open_but_store old new ReadFailed ends apart = ends.1
open_but_store old new WriteFailed ends apart = ends.1
open_but_store old new Memory ends apart = ends.1
open_but_store old new Store ends apart = absurd (apart refl)
