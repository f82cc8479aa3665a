-- Requests that go into one transaction.
use Rattle.std.proofs.Common.{◌≡◌, ℕ, Bool, true, false, not, Option, Some, None, Result, Ok, Err}
use Rattle.std.proofs.Common.{IsSome, IsTrue, is_some, refl, sym, ap, ◌∙◌, subst, arith, true≢false}
use Rattle.std.specs.Result.{IsErrAnd}
use Rattle.sqlite_trees.specs.declared.store.Store.{Ghosts}
use Rattle.sqlite.specs.Held.{state}
use Rattle.sqlite.specs.State as sqlite
use Rattle.sqlite.specs.State.{HasCleanDisk, KeepsCommit, Survives}
use Rattle.sqlite.proofs.StateLemmas.{survives_then}
use Rattle.desk_core.specs.Machine.{State}
use Rattle.desk_core.specs.ShopView.{state_of}
use Rattle.desk_store.specs.StateTables.{HoldsBooks}
use Rattle.desk_store.specs.Saving.{Goes, IsUnderWay}
use Rattle.desk_store.specs.Desks.{IsDesk}
use Rattle.desk_store.specs.Groups.{IsGrouping, ShowsBooks}
use Rattle.desk_store.specs.declared.desk.Desk.{Desk}
use Rattle.desk_store.proofs.Midway.{all_but_last, keeps_then, none_yet, so_far}
use Rattle.table_store.specs.Transactions.{IsOfMemoryOrStore}
use Rattle.table_store.specs.declared.fault.TableFault.{TableFault}

-- ---- what is shown

-- a database that holds a state shows it
pub shows_held : (s : State) (d : sqlite.State) → HoldsBooks s d → ShowsBooks s d
shows_held s d holds =
    record {
      is_open = holds.rest.is_open;
      tables = holds.tables;
      books = so_far s d.now.trees holds.books;
      held = λ _. holds;
    }

-- a state that is shown within a transaction is the one from which the next one is written
pub under_way : (old new : State) (d : sqlite.State) → IsTrue d.in_transaction → ShowsBooks old d → IsUnderWay old new 0 d
under_way old new d inside shows =
    record { ready = ((shows.tables, inside), shows.is_open); midway = none_yet old new d.now.trees shows.books }

-- ... and the one that lacks but the row of the counter
pub but_the_counter : (old s : State) (d : sqlite.State) → IsTrue d.in_transaction → ShowsBooks s d
    → IsUnderWay old s 13 d
but_the_counter old s d inside shows =
    record { ready = ((shows.tables, inside), shows.is_open); midway = all_but_last old s d.now.trees shows.books }

pub is_inside : (b : Bool) → not b ≡ false → IsTrue b
is_inside true h = refl
is_inside false h = absurd (true≢false h)

-- ---- calls in their order

-- a call that ends before anything is written
pub goes_nowhere : (old new : State) (count : ℕ) (a b : sqlite.State) (r : Result (Unit {0}) TableFault)
    (fault : TableFault) → IsErrAnd r (λ d. d ≡ fault) → IsOfMemoryOrStore fault
    → (HasCleanDisk b → KeepsCommit a b) → Survives a b (λ _. ⊥) → Goes old new count a b r
goes_nowhere old new count a b (Ok x) fault is of kept crash = absurd is
goes_nowhere old new count a b (Err e) fault is of kept crash =
    record { under_way = λ clean. tt; commit = kept; fault = subst IsOfMemoryOrStore (sym is) of; crash = crash }

-- a call after one that committed nothing
pub goes_after : (old new : State) (count : ℕ) (a b c : sqlite.State) (r : Result (Unit {0}) TableFault)
    → Survives a b (λ _. ⊥) → (HasCleanDisk b → KeepsCommit a b) → Goes old new count b c r → Goes old new count a c r
goes_after old new count a b c r before kept goes =
    record {
      under_way = goes.under_way;
      commit = λ clean. keeps_then a b c (kept (omega (arith, clean, goes.crash.clean))) (goes.commit clean);
      fault = goes.fault;
      crash = survives_then a b c (λ _. ⊥) (λ _. ⊥) (λ _. ⊥) (λ _ db h. h) (λ _ db h. h) before goes.crash;
    }

-- ---- desks

pub none_of : {X : Type 0} (f : Option X) → is_some f ≡ false → f ≡ None
none_of None e = refl
none_of (Some x) e = cc

pub none_is_some : {X : Type 0} (f : Option X) → f ≡ None → IsSome f → ⊥
none_is_some f none some = true≢false (sym some ∙ ap is_some none)

-- a desk may begin a group
pub begins_group : {S : Type 0} (g : Ghosts S) (d : Desk S) → IsDesk g d → IsGrouping g d
begins_group g d desk =
    record {
      sound = desk.sound;
      free = λ _. desk.free;
      books = λ unshut clean. shows_held (state_of d.shop) (state g d.conn) (desk.books unshut clean);
    }

-- a desk that a fault has closed is in no group
pub closed_desk : {S : Type 0} (g : Ghosts S) (d : Desk S) → IsGrouping g d → IsSome d.failed → IsDesk g d
closed_desk g d grouping shut =
    record {
      sound = grouping.sound;
      free = grouping.free shut;
      books = λ none clean. absurd (none_is_some d.failed none shut);
    }
