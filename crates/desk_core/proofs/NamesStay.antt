-- A name that is one row's stays that row's, and so does the key of a request that made one row.
use Rattle.std.proofs.Common.{◌≡◌, ℕ, List, [], ◌∷◌, Option, Some, None, refl, ap, ◌∙◌}
use Rattle.std.specs.FinMap as table
use Rattle.part_core.specs.Catalogue.{Parts}
use Rattle.word_core.specs.Checks.{first}
use Rattle.word_core.specs.Day.{CivilDay}
use Rattle.part_core.specs.Names.{child_named, part_named}
use Rattle.part_core.specs.PartMachine as catalogue
use Rattle.word_core.specs.declared.answer.Answer.{Answer}
use Rattle.part_core.specs.declared.found.Found.TheVariants.{One}
use Rattle.word_core.specs.declared.refusal.Refusal.{Refusal}
use Rattle.word_core.specs.declared.refusal.Refusal.TheVariants.{KeyTaken}
use Rattle.part_core.proofs.NamesStay as parts
use Rattle.yard_core.specs.Stock.{Stock}
use Rattle.yard_core.proofs.NamesStay as locations
use Rattle.desk_core.specs.CommandText.{command_text}
use Rattle.desk_core.specs.Machine.{State, answer_of, by_check, by_repeat, check, checks, effect}
use Rattle.desk_core.specs.Machine.{build_books_in, is_key_taken, order_books_in, register_in, repeated, run, step}
use Rattle.desk_core.specs.Machine.{step_anew, stock_books_in, with_answer}
use Rattle.desk_core.specs.Naming.{made_by, naming_in}
use Rattle.desk_core.specs.NamesStay.{AreNamedAlike, NamesStay, NamesStayInRuns}
use Rattle.desk_core.specs.declared.command.Command.{Command}
use Rattle.desk_core.specs.declared.command.Command.TheVariants as command
use Rattle.desk_core.specs.declared.command.Request.{Request}
use Rattle.desk_core.specs.declared.kept.Kept.{Kept}
use Rattle.desk_core.proofs.Again.{step-keeps}
use Rattle.desk_core.proofs.SameLocations.{same-on_builds, same-on_orders, same-on_stock}
use Rattle.desk_core.proofs.Steps.{AreSoundStores, passes, sound_stores, step-follows}

abbrev LocationsStay : Stock → Stock → Type 0
LocationsStay old new =
    (parent : Option ℕ) (name : List ℕ) (n : ℕ) → child_named parent name old.locations ≡ One n
    → child_named parent name new.locations ≡ One n

-- the names of the catalogue and of locations
record NamesOfRowsStay (old new : State) : Type 0 where
  pub parts : catalogue.AreNamedAlike old.parts new.parts
  pub locations : LocationsStay old.stock new.stock

parts-same : (s : State) → catalogue.AreNamedAlike s.parts s.parts
parts-same s = record { parts = λ name n h. h; categories = λ parent name n h. h }

locations-same : (s t : Stock) → t.locations ≡ s.locations → LocationsStay s t
locations-same s t same parent name n h = ap (λ rows. child_named parent name rows) same ∙ h

-- where the catalogue is left alone, and the locations are
same : (s t : State) → t.parts ≡ s.parts → t.stock.locations ≡ s.stock.locations → NamesOfRowsStay s t
same s t parts rows = record {
  parts = record {
    parts = λ name n h. ap (λ (p : Parts). part_named name p) parts ∙ h;
    categories = λ parent name n h. ap (λ (p : Parts). child_named parent name p.categories) parts ∙ h;
  };
  locations = locations-same s.stock t.stock rows;
}

effect-names : (s : State) → AreSoundStores s → (day : CivilDay) (c : Command) → first (checks s day c) ≡ None
    → NamesOfRowsStay s (effect s day c)
effect-names s sound day (command.Part c) none =
    record { parts = parts.names-stay c (register_in s) sound.bills.catalogue none; locations = λ parent name n h. h }
effect-names s sound day (command.Bom c) none = same s (effect s day (command.Bom c)) refl refl
effect-names s sound day (command.Yard c) none = record {
  parts = parts-same s;
  locations = locations.names-stay c (stock_books_in s) sound.stock.items.locations none;
}
effect-names s sound day (command.Stock c) none =
    same s (effect s day (command.Stock c)) refl (same-on_stock c day (stock_books_in s))
effect-names s sound day (command.Alloc c) none = same s (effect s day (command.Alloc c)) refl refl
effect-names s sound day (command.Order c) none =
    same s (effect s day (command.Order c)) refl (same-on_orders c day (order_books_in s))
effect-names s sound day (command.Build c) none =
    same s (effect s day (command.Build c)) refl (same-on_builds c day s.parts s.bills (build_books_in s))

-- an answer that is kept beside is of no row
beside : (key : Option (List ℕ)) (text : List ℕ) (answer : Answer) (s t : State) → NamesOfRowsStay s t
    → NamesOfRowsStay s (with_answer key text answer t)
beside None text answer s t stay = stay
beside (Some key) text answer s t stay = record { parts = stay.parts; locations = stay.locations }

step-names : (s : State) → AreSoundStores s → (r : Request) → NamesOfRowsStay s (step s r).0
step-names s sound r = again (repeated r s)
  where
    after : State
    after = effect s r.day r.command

    anew : (o : Option Refusal) → check s r ≡ o → NamesOfRowsStay s (by_check o s r after).0
    anew (Some x) e = same s s refl refl
    anew None e =
        beside r.key (command_text r.command) (answer_of s after) s after
        (effect-names s sound r.day r.command (passes (is_key_taken r s) KeyTaken (checks s r.day r.command) e))

    again : (o : Option Answer) → NamesOfRowsStay s (by_repeat o s (step_anew s r)).0
    again (Some a) = same s s refl refl
    again None = anew (check s r) refl

-- a row that is kept stays
made-stays : (s : State) (r : Request) (key : List ℕ) (n : ℕ) → made_by (table.get s.answers key) ≡ One n
    → made_by (table.get (step s r).0.answers key) ≡ One n
made-stays s r key n h = go (table.get s.answers key) refl h
  where
    go : (o : Option Kept) → table.get s.answers key ≡ o → made_by o ≡ One n
        → made_by (table.get (step s r).0.answers key) ≡ One n
    go None is found = cc
    go (Some row) is found = ap made_by (step-keeps s r key row is) ∙ found

step-alike : (s : State) → AreSoundStores s → (r : Request) → AreNamedAlike (naming_in s) (naming_in (step s r).0)
step-alike s sound r =
    let stay = step-names s sound r in record {
      parts = stay.parts.parts;
      categories = stay.parts.categories;
      locations = stay.locations;
      made = made-stays s r;
    }

run-alike : (s : State) → AreSoundStores s → (rs : List Request)
    → AreNamedAlike (naming_in s) (naming_in (run s rs).0)
run-alike s sound [] = record {
  parts = λ name n h. h;
  categories = λ parent name n h. h;
  locations = λ parent name n h. h;
  made = λ key n h. h;
}
run-alike s sound (r ∷ rs) =
    let one = step-alike s sound r in
    let rest = run-alike (step s r).0 (step-follows s sound r).stores rs in record {
      parts = λ name n h. rest.parts name n (one.parts name n h);
      categories = λ parent name n h. rest.categories parent name n (one.categories parent name n h);
      locations = λ parent name n h. rest.locations parent name n (one.locations parent name n h);
      made = λ key n h. rest.made key n (one.made key n h);
    }

pub names_stay : NamesStay
names_stay s r sound = step-alike s (sound_stores s sound) r

pub names_stay_in_runs : NamesStayInRuns
names_stay_in_runs s rs sound = run-alike s (sound_stores s sound) rs
