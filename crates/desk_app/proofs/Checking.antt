-- Lines that are looked at before any is run.
use Rattle.std.proofs.Common.{◌≡◌, ◌+◌, ◌-◌, ◌<◌, ◌≤◌, ◌==◌, ◌&&◌, ℕ, suc, Bool, true, false, cond, List, [], ◌∷◌}
use Rattle.std.proofs.Common.{◌++◌, length, take, take_all, drop, drop-drop, length-drop, append_assoc, append-nil, arith, ap, sym}
use Rattle.std.proofs.Common.{refl, ◌∙◌}
use Rattle.std.proofs.lemmas.List.{drop_all}
use Rattle.std.proofs.KnownBytes.{Appends-nil}
use Rattle.std.specs.Prelude.{Option, Some, None, is_none}
use Rattle.sqlite.specs.Tree.{Trees}
use Rattle.desk_core.specs.Machine.{State}
use Rattle.desk_store.specs.StateTables.{TablesAre}
use Rattle.desk_wire.specs.declared.fault.What.TheVariants.{TooLong}
use Rattle.desk_wire.specs.Writing.{fault_text}
use Rattle.desk_core.specs.declared.end.RunEnd.TheVariants as ends
use Rattle.desk_core.specs.declared.end.Stop.{Stop}
use Rattle.desk_core.specs.declared.end.Stop.TheVariants.{ReadFailed, WriteFailed, Memory, Store}
use Rattle.desk_app.specs.Answered.{AnsweredIsKept}
use Rattle.desk_app.specs.Checked.{are_readable, fault_of, faults_out, is_readable, is_short, text_faults}
use Rattle.desk_app.specs.Checked.{told_of}
use Rattle.desk_app.specs.Cuts.{first_of, rest_of}
use Rattle.desk_core.specs.Ends.{end_of}
use Rattle.desk_app.specs.declared.options.RunOptions.{RunOptions}
use Rattle.desk_app.specs.Runs.{BeginWith, lines_of, Stopped}
use Rattle.desk_app.proofs.Running.{lines_first, none_grouped}
use Rattle.desk_app.proofs.Stopping.{none_taken}

-- ---- the first line of a text

-- what is behind a place
pub from_index : (t : List ℕ) (at : ℕ) → take (length t - at) (drop at t) ≡ drop at t
from_index t at = take_all (length t - at) (drop at t) (omega (arith, length-drop at t))

pub first_short : (text : List ℕ) → length (first_of text) ≤ length text
first_short [] = omega arith
first_short (b ∷ bs) =
    elim (b == 10) as (λ c. length (cond c [] (b ∷ first_of bs)) ≤ length (b ∷ bs)) [
      | true ↦ omega arith
      | false ↦ let h = first_short bs in omega arith
    ]

-- what is behind it and its LF
pub behind_first : (text : List ℕ) → drop (length (first_of text) + 1) text ≡ rest_of text
behind_first [] = refl
behind_first (b ∷ bs) =
    let e : length (b ∷ first_of bs) + 1 ≡ suc (length (first_of bs) + 1) = omega arith in
    elim (b == 10) as (λ c. drop (length (cond c [] (b ∷ first_of bs)) + 1) (b ∷ bs) ≡ cond c bs (rest_of bs)) [
      | true ↦ refl
      | false ↦ ap (λ n. drop n (b ∷ bs)) e ∙ behind_first bs
    ]

-- ---- many lines

faults_next : (names : Bool) (n : ℕ) (text : List ℕ) → 0 < length text → faults_out names n (lines_of text)
    ≡ told_of n (fault_of names (first_of text)) ++ faults_out names (n + 1) (lines_of (rest_of text))
faults_next names n text h = ap (faults_out names n) (lines_first text h)

readable_next : (names : Bool) (text : List ℕ) → 0 < length text → are_readable names (lines_of text)
    ≡ (is_none (fault_of names (first_of text)) && are_readable names (lines_of (rest_of text)))
readable_next names text h = ap (are_readable names) (lines_first text h)

and_assoc : (a b c : Bool) → ((a && b) && c) ≡ (a && (b && c))
and_assoc true b c = refl
and_assoc false b c = refl

and_true : (a : Bool) → (a && true) ≡ a
and_true true = refl
and_true false = refl

-- the faults of so many lines are told, and where the others begin
pub record Looked (names : Bool) (bytes : List ℕ) (at number : ℕ) (out : List ℕ) (f : Bool) : Type 0 where
  pub told : faults_out names 1 (lines_of bytes) ≡ out ++ faults_out names (number + 1) (lines_of (drop at bytes))
  pub readable : are_readable names (lines_of bytes) ≡ (f && are_readable names (lines_of (drop at bytes)))

pub looked_at_none : (names : Bool) (bytes out : List ℕ) → out ≡ [] → Looked names bytes 0 0 out true
looked_at_none names bytes out e = record {
  told = ap (λ v. v ++ faults_out names 1 (lines_of bytes)) (sym e);
  readable = refl;
}

pub looked_at_one : (names : Bool) (bytes : List ℕ) (at at' k k' : ℕ) (out out' : List ℕ) (f f' readable : Bool)
    (rest l : List ℕ)
    → Looked names bytes at k out f → at < length bytes → rest ≡ drop at bytes → l ≡ first_of rest
    → at' ≡ at + (length l + 1) → k' ≡ k + 1 → out' ≡ out ++ told_of k' (fault_of names l)
    → readable ≡ is_none (fault_of names l) → f' ≡ (f && readable)
    → Looked names bytes at' k' out' f'
looked_at_one names bytes at at' k k' out out' f f' readable rest l p inside is_rest is_first there next is_out is_fine both =
    let here : first_of (drop at bytes) ≡ l = sym (is_first ∙ ap first_of is_rest) in
    let some : 0 < length (drop at bytes) = omega (arith, length-drop at bytes) in
    let behind : rest_of (drop at bytes) ≡ drop at' bytes =
    sym (behind_first (drop at bytes))
    ∙ ap (λ (v : List ℕ). drop (length v + 1) (drop at bytes)) here
    ∙ drop-drop (length l + 1) at bytes
    ∙ ap (λ n. drop n bytes) (sym there) in
    let fault = fault_of names l in
    let others = lines_of (drop at' bytes) in
    record {
      told =
          p.told
          ∙ ap (λ v. out ++ v) (faults_next names (k + 1) (drop at bytes) some)
          ∙ ap (λ v. out ++ (told_of (k + 1) (fault_of names v)
          ++ faults_out names (k + 1 + 1) (lines_of (rest_of (drop at bytes))))) here
          ∙ ap (λ v. out ++ (told_of (k + 1) fault ++ faults_out names (k + 1 + 1) (lines_of v))) behind
          ∙ ap (λ n. out ++ (told_of n fault ++ faults_out names (n + 1) others)) (sym next)
          ∙ sym (append_assoc out (told_of k' fault) (faults_out names (k' + 1) others))
          ∙ ap (λ v. v ++ faults_out names (k' + 1) others) (sym is_out);
      readable =
          p.readable
          ∙ ap (λ v. f && v) (readable_next names (drop at bytes) some)
          ∙ ap (λ v. f && (is_none (fault_of names v) && are_readable names (lines_of (rest_of (drop at bytes))))) here
          ∙ ap (λ v. f && (is_none fault && are_readable names (lines_of v))) behind
          ∙ sym (and_assoc f (is_none fault) (are_readable names others))
          ∙ ap (λ v. (f && v) && are_readable names others) (sym is_fine)
          ∙ ap (λ v. v && are_readable names others) (sym both);
    }

-- all lines were looked at
pub all_told : (names : Bool) (bytes : List ℕ) (at k : ℕ) (out : List ℕ) (f : Bool) → Looked names bytes at k out f
    → length bytes ≤ at → out ≡ faults_out names 1 (lines_of bytes)
all_told names bytes at k out f p past =
    sym (p.told
    ∙ ap (λ (v : List ℕ). out ++ faults_out names (k + 1) (lines_of v)) (drop_all at bytes past)
    ∙ append-nil out)

pub all_readable : (names : Bool) (bytes : List ℕ) (at k : ℕ) (out : List ℕ) (f : Bool) → Looked names bytes at k out f
    → length bytes ≤ at → f ≡ are_readable names (lines_of bytes)
all_readable names bytes at k out f p past =
    sym (p.readable
    ∙ ap (λ (v : List ℕ). f && are_readable names (lines_of v)) (drop_all at bytes past)
    ∙ and_true f)

-- ---- a text

pub too_long : (names : Bool) (text : List ℕ) → 16777216 < length text
    → (fault_text (record { line = 0; what = TooLong }) ≡ text_faults names text) × (false ≡ is_readable names text)
too_long names text h =
    let e : is_short text ≡ false = grind arith in
    (rw e refl, rw e refl)

pub short_enough : (names : Bool) (text : List ℕ) → length text ≤ 16777216
    → (faults_out names 1 (lines_of text) ≡ text_faults names text)
    × (are_readable names (lines_of text) ≡ is_readable names text)
short_enough names text h =
    let e : is_short text ≡ true = grind arith in
    (rw e refl, rw e refl)

-- ---- nothing was run yet

none_first : (text : Option (List ℕ)) → BeginWith text []
none_first None = tt
none_first (Some text) = (lines_of text, refl)

pub unanswered : (options : RunOptions) (text w : Option (List ℕ)) (s : State) (leaves : Trees → Type 0)
    → ((trees : Trees) → leaves trees → TablesAre s trees) → AnsweredIsKept options text w w s leaves
unanswered options text w s leaves tables = record {
  answered = [];
  front = [];
  more = [];
  first = none_first text;
  all_taken = none_taken options s;
  answers = refl;
  written = Appends-nil w;
  kept = λ trees may. record {
    further = [];
    first = none_first text;
    all_taken = none_taken options s;
    tables = tables trees may;
  };
}

-- as memory ran out
pub unrun_for_memory : (options : RunOptions) (why : Stop) (text w : Option (List ℕ)) (s : State)
    (leaves : Trees → Type 0) → ends.Memory ≡ end_of why → Stopped options why text w w s s leaves
unrun_for_memory options ReadFailed text w s leaves e = absurd (cc)
unrun_for_memory options WriteFailed text w s leaves e = absurd (cc)
unrun_for_memory options Store text w s leaves e = absurd (cc)
unrun_for_memory options Memory text w s leaves e = record {
  told = [];
  untold = [];
  first = none_first text;
  all_taken = none_taken options s;
  one = omega arith;
  state = refl;
  written = Appends-nil w;
}

-- as the books were closed
pub unrun_closed : (options : RunOptions) (why : Stop) (text w : Option (List ℕ)) (s : State) (leaves : Trees → Type 0)
    → ends.Store ≡ end_of why → ((trees : Trees) → leaves trees → ⊥) → Stopped options why text w w s s leaves
unrun_closed options ReadFailed text w s leaves e none = absurd (cc)
unrun_closed options WriteFailed text w s leaves e none = absurd (cc)
unrun_closed options Memory text w s leaves e none = absurd (cc)
unrun_closed options Store text w s leaves e none = record {
  told = [];
  group = [];
  first = none_first text;
  all_taken = none_taken options s;
  size = none_grouped options.lines s 1;
  state = refl;
  written = Appends-nil w;
  left = λ trees may. absurd (none trees may);
}
