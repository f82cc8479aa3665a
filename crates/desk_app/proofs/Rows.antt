-- A run over the rows of a file, row by row.
use Rattle.std.proofs.Common.{arith, is_some, true≢false, length-drop, ◌≤◌, ◌≡◌, ◌+◌, ◌-◌, ◌<◌, ℕ, Bool, true, false, ◌&&◌, List, [], ◌∷◌, ◌++◌, append-nil, take, take_all, drop, length}
use Rattle.std.proofs.Common.{get_or, ap, sym, refl, ◌∙◌, subst, append_assoc, take-append-drop, ◌⊎◌, inl, inr}
use Rattle.std.specs.Prelude.{◌≢◌, IfErr, IfOk, Option, None, Result, Ok, Err}
use Rattle.std.specs.Result.{IsErrAnd}
use Rattle.std.specs.Io.KnownBytes.{Appends}
use Rattle.std.proofs.lemmas.List.{take_more, drop_more, take-append-le}
use Rattle.sqlite.specs.Tree.{Trees}
use Rattle.desk_core.specs.Machine.{State, Outcome, step}
use Rattle.desk_store.specs.StateTables.{TablesAre}
use Rattle.desk_wire.specs.ImportReports.{outcome_text, report_line}
use Rattle.desk_wire.specs.declared.row.ImportRow.{ImportRow}
use Rattle.desk_core.specs.Ends.{end_of}
use Rattle.desk_core.specs.declared.end.RunEnd.TheVariants as ends
use Rattle.desk_core.specs.declared.end.Stop.{Stop}
use Rattle.desk_core.specs.declared.end.Stop.TheVariants.{ReadFailed, WriteFailed, Memory, Store}
use Rattle.desk_wire.specs.declared.told.Told.{Told}
use Rattle.desk_app.specs.Runs.{by_outcome, CutRequest, IsOfBooks, StaysOpen}
use Rattle.desk_app.specs.ImportRuns.{are_answers, import_told, rows_after, rows_out, rows_outcomes, rows_told}
use Rattle.desk_app.specs.ImportRuns.{AreLeftByRows, ImportStopped, IsLeftByImport, RanFront, Reading}

-- the first `at` rows were run from s to s', and this is the text of theirs
pub record RowsRunning (rows : List ImportRow) (at : ℕ) (s s' : State) (text : List ℕ) (fine : Bool) : Type 0 where
  pub state : s' ≡ rows_after s (take at rows)
  pub after : rows_after s rows ≡ rows_after s' (drop at rows)
  pub told : rows_out s rows ≡ text ++ rows_out s' (drop at rows)
  pub all : are_answers (rows_outcomes s rows) ≡ (fine && are_answers (rows_outcomes s' (drop at rows)))

-- ---- what is told of an outcome

told_state : (p : State × Outcome) → (by_outcome p).0 ≡ p.0
told_state (s, Ok answer) = refl
told_state (s, Err refusal) = refl

told_line : (p : State × Outcome) → (by_outcome p).1 ≡ outcome_text p.1
told_line (s, Ok answer) = refl
told_line (s, Err refusal) = refl

told_fine : (p : State × Outcome) (os : List Outcome) → are_answers (p.1 ∷ os) ≡ ((by_outcome p).2 && are_answers os)
told_fine (s, Ok answer) os = refl
told_fine (s, Err refusal) os = refl

-- ---- the next row

rows_after-push : (s : State) (rows : List ImportRow) (row : ImportRow)
    → rows_after s (rows ++ row ∷ []) ≡ (step (rows_after s rows) row.request).0
rows_after-push s [] row = refl
rows_after-push s (r ∷ rs) row = rows_after-push (step s r.request).0 rs row

taken : (rows : List ImportRow) (i : ℕ) (row : ImportRow) → i < length rows → row ≡ get_or rows i row
    → take (i + 1) rows ≡ take i rows ++ row ∷ []
taken rows i row h is = take_more rows i row h ∙ ap (λ r. take i rows ++ r ∷ []) (sym is)

dropped : (rows : List ImportRow) (i : ℕ) (row : ImportRow) → i < length rows → row ≡ get_or rows i row
    → drop i rows ≡ row ∷ drop (i + 1) rows
dropped rows i row h is = drop_more rows i row h ∙ ap (λ r. r ∷ drop (i + 1) rows) (sym is)

next_state : (rows : List ImportRow) (i : ℕ) (row : ImportRow) (s s' s'' : State) → i < length rows
    → row ≡ get_or rows i row → s' ≡ rows_after s (take i rows)
    → s'' ≡ (step s' row.request).0 → s'' ≡ rows_after s (take (i + 1) rows)
next_state rows i row s s' s'' h is before now =
    now
    ∙ ap (λ v. (step v row.request).0) before
    ∙ sym (rows_after-push s (take i rows) row)
    ∙ ap (rows_after s) (sym (taken rows i row h is))

and_assoc : (a b c : Bool) → (a && (b && c)) ≡ ((a && b) && c)
and_assoc true b c = refl
and_assoc false b c = refl

pub rows_next : (rows : List ImportRow) (i : ℕ) (row : ImportRow) (s s' s'' : State) (text text' line : List ℕ)
    (fine fine' f : Bool) → i < length rows → row ≡ get_or rows i row
    → RowsRunning rows i s s' text fine → by_outcome (step s' row.request) ≡ (s'', line, f)
    → text' ≡ text ++ report_line row.number line → fine' ≡ (fine && f)
    → RowsRunning rows (i + 1) s s'' text' fine'
rows_next rows i row s s' s'' text text' line fine fine' f h is run stepped told all =
    let p = step s' row.request in
    let rest = drop (i + 1) rows in
    let here = dropped rows i row h is in
    let state : p.0 ≡ s'' = sym (told_state p) ∙ ap (λ v. v.0) stepped in
    let line_is : outcome_text p.1 ≡ line = sym (told_line p) ∙ ap (λ v. v.1) stepped in
    let answer : rows_out s' (row ∷ rest) ≡ report_line row.number line ++ rows_out s'' rest =
    ap (λ v. report_line row.number v ++ rows_out p.0 rest) line_is
    ∙ ap (λ v. report_line row.number line ++ rows_out v rest) state in
    let answered : are_answers (rows_outcomes s' (row ∷ rest)) ≡ (f && are_answers (rows_outcomes s'' rest)) =
    told_fine p (rows_outcomes p.0 rest)
    ∙ ap (λ v. v.2 && are_answers (rows_outcomes p.0 rest)) stepped
    ∙ ap (λ v. f && are_answers (rows_outcomes v rest)) state in
    record {
      state = next_state rows i row s s' s'' h is run.state (sym state);
      after = run.after ∙ ap (rows_after s') here ∙ ap (λ v. rows_after v rest) state;
      told =
          run.told
          ∙ ap (λ v. text ++ rows_out s' v) here
          ∙ ap (λ v. text ++ v) answer
          ∙ sym (append_assoc text (report_line row.number line) (rows_out s'' rest))
          ∙ ap (λ v. v ++ rows_out s'' rest) (sym told);
      all =
          run.all
          ∙ ap (λ v. fine && are_answers (rows_outcomes s' v)) here
          ∙ ap (λ v. fine && v) answered
          ∙ and_assoc fine f (are_answers (rows_outcomes s'' rest))
          ∙ ap (λ v. v && are_answers (rows_outcomes s'' rest)) (sym all);
    }

-- ---- how it stops

front : (rows : List ImportRow) (i : ℕ) (s s' : State) → s' ≡ rows_after s (take i rows) → RanFront rows s s'
front rows i s s' state =
    record { done = take i rows; rest = drop i rows; split = sym (take-append-drop i rows); state = state }

-- there was no memory for what the row asks
pub unasked_front : (rows : List ImportRow) (i : ℕ) (s s' : State) (text : List ℕ) (fine : Bool)
    → RowsRunning rows i s s' text fine → RanFront rows s s'
unasked_front rows i s s' text fine run = front rows i s s' run.state

-- the row was run, and its line wasn't told
pub untold_front : (rows : List ImportRow) (i : ℕ) (row : ImportRow) (s s' s'' : State) (text line : List ℕ)
    (fine f : Bool) → i < length rows → row ≡ get_or rows i row
    → RowsRunning rows i s s' text fine → by_outcome (step s' row.request) ≡ (s'', line, f) → RanFront rows s s''
untold_front rows i row s s' s'' text line fine f h is run stepped =
    front rows (i + 1) s s''
    (next_state rows i row s s' s'' h is run.state
    (sym (sym (told_state (step s' row.request)) ∙ ap (λ v. v.0) stepped)))

-- the row wasn't answered
pub cut_front : (stop : Stop) (rows : List ImportRow) (i : ℕ) (row : ImportRow) (s s' s'' : State) (text : List ℕ)
    (fine : Bool) → i < length rows → row ≡ get_or rows i row
    → RowsRunning rows i s s' text fine → CutRequest stop s' s'' row.request → IsOfBooks stop × RanFront rows s s''
cut_front ReadFailed rows i row s s' s'' text fine h is run cut = absurd cut
cut_front WriteFailed rows i row s s' s'' text fine h is run cut = absurd cut
cut_front Memory rows i row s s' s'' text fine h is run (inl same) = (tt, front rows i s s'' (same ∙ run.state))
cut_front Memory rows i row s s' s'' text fine h is run (inr now) =
    (tt, front rows (i + 1) s s'' (next_state rows i row s s' s'' h is run.state now))
cut_front Store rows i row s s' s'' text fine h is run same = (tt, front rows i s s'' (same ∙ run.state))

pub memory_front : (stop : Stop) (rows : List ImportRow) (s s' : State) → stop ≡ Memory → RanFront rows s s'
    → IsOfBooks stop × RanFront rows s s'
memory_front stop rows s s' e h = (subst IsOfBooks (sym e) tt, h)

-- the next group of rows couldn't be kept
pub unkept_front : (stop : Stop) (rows : List ImportRow) (i : ℕ) (s s' s'' : State) (text : List ℕ) (fine : Bool)
    → RowsRunning rows i s s' text fine → stop ≡ Store → s'' ≡ s' → IsOfBooks stop × RanFront rows s s''
unkept_front stop rows i s s' s'' text fine run e same =
    (subst IsOfBooks (sym e) tt, front rows i s s'' (same ∙ run.state))

-- no row was run yet
pub rows_start : (rows : List ImportRow) (s : State) (text : List ℕ) → text ≡ [] → RowsRunning rows 0 s s text true
rows_start rows s text none = record {
  state = refl;
  after = refl;
  told = ap (λ v. v ++ rows_out s rows) (sym none);
  all = refl;
}

-- all were
pub rows_end : (rows : List ImportRow) (i : ℕ) (s s' : State) (text : List ℕ) (fine : Bool)
    → RowsRunning rows i s s' text fine → length rows ≤ i → rows_told s rows ≡ (s', text, fine)
rows_end rows i s s' text fine run e =
    let none : drop i rows ≡ [] = no_more (drop i rows) (omega (arith, e, length-drop i rows)) in
    let state : rows_after s rows ≡ s' = run.after ∙ ap (rows_after s') none in
    let told : rows_out s rows ≡ text = run.told ∙ ap (λ v. text ++ rows_out s' v) none ∙ append-nil text in
    let all : are_answers (rows_outcomes s rows) ≡ fine =
    run.all ∙ ap (λ v. fine && are_answers (rows_outcomes s' v)) none ∙ and_true fine in
    λ k. (state k, told k, all k)
  where
    and_true : (b : Bool) → (b && true) ≡ b
    and_true true = refl
    and_true false = refl

    no_more : {X : Type 0} (xs : List X) → length xs ≡ 0 → xs ≡ []
    no_more [] e = refl
    no_more (x ∷ xs) e = absurd (omega (arith, e))

-- the state of a run is that of its books
pub rows_same : (rows : List ImportRow) (i : ℕ) (s s' s'' : State) (text : List ℕ) (fine : Bool) → s'' ≡ s'
    → RowsRunning rows i s s' text fine → RowsRunning rows i s s'' text fine
rows_same rows i s s' s'' text fine same run = subst (λ v. RowsRunning rows i s v text fine) (sym same) run

-- ---- what a crash leaves

-- the rows behind those that are in the tables are one group
pub left_between : (rows : List ImportRow) (kept ran : ℕ) (s s' : State) (trees : Trees) → kept ≤ ran
    → ran ≤ kept + 1000 → s' ≡ rows_after s (take ran rows) → TablesAre (rows_after s (take kept rows)) trees
    → AreLeftByRows rows s s' trees
left_between rows kept ran s s' trees none_more group state tables =
    record { ran = ran; kept = kept; none_more = none_more; group = group; state = state; tables = tables }

-- all rows that were run are in the tables
left_all : (rows : List ImportRow) (ran : ℕ) (s s' : State) (trees : Trees) → s' ≡ rows_after s (take ran rows)
    → TablesAre s' trees → AreLeftByRows rows s s' trees
left_all rows ran s s' trees state tables =
    left_between rows ran ran s s' trees (omega arith) (omega arith) state
    (subst (λ v. TablesAre v trees) state tables)

left_front : (rows : List ImportRow) (s s' : State) (trees : Trees) → RanFront rows s s' → TablesAre s' trees
    → AreLeftByRows rows s s' trees
left_front rows s s' trees ran tables =
    let front : take (length ran.done) rows ≡ ran.done =
    ap (take (length ran.done)) ran.split
    ∙ take-append-le (length ran.done) ran.done ran.rest (omega arith)
    ∙ take_all (length ran.done) ran.done (omega arith) in
    left_all rows (length ran.done) s s' trees (ran.state ∙ ap (rows_after s) (sym front)) tables

pub left_none : (rows : List ImportRow) (s : State) (trees : Trees) → TablesAre s trees → AreLeftByRows rows s s trees
left_none rows s trees tables = left_all rows 0 s s trees refl tables

-- the tables before the first row of the group, once the next row is counted in it
pub group_begins : {L : Type 0} (rows : List ImportRow) (i waiting count : ℕ) (s s' s'' : State) (text : List ℕ)
    (fine : Bool) (trees : Trees) → RowsRunning rows i s s' text fine → s'' ≡ s' → waiting ≤ i
    → (L → TablesAre (rows_after s (take (i - waiting) rows)) trees)
    → ((count ≡ waiting + 1) × L) ⊎ ((count ≡ 1) × TablesAre s'' trees)
    → TablesAre (rows_after s (take (i + 1 - count) rows)) trees
group_begins rows i waiting count s s' s'' text fine trees run same within before (inl (one, earlier)) =
    let e : i - waiting ≡ i + 1 - count = omega (arith, one, within) in
    subst (λ n. TablesAre (rows_after s (take n rows)) trees) e (before earlier)
group_begins rows i waiting count s s' s'' text fine trees run same within before (inr (one, tables)) =
    let e : i ≡ i + 1 - count = omega (arith, one) in
    subst (λ n. TablesAre (rows_after s (take n rows)) trees) e
    (subst (λ v. TablesAre v trees) (same ∙ run.state) tables)

-- the next group couldn't be begun
pub left_unkept : {L : Type 0} (rows : List ImportRow) (i waiting : ℕ) (s s' s'' : State) (text : List ℕ)
    (fine : Bool) (trees : Trees) → RowsRunning rows i s s' text fine → s'' ≡ s' → waiting ≤ i → waiting ≤ 1000
    → (L → TablesAre (rows_after s (take (i - waiting) rows)) trees) → L ⊎ TablesAre s'' trees
    → AreLeftByRows rows s s'' trees
left_unkept rows i waiting s s' s'' text fine trees run same within few before (inl earlier) =
    left_between rows (i - waiting) i s s'' trees (omega arith) (omega arith) (same ∙ run.state) (before earlier)
left_unkept rows i waiting s s' s'' text fine trees run same within few before (inr tables) =
    left_all rows i s s'' trees (same ∙ run.state) tables

-- the row wasn't asked for, or wasn't run
pub left_before : (rows : List ImportRow) (i count : ℕ) (s s' : State) (text : List ℕ) (fine : Bool) (trees : Trees)
    → RowsRunning rows i s s' text fine → (1 ≤ count) × (count ≤ i + 1) → count ≤ 1000
    → TablesAre (rows_after s (take (i + 1 - count) rows)) trees → AreLeftByRows rows s s' trees
left_before rows i count s s' text fine trees run (some, within) few tables =
    left_between rows (i + 1 - count) i s s' trees (omega arith) (omega arith) run.state tables

-- the row was run
left_behind : (rows : List ImportRow) (i count : ℕ) (row : ImportRow) (s s' s'' : State) (text : List ℕ) (fine : Bool)
    (trees : Trees) → i < length rows → row ≡ get_or rows i row → RowsRunning rows i s s' text fine
    → (1 ≤ count) × (count ≤ i + 1) → count ≤ 1000 → s'' ≡ (step s' row.request).0
    → TablesAre (rows_after s (take (i + 1 - count) rows)) trees → AreLeftByRows rows s s'' trees
left_behind rows i count row s s' s'' text fine trees h is run (some, within) few now tables =
    left_between rows (i + 1 - count) (i + 1) s s'' trees (omega arith) (omega arith)
    (next_state rows i row s s' s'' h is run.state now) tables

-- ... and its line wasn't told
pub left_untold : (rows : List ImportRow) (i count : ℕ) (row : ImportRow) (s s' s'' : State) (text line : List ℕ)
    (fine f : Bool) (trees : Trees) → i < length rows → row ≡ get_or rows i row → RowsRunning rows i s s' text fine
    → (1 ≤ count) × (count ≤ i + 1) → count ≤ 1000 → by_outcome (step s' row.request) ≡ (s'', line, f)
    → TablesAre (rows_after s (take (i + 1 - count) rows)) trees → AreLeftByRows rows s s'' trees
left_untold rows i count row s s' s'' text line fine f trees h is run bounds few stepped tables =
    left_behind rows i count row s s' s'' text fine trees h is run bounds few
    (sym (sym (told_state (step s' row.request)) ∙ ap (λ v. v.0) stepped)) tables

-- the row wasn't answered
pub left_cut : (stop : Stop) (rows : List ImportRow) (i count : ℕ) (row : ImportRow) (s s' s'' : State) (text : List ℕ)
    (fine : Bool) (trees : Trees) → i < length rows → row ≡ get_or rows i row → RowsRunning rows i s s' text fine
    → (1 ≤ count) × (count ≤ i + 1) → count ≤ 1000 → CutRequest stop s' s'' row.request
    → TablesAre (rows_after s (take (i + 1 - count) rows)) trees → AreLeftByRows rows s s'' trees
left_cut ReadFailed rows i count row s s' s'' text fine trees h is run bounds few cut tables = absurd cut
left_cut WriteFailed rows i count row s s' s'' text fine trees h is run bounds few cut tables = absurd cut
left_cut Memory rows i count row s s' s'' text fine trees h is run bounds few (inl same) tables =
    left_before rows i count s s'' text fine trees (rows_same rows i s s' s'' text fine same run) bounds few tables
left_cut Memory rows i count row s s' s'' text fine trees h is run bounds few (inr now) tables =
    left_behind rows i count row s s' s'' text fine trees h is run bounds few now tables
left_cut Store rows i count row s s' s'' text fine trees h is run bounds few same tables =
    left_before rows i count s s'' text fine trees (rows_same rows i s s' s'' text fine same run) bounds few tables

-- all rows were run, and the last group isn't ended
pub left_waiting : (rows : List ImportRow) (i waiting : ℕ) (s s' : State) (text : List ℕ) (fine : Bool)
    (trees : Trees) → RowsRunning rows i s s' text fine → waiting ≤ i → waiting ≤ 1000
    → TablesAre (rows_after s (take (i - waiting) rows)) trees → AreLeftByRows rows s s' trees
left_waiting rows i waiting s s' text fine trees run within few tables =
    left_between rows (i - waiting) i s s' trees (omega arith) (omega arith) run.state tables

-- whatever was told of them, the first were run
pub ran_some : (r : Result Bool Stop) (rows : List ImportRow) (s s' s'' : State) (text : List ℕ)
    → IfOk r (λ fine. rows_told s rows ≡ (s', text, fine)) → IfErr r (λ stop. IsOfBooks stop × RanFront rows s s')
    → s'' ≡ s' → RanFront rows s s''
ran_some (Ok fine) rows s s' s'' text told cut same =
    record { done = rows; rest = []; split = sym (append-nil rows); state = same ∙ sym (ap (λ p. p.0) told) }
ran_some (Err stop) rows s s' s'' text told cut same =
    record { done = cut.1.done; rest = cut.1.rest; split = cut.1.split; state = same ∙ cut.1.state }

-- the books were open as the last group was ended, and are
stays_by : {F : Type 0} (old mid new : Option F) (stop : Stop) → StaysOpen {F = F} {X = Bool} old mid (Err stop)
    → mid ≡ None → new ≡ None → StaysOpen {F = F} {X = Told} old new (Err stop)
stays_by old mid new ReadFailed h was now = λ _. now
stays_by old mid new WriteFailed h was now = λ _. now
stays_by old mid new Memory h was now = λ _. now
stays_by old mid new Store h was now = absurd (true≢false (sym h ∙ ap is_some was))

pub stays_ended : {F : Type 0} (old mid new : Option F) (r : Result Bool Stop) (stop : Stop) (told : Result Told Stop)
    → r ≡ Err stop → StaysOpen {F = F} {X = Bool} old mid r → mid ≡ None → new ≡ None
    → IsErrAnd told (λ d. d ≡ stop) → StaysOpen {F = F} {X = Told} old new told
stays_ended old mid new r stop (Ok t) is stays was now same = absurd same
stays_ended {F} old mid new r stop (Err d) is stays was now same =
    stays_by old mid new d
    (subst (λ v. StaysOpen {F = F} {X = Bool} old mid (Err v)) (sym same)
    (subst (λ v. StaysOpen {F = F} {X = Bool} old mid v) is stays)) was now

-- the last group was ended, or it wasn't
pub left_ended : {L : Type 0} (r : Result Bool Stop) (rows : List ImportRow) (s s' s'' : State) (text : List ℕ)
    (trees : Trees) → IfOk r (λ fine. rows_told s rows ≡ (s', text, fine))
    → IfErr r (λ stop. IsOfBooks stop × RanFront rows s s') → s'' ≡ s' → (L → AreLeftByRows rows s s' trees)
    → L ⊎ TablesAre s'' trees → AreLeftByRows rows s s'' trees
left_ended r rows s s' s'' text trees told cut same before (inl earlier) =
    subst (λ v. AreLeftByRows rows s v trees) (sym same) (before earlier)
left_ended r rows s s' s'' text trees told cut same before (inr tables) =
    left_front rows s s'' trees (ran_some r rows s s' s'' text told cut same) tables

-- ---- an import

-- it ended as its report was written
pub import_written : (reading : Reading) (w w' : Option (List ℕ)) (s s' : State) (text : List ℕ)
    (f : Bool) (k : ℕ) → import_told s reading ≡ (s', text, f)
    → Appends w w' (take k text) → ImportStopped WriteFailed reading w w' s s'
import_written reading w w' s s' text f k told wrote =
    record {
      front = take k text;
      more = drop k text;
      state = sym (ap (λ p. p.0) told);
      told = ap (λ p. p.1) told ∙ sym (take-append-drop k text);
      written = wrote;
    }

-- what a crash leaves where nothing was run is left by any import
pub left_alone : (reading : Reading) (s : State) (trees : Trees) → TablesAre s trees
    → IsLeftByImport reading s s trees
left_alone (Ok rows) s trees h = left_none rows s trees h
left_alone (Err fault) s trees h = h

-- books that an import left open leave their tables
pub stays_but_store : {F : Type 0} (old new : Option F) (stop : Stop)
    → StaysOpen {F = F} {X = Bool} old new (Err stop) → (end_of stop ≢ ends.Store) → old ≡ None → new ≡ None
stays_but_store old new ReadFailed stays apart before = stays before
stays_but_store old new WriteFailed stays apart before = stays before
stays_but_store old new Memory stays apart before = stays before
stays_but_store old new Store stays apart before = absurd (apart refl)
