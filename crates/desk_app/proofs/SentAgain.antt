-- A file that is sent again.
use Rattle.std.proofs.Common.{◌≡◌, ◌+◌, ◌==◌, ℕ, Bool, true, false, List, [], ◌∷◌, ◌++◌, length}
use Rattle.std.proofs.Common.{nat_le, map, ap, sym, refl, ◌∙◌, subst, append_assoc, append-nil}
use Rattle.std.specs.Prelude.{Option, Some, None, not, option_map, Result, Ok, Err}
use Rattle.std.specs.Cmp.Lexicographic.{pointwise}
use Rattle.std.specs.Str.{bytes_eq}
use Rattle.csv.specs.Reading.{default_config, records, strip_bom}
use Rattle.word_core.specs.Day.{CivilDay}
use Rattle.word_core.specs.declared.answer.Answer.{Answer}
use Rattle.desk_core.specs.Machine.{State, Outcome, run, step}
use Rattle.desk_core.specs.Naming.{Naming}
use Rattle.desk_core.specs.Repeats.{LaterRepeatsChangeNothing}
use Rattle.desk_core.specs.declared.command.Command.{Command}
use Rattle.desk_core.specs.declared.command.Request.{Request}
use Rattle.desk_wire.specs.ImportReports.{import_text}
use Rattle.desk_wire.specs.Imports.{Columns, Reads, arranged, command_of, field, import, key_of, layout_by, loosely}
use Rattle.desk_wire.specs.Imports.{names_of, quantity_at, row_list, row_of, rows_by, rows_in, rows_of_text}
use Rattle.desk_wire.specs.Imports.{has_other_separator, records_under, rows_under, separators, strictly, unless_other}
use Rattle.desk_wire.specs.Imports.{columns_of, first_columns, places_of, unless_changed, with_rows}
use Rattle.desk_wire.specs.Numbers.{row_number_in}
use Rattle.desk_wire.specs.Quotes.{but_last, ends_in_quotes}
use Rattle.desk_wire.specs.Records.{Fields, are_texts, config_by}
use Rattle.desk_wire.specs.Steps.{◌>>=◌, at, must, or_fault}
use Rattle.desk_wire.specs.declared.fault.What.{What}
use Rattle.desk_wire.specs.declared.fault.What.TheVariants.{Csv, Header, TooLong, WrongType}
use Rattle.desk_wire.specs.declared.fault.WireFault.{WireFault}
use Rattle.desk_wire.specs.declared.kind.ImportKind.{ImportKind}
use Rattle.desk_wire.specs.declared.row.ImportRow.{ImportRow}
use Rattle.desk_app.specs.ImportRuns.{are_answers, import_told, numbers_of}
use Rattle.desk_app.specs.ImportRuns.{requests_of, rows_out, rows_outcomes, rows_told}
use Rattle.desk_app.specs.Runs.{naming}
use Rattle.desk_app.specs.SentAgain.{FilesSentAgainChangeNothing}

-- ---- what a file says of its rows, whatever the document and the day

abbrev Part : Type 0
Part = ℕ × Command

abbrev row_on : ImportKind → List ℕ → CivilDay → Part → ImportRow
row_on kind document day p =
    record { number = p.0; request = record { key = Some (key_of kind document p.0); day = day; command = p.1 } }

abbrev map_ok : {A B E : Type 0} → (A → B) → Result A E → Result B E
map_ok h (Ok x) = Ok (h x)
map_ok h (Err e) = Err e

-- a step of a reading, on either side
bind_map : {A B C E : Type 0} (h : B → C) (r : Result A E) (f : A → Result B E) (g : A → Result C E)
    → ((x : A) → g x ≡ map_ok h (f x)) → (r >>= g) ≡ map_ok h (r >>= f)
bind_map h (Ok x) f g e = e x
bind_map h (Err d) f g e = refl

map_bind : {A A' B C E : Type 0} (h : A → A') (k : B → C) (r : Result A E) (f : A → Result B E) (g : A' → Result C E)
    → ((x : A) → g (h x) ≡ map_ok k (f x)) → (map_ok h r >>= g) ≡ map_ok k (r >>= f)
map_bind h k (Ok x) f g e = e x
map_bind h k (Err d) f g e = refl

at_map : {A B : Type 0} (h : A → B) (n : ℕ) (r : Result A What) → at n (map_ok h r) ≡ map_ok h (at n r)
at_map h n (Ok x) = refl
at_map h n (Err what) = refl

part_of : Option Naming → ImportKind → Fields → Result Part What
part_of names kind fields = do
  whole ← must Csv (length fields == length (names_of kind))
  texts ← must Csv (are_texts fields)
  number ← or_fault WrongType (row_number_in (field 0 fields))
  command ← command_of names kind fields
  Ok (number, command)

row_parts : (names : Option Naming) (kind : ImportKind) (document : List ℕ) (day : CivilDay) (fields : Fields)
    → row_of names kind document day fields ≡ map_ok (row_on kind document day) (part_of names kind fields)
unfolding row_of part_of
row_parts names kind document day fields =
    bind_map _ (must Csv (length fields == length (names_of kind))) _ _ (λ _.
    bind_map _ (must Csv (are_texts fields)) _ _ (λ _.
    bind_map _ (or_fault WrongType (row_number_in (field 0 fields))) _ _ (λ number.
    bind_map (row_on kind document day) (command_of names kind fields) (λ command. Ok (number, command)) _
    (λ command. refl))))

abbrev parts_listed : Option Part → List Part
parts_listed None = []
parts_listed (Some part) = part ∷ []

-- what a record says of its row, if it is one
abbrev Says : Type 0
Says = Fields → Result (Option Part) What

abbrev part_strictly : Option Naming → ImportKind → Says
part_strictly names kind fields = do
  part ← part_of names kind fields
  Ok (Some part)

unfoldable part_loosely : Option Naming → ImportKind → Columns → Says
part_loosely names kind columns fields = do
  texts ← must Csv (are_texts fields)
  fits ← must Csv (nat_le (length fields) columns.width)
  by_quantity (field (quantity_at kind) (arranged columns fields))
  where
    by_quantity : List ℕ → Result (Option Part) What
    by_quantity [] = Ok None
    by_quantity (b ∷ bs) = part_strictly names kind (arranged columns fields)

strictly_parts : (names : Option Naming) (kind : ImportKind) (document : List ℕ) (day : CivilDay) (fields : Fields)
    → strictly names kind document day fields
    ≡ map_ok (option_map (row_on kind document day)) (part_strictly names kind fields)
strictly_parts names kind document day fields =
    let on = row_on kind document day in
    ap (λ (v : Result ImportRow What). v >>= (λ row. Ok (Some row))) (row_parts names kind document day fields)
    ∙ map_bind on (option_map on) (part_of names kind fields) (λ part. Ok (Some part)) (λ row. Ok (Some row)) (λ part. refl)

-- columns that ask no books leave a row as it was read
abbrev AskNone : Columns → Type 0
AskNone columns = columns.books ≡ None

unless_unasked : (columns : Columns) (fields : Fields) (reading : Result (Option ImportRow) What) → AskNone columns
    → unless_changed columns fields reading ≡ reading
unless_unasked columns fields (Err what) none = refl
unless_unasked columns fields (Ok None) none = refl
unless_unasked columns fields (Ok (Some row)) none = rw none refl

loosely_by : (names : Option Naming) (kind : ImportKind) (document : List ℕ) (day : CivilDay) (columns : Columns)
    (fields : Fields) (q : List ℕ) → AskNone columns → field (quantity_at kind) (arranged columns fields) ≡ q
    → loosely names kind document day columns fields
    ≡ map_ok (option_map (row_on kind document day)) (part_loosely names kind columns fields)
unfolding loosely part_loosely
loosely_by names kind document day columns fields [] none e = rw e
    (bind_map (option_map (row_on kind document day)) (must Csv (are_texts fields)) _ _
    (λ _. bind_map (option_map (row_on kind document day)) (must Csv (nat_le (length fields) columns.width))
    (λ _. Ok None) (λ _. Ok None) (λ _. refl)))
loosely_by names kind document day columns fields (b ∷ bs) none e = rw e
    (bind_map (option_map (row_on kind document day)) (must Csv (are_texts fields)) _ _
    (λ _. bind_map (option_map (row_on kind document day)) (must Csv (nat_le (length fields) columns.width)) _ _
    (λ _. unless_unasked columns fields (strictly names kind document day (arranged columns fields)) none
    ∙ strictly_parts names kind document day (arranged columns fields))))

loosely_parts : (names : Option Naming) (kind : ImportKind) (document : List ℕ) (day : CivilDay) (columns : Columns)
    (fields : Fields) → AskNone columns
    → loosely names kind document day columns fields
    ≡ map_ok (option_map (row_on kind document day)) (part_loosely names kind columns fields)
loosely_parts names kind document day columns fields none =
    loosely_by names kind document day columns fields (field (quantity_at kind) (arranged columns fields)) none refl

abbrev with_parts : Says → ℕ → List Part → List Fields → Result (List Part) WireFault
with_parts says number parts [] = Ok parts
with_parts says number parts (r ∷ rs) = do
  part ← at number (says r)
  with_parts says (number + 1) (parts ++ parts_listed part) rs

map_push : {A B : Type 0} (h : A → B) (xs : List A) (x : A) → map h (xs ++ x ∷ []) ≡ map h xs ++ h x ∷ []
map_push h [] x = refl
map_push h (y ∷ ys) x = ap (λ v. h y ∷ v) (map_push h ys x)

map_listed : (h : Part → ImportRow) (xs : List Part) (x : Option Part)
    → map h (xs ++ parts_listed x) ≡ map h xs ++ row_list (option_map h x)
map_listed h xs None = ap (map h) (append-nil xs) ∙ sym (append-nil (map h xs))
map_listed h xs (Some x) = map_push h xs x

module _ (on : Part → ImportRow) (reads : Reads) (says : Says)
    (same : (fields : Fields) → reads fields ≡ map_ok (option_map on) (says fields)) where
  all_parts : (number : ℕ) (parts : List Part) (rs : List Fields)
      → with_rows reads number (map on parts) rs ≡ map_ok (map on) (with_parts says number parts rs)
  all_parts number parts [] = refl
  all_parts number parts (r ∷ rs) =
      ap (λ v. at number v >>= (λ row. with_rows reads (number + 1) (map on parts ++ row_list row) rs)) (same r)
      ∙ ap (λ v. v >>= (λ row. with_rows reads (number + 1) (map on parts ++ row_list row) rs))
      (at_map (option_map on) number (says r))
      ∙ map_bind (option_map on) (map on) (at number (says r))
      (λ part. with_parts says (number + 1) (parts ++ parts_listed part) rs)
      (λ row. with_rows reads (number + 1) (map on parts ++ row_list row) rs)
      (λ part. ap (λ v. with_rows reads (number + 1) v rs) (sym (map_listed on parts part))
      ∙ all_parts (number + 1) (parts ++ parts_listed part) rs)

abbrev parts_in : Option Naming → ImportKind → List Fields → Result (List Part) WireFault
parts_in names kind [] = at 1 (Err Header)
parts_in names kind (r ∷ rs) = do
  header ← at 1 (must Header (pointwise bytes_eq (names_of kind) r))
  with_parts (part_strictly names kind) 2 [] rs

header_parts : (names : Option Naming) (kind : ImportKind) (document : List ℕ) (day : CivilDay) (rs : List Fields)
    → rows_in names kind document day rs ≡ map_ok (map (row_on kind document day)) (parts_in names kind rs)
header_parts names kind document day [] = refl
header_parts names kind document day (r ∷ rs) =
    bind_map (map (row_on kind document day)) (at 1 (must Header (pointwise bytes_eq (names_of kind) r))) _ _
    (λ _. all_parts (row_on kind document day) (strictly names kind document day) (part_strictly names kind)
    (strictly_parts names kind document day) 2 [] rs)

abbrev parts_under : Bool → Says → List Fields → Result (List Part) WireFault
parts_under false says rs = with_parts says 2 [] rs
parts_under true says rs = do
  parts ← with_parts says 2 [] (but_last rs)
  at (length rs + 1) (Err Csv)

abbrev parts_unless : List ℕ → ℕ × Columns → List Part → Result (List Part) WireFault
parts_unless text layout [] = do
  same ← at 2 (must Csv (not (has_other_separator text layout.0 layout.1.width)))
  Ok []
parts_unless text layout (part ∷ parts) = Ok (part ∷ parts)

abbrev parts_by : Option Naming → ImportKind → List ℕ → Option (ℕ × Columns) → Result (List Part) WireFault
parts_by names kind text None = at 1 (Err Header)
parts_by names kind text (Some layout) = do
  parts ← parts_under (ends_in_quotes (config_by layout.0) text) (part_loosely names kind layout.1)
      (records_under layout.0 text)
  parts_unless text layout parts

under_parts : (on : Part → ImportRow) (reads : Reads) (says : Says)
    → ((fields : Fields) → reads fields ≡ map_ok (option_map on) (says fields)) → (unclosed : Bool) (rs : List Fields)
    → rows_under unclosed reads rs ≡ map_ok (map on) (parts_under unclosed says rs)
under_parts on reads says same false rs = all_parts on reads says same 2 [] rs
under_parts on reads says same true rs =
    ap (λ v. v >>= (λ (rows : List ImportRow). at (length rs + 1) (Err Csv))) (all_parts on reads says same 2 [] (but_last rs))
    ∙ map_bind (map on) (map on) (with_parts says 2 [] (but_last rs)) _ _ (λ parts. refl)

unless_parts : (on : Part → ImportRow) (text : List ℕ) (layout : ℕ × Columns) (parts : List Part)
    → unless_other text layout (map on parts) ≡ map_ok (map on) (parts_unless text layout parts)
unless_parts on text layout [] =
    bind_map (map on) (at 2 (must Csv (not (has_other_separator text layout.0 layout.1.width)))) _ _ (λ _. refl)
unless_parts on text layout (part ∷ parts) = refl

-- the columns that a header names ask no books
abbrev AskNoneIn : Option (ℕ × Columns) → Type 0
AskNoneIn None = Unit {0}
AskNoneIn (Some layout) = AskNone layout.1

abbrev AskNoneAt : Option Columns → Type 0
AskNoneAt None = Unit {0}
AskNoneAt (Some columns) = AskNone columns

columns_ask : (kind : ImportKind) (header : Fields) (texts : Bool) (places : Option (List (Option ℕ)))
    → are_texts header ≡ texts → places_of (names_of kind) header ≡ places → AskNoneAt (columns_of kind header)
columns_ask kind header false places t p = rw t tt
columns_ask kind header true None t p = rw (t, p) tt
columns_ask kind header true (Some places) t p = rw (t, p) refl

first_asks : (kind : ImportKind) (rs : List Fields) → AskNoneAt (first_columns kind rs)
first_asks kind [] = tt
first_asks kind (r ∷ rs) = columns_ask kind r (are_texts r) (places_of (names_of kind) r) refl refl

layout_step : (kind : ImportKind) (text : List ℕ) (s : ℕ) (ss : List ℕ) (found : Option Columns)
    → first_columns kind (records (config_by s) text) ≡ found → AskNoneAt found → AskNoneIn (layout_by kind text ss)
    → AskNoneIn (layout_by kind text (s ∷ ss))
layout_step kind text s ss None e none others = rw e others
layout_step kind text s ss (Some columns) e none others = rw e none

layout_asks : (kind : ImportKind) (text ss : List ℕ) → AskNoneIn (layout_by kind text ss)
layout_asks kind text [] = tt
layout_asks kind text (s ∷ ss) =
    let first = first_columns kind (records (config_by s) text) in
    layout_step kind text s ss first refl (first_asks kind (records (config_by s) text)) (layout_asks kind text ss)

layout_parts : (names : Option Naming) (kind : ImportKind) (document : List ℕ) (day : CivilDay) (text : List ℕ)
    (layout : Option (ℕ × Columns)) → AskNoneIn layout
    → rows_by names kind document day text layout
    ≡ map_ok (map (row_on kind document day)) (parts_by names kind text layout)
layout_parts names kind document day text None none = refl
layout_parts names kind document day text (Some layout) none =
    let on = row_on kind document day in
    let unclosed = ends_in_quotes (config_by layout.0) text in
    let rs = records_under layout.0 text in
    let says = part_loosely names kind layout.1 in
    ap (λ v. v >>= unless_other text layout)
    (under_parts on (loosely names kind document day layout.1) says
    (λ fields. loosely_parts names kind document day layout.1 fields none) unclosed rs)
    ∙ map_bind (map on) (map on) (parts_under unclosed says rs) (parts_unless text layout) (unless_other text layout)
    (unless_parts on text layout)

abbrev parts_of_text : Bool → Option Naming → ImportKind → List ℕ → Result (List Part) WireFault
parts_of_text false names kind text = parts_in names kind (records default_config text)
parts_of_text true names kind text = parts_by names kind text (layout_by kind text separators)

text_parts : (loose : Bool) (names : Option Naming) (kind : ImportKind) (document : List ℕ) (day : CivilDay)
    (text : List ℕ)
    → rows_of_text loose names kind document day text
    ≡ map_ok (map (row_on kind document day)) (parts_of_text loose names kind text)
text_parts false names kind document day text = header_parts names kind document day (records default_config text)
text_parts true names kind document day text =
    layout_parts names kind document day text (layout_by kind text separators) (layout_asks kind text separators)

abbrev parts_of : Bool → Option Naming → ImportKind → List ℕ → Result (List Part) WireFault
parts_of loose names kind bytes = do
  fits ← at 0 (must TooLong (nat_le (length bytes) 16777216))
  parts_of_text loose names kind (strip_bom bytes)

import_parts : (loose : Bool) (names : Option Naming) (kind : ImportKind) (document : List ℕ) (day : CivilDay)
    (bytes : List ℕ)
    → import loose names kind document day bytes
    ≡ map_ok (map (row_on kind document day)) (parts_of loose names kind bytes)
import_parts loose names kind document day bytes =
    bind_map (map (row_on kind document day)) (at 0 (must TooLong (nat_le (length bytes) 16777216))) _ _
    (λ _. text_parts loose names kind document day (strip_bom bytes))

-- ---- rows that are run again

run_push : (s : State) (before : List Request) (r : Request)
    → (run s (before ++ r ∷ [])).0 ≡ (step (run s before).0 r).0
run_push s [] r = refl
run_push s (x ∷ xs) r = run_push (step s x).0 xs r

answer_first : (o : Outcome) (os : List Outcome) → are_answers (o ∷ os) ≡ true
    → (a : Answer) × (o ≡ Ok a) × (are_answers os ≡ true)
answer_first (Ok a) os h = (a, refl, h)
answer_first (Err x) os h = absurd (cc)

-- the outcomes of a later run of requests, of which the first changes nothing
run_same : (s : State) (r : Request) (rs : List Request) (a : Answer) (os : List Outcome) → step s r ≡ (s, Ok a)
    → run s rs ≡ (s, os) → run s (r ∷ rs) ≡ (s, Ok a ∷ os)
run_same s r rs a os same rest =
    (λ i. ((run (same i).0 rs).0, (same i).1 ∷ (run (same i).0 rs).1)) ∙ (λ i. ((rest i).0, Ok a ∷ (rest i).1))

module _ (law : LaterRepeatsChangeNothing) (kind : ImportKind) (document : List ℕ) (day later : CivilDay) (s : State)
    (between : List Request) where
  abbrev first : List Part → List ImportRow
  first ps = map (row_on kind document day) ps

  abbrev again : List Part → List ImportRow
  again ps = map (row_on kind document later) ps

  abbrev there : List Request → List Part → State
  there before ps = (run s (before ++ (requests_of (first ps) ++ between))).0

  rows_again : (before : List Request) (ps : List Part) → are_answers (rows_outcomes (run s before).0 (first ps)) ≡ true
      → run (there before ps) (requests_of (again ps)) ≡ (there before ps, rows_outcomes (run s before).0 (first ps))
  rows_again before [] h = refl
  rows_again before (p ∷ ps) h =
      let r = (row_on kind document day p).request in
      let now = (run s before).0 in
      let next = (step now r).0 in
      let head = answer_first (step now r).1 (rows_outcomes next (first ps)) h in
      let pushed = run_push s before r in
      let same =
      law s before (requests_of (first ps) ++ between) r (row_on kind document later p).request head.0 refl
      (record { key = refl; command = refl }) head.1 in
      let rest =
      rows_again (before ++ r ∷ []) ps (ap (λ v. are_answers (rows_outcomes v (first ps))) pushed ∙ head.2) in
      let place : there (before ++ r ∷ []) ps ≡ there before (p ∷ ps) =
      ap (λ v. (run s v).0) (append_assoc before (r ∷ []) (requests_of (first ps) ++ between)) in
      let on : run (there before (p ∷ ps)) (requests_of (again ps))
      ≡ (there before (p ∷ ps), rows_outcomes next (first ps)) =
      subst (λ v. run v (requests_of (again ps)) ≡ (v, rows_outcomes next (first ps))) place
      (rest ∙ ap (λ v. (there (before ++ r ∷ []) ps, rows_outcomes v (first ps))) pushed) in
      run_same (there before (p ∷ ps)) (row_on kind document later p).request (requests_of (again ps)) head.0
      (rows_outcomes next (first ps)) same on
      ∙ ap (λ v. (there before (p ∷ ps), v ∷ rows_outcomes next (first ps))) (sym head.1)

  numbers_again : (ps : List Part) → numbers_of (again ps) ≡ numbers_of (first ps)
  numbers_again [] = refl
  numbers_again (p ∷ ps) = ap (λ v. p.0 ∷ v) (numbers_again ps)

  told_again : (ps : List Part) → are_answers (rows_outcomes s (first ps)) ≡ true
      → rows_told (there [] ps) (again ps) ≡ (there [] ps, rows_out s (first ps), true)
  told_again ps h =
      (λ i. (
        (rows_again [] ps h i).0,
        import_text (numbers_again ps i) (rows_again [] ps h i).1,
        are_answers (rows_again [] ps h i).1,
      ))
      ∙ ap (λ v. (there [] ps, rows_out s (first ps), v)) h

  of_parts : (reading : Result (List Part) WireFault) (rows : List ImportRow) → map_ok first reading ≡ Ok rows
      → are_answers (rows_outcomes s rows) ≡ true
      → import_told (run s (requests_of rows ++ between)).0 (map_ok again reading)
      ≡ ((run s (requests_of rows ++ between)).0, rows_out s rows, true)
  of_parts (Ok ps) rows e h =
      let is : first ps ≡ rows = cc in
      subst (λ (v : List ImportRow). are_answers (rows_outcomes s v) ≡ true → rows_told
      (run s (requests_of v ++ between)).0 (again ps) ≡ ((run s (requests_of v ++ between)).0, rows_out s v, true))
      is (told_again ps) h
  of_parts (Err fault) rows e h = absurd (cc)

pub sent_again : LaterRepeatsChangeNothing → FilesSentAgainChangeNothing
sent_again law loose names s kind document day later bytes rows between is answered still =
    let then_ = (run s (requests_of rows ++ between)).0 in
    ap (λ v. import_told then_ v) (import_parts loose (naming names then_) kind document later bytes)
    ∙ of_parts law kind document day later s between (parts_of loose (naming names then_) kind bytes) rows
    (sym (import_parts loose (naming names then_) kind document day bytes) ∙ still) answered
