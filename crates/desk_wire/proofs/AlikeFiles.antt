-- Names change how a file is read only where a value is of a wrong type.
use Rattle.std.proofs.Common.{◌≡◌, inl, inr, ℕ, ◌+◌, ◌==◌, Bool, true, false, List, [], ◌∷◌, ◌++◌, length}
use Rattle.std.proofs.Common.{refl, ap, sym, subst}
use Rattle.std.specs.Prelude.{Option, Some, None, Result, Ok, Err, codes, nat_le}
use Rattle.std.specs.Str.{bytes_eq}
use Rattle.std.specs.Cmp.Lexicographic.{pointwise}
use Rattle.csv.specs.Reading.{default_config, records, strip_bom}
use Rattle.word_core.specs.Day.{CivilDay}
use Rattle.word_core.specs.declared.field.RowKind.{RowKind}
use Rattle.word_core.specs.declared.field.RowKind.TheVariants as table
use Rattle.stock_core.specs.declared.stock_command.StockCommand.TheVariants.{Count}
use Rattle.order_core.specs.declared.order_command.OrderCommand.TheVariants.{Receive}
use Rattle.desk_core.specs.Naming.{Naming}
use Rattle.desk_core.specs.declared.command.Command.{Command}
use Rattle.desk_core.specs.declared.command.Command.TheVariants.{Order, Stock}
use Rattle.desk_wire.specs.declared.fault.What.{What}
use Rattle.desk_wire.specs.declared.fault.What.TheVariants.{TooLong, Csv, Header, WrongType}
use Rattle.desk_wire.specs.declared.fault.WireFault.{WireFault}
use Rattle.desk_wire.specs.declared.kind.ImportKind.{ImportKind}
use Rattle.desk_wire.specs.declared.kind.ImportKind.TheVariants.{Receipts, Counts}
use Rattle.desk_wire.specs.declared.row.ImportRow.{ImportRow}
use Rattle.desk_wire.specs.Steps.{◌>>=◌, at, must, or_fault}
use Rattle.desk_wire.specs.Numbers.{number_in, row_number_in}
use Rattle.desk_wire.specs.Reading.{AreAlike}
use Rattle.desk_wire.specs.Quotes.{but_last, ends_in_quotes}
use Rattle.desk_wire.specs.Records.{Fields, are_texts, config_by}
use Rattle.desk_wire.specs.RowWords.{number_of, row_at_word}
use Rattle.desk_wire.specs.Imports.{AreAlikeFiles, Columns, NamesChangeFilesLittle, Reads, arranged, batch_of, command_of}
use Rattle.desk_wire.specs.Imports.{field, key_of, layout_by, loosely, names_of, quantity_at, row_list, row_of, rows_by}
use Rattle.desk_wire.specs.Imports.{records_under, rows_under, unless_changed, unless_other}
use Rattle.desk_wire.specs.Imports.{rows_in, rows_of_text, separators, serials_of, strictly, with_rows}
use Rattle.desk_wire.proofs.Alike.{both, later, same}

-- ---- one row

word_alike : (names : Naming) (table : RowKind) (field word : List ℕ)
    → AreAlike (row_at_word None table field word) (row_at_word (Some names) table field word)
word_alike names table field word = go (number_in word) refl
  where
    go : (o : Option ℕ) → number_in word ≡ o
        → AreAlike (row_at_word None table field word) (row_at_word (Some names) table field word)
    go None e = inl (rw e refl)
    go (Some n) e = inr (rw e refl)

abbrev received : Fields → ℕ → ℕ → Result Command What
received fields line location = do
  quantity ← number_of (field 3 fields)
  batch ← batch_of (field 4 fields)
  serials ← serials_of (field 5 fields)
  Ok (Order (Receive line location (record { quantity = quantity; batch = batch; serials = serials })))

abbrev counted : Fields → ℕ → Result Command What
counted fields item = do
  quantity ← number_of (field 2 fields)
  Ok (Stock (Count item quantity))

command_alike : (names : Naming) (kind : ImportKind) (fields : Fields)
    → AreAlike (command_of None kind fields) (command_of (Some names) kind fields)
command_alike names Receipts fields =
    both (row_at_word None table.OrderLine (codes "line") (field 1 fields))
    (row_at_word (Some names) table.OrderLine (codes "line") (field 1 fields))
    (λ line. row_at_word None table.Location (codes "location") (field 2 fields) >>= received fields line)
    (λ line. row_at_word (Some names) table.Location (codes "location") (field 2 fields) >>= received fields line)
    (word_alike names table.OrderLine (codes "line") (field 1 fields))
    (λ line. both (row_at_word None table.Location (codes "location") (field 2 fields))
    (row_at_word (Some names) table.Location (codes "location") (field 2 fields)) (received fields line)
    (received fields line) (word_alike names table.Location (codes "location") (field 2 fields))
    (λ location. same (received fields line location)))
command_alike names Counts fields =
    both (row_at_word None table.Item (codes "item") (field 1 fields))
    (row_at_word (Some names) table.Item (codes "item") (field 1 fields)) (counted fields) (counted fields)
    (word_alike names table.Item (codes "item") (field 1 fields)) (λ item. same (counted fields item))

abbrev keyed : ImportKind → List ℕ → CivilDay → ℕ → Command → Result ImportRow What
keyed kind document day number command =
    Ok (record {
      number = number;
      request = record { key = Some (key_of kind document number); day = day; command = command };
    })

row_alike : (names : Naming) (kind : ImportKind) (document : List ℕ) (day : CivilDay) (fields : Fields)
    → AreAlike (row_of None kind document day fields) (row_of (Some names) kind document day fields)
unfolding row_of
row_alike names kind document day fields =
    later (must Csv (length fields == length (names_of kind))) _ _
    (λ whole. later (must Csv (are_texts fields)) _ _
    (λ texts. later (or_fault WrongType (row_number_in (field 0 fields))) _ _
    (λ number. both (command_of None kind fields) (command_of (Some names) kind fields) (keyed kind document day number)
    (keyed kind document day number) (command_alike names kind fields)
    (λ command. same (keyed kind document day number command)))))

-- ---- all rows

at_alike : {A : Type 0} (number : ℕ) (off on : Result A What) → AreAlike off on
    → AreAlikeFiles (at number off) (at number on)
at_alike number off on (inl wrong) = inl (number, ap (at number) wrong)
at_alike number off on (inr e) = inr (ap (at number) e)

later_row : {A B : Type 0} (r : Result A WireFault) (f g : A → Result B WireFault)
    → ((x : A) → AreAlikeFiles (f x) (g x)) → AreAlikeFiles (r >>= f) (r >>= g)
later_row (Ok x) f g h = h x
later_row (Err fault) f g h = inr refl

both_rows : {A B : Type 0} (off on : Result A WireFault) (f g : A → Result B WireFault) → AreAlikeFiles off on
    → ((x : A) → AreAlikeFiles (f x) (g x)) → AreAlikeFiles (off >>= f) (on >>= g)
both_rows off on f g (inl wrong) h = inl (wrong.0, ap (λ r. r >>= f) wrong.1)
both_rows off on f g (inr e) h = subst (λ r. AreAlikeFiles (off >>= f) (r >>= g)) (sym e) (later_row off f g h)

abbrev AreAlikeReads : Reads → Reads → Type 0
AreAlikeReads off on = (fields : Fields) → AreAlike (off fields) (on fields)

with_rows_alike : (off on : Reads) → AreAlikeReads off on → (number : ℕ) (rows : List ImportRow) (rs : List Fields)
    → AreAlikeFiles (with_rows off number rows rs) (with_rows on number rows rs)
with_rows_alike off on alike number rows [] = inr refl
with_rows_alike off on alike number rows (r ∷ rs) =
    both_rows (at number (off r)) (at number (on r)) (λ row. with_rows off (number + 1) (rows ++ row_list row) rs)
    (λ row. with_rows on (number + 1) (rows ++ row_list row) rs) (at_alike number (off r) (on r) (alike r))
    (λ row. with_rows_alike off on alike (number + 1) (rows ++ row_list row) rs)

strictly_alike : (names : Naming) (kind : ImportKind) (document : List ℕ) (day : CivilDay)
    → AreAlikeReads (strictly None kind document day) (strictly (Some names) kind document day)
strictly_alike names kind document day fields =
    both (row_of None kind document day fields) (row_of (Some names) kind document day fields) (λ row. Ok (Some row))
    (λ row. Ok (Some row)) (row_alike names kind document day fields) (λ row. inr refl)

-- readings that are alike are so with what the books are asked
asked_alike : (columns : Columns) (fields : Fields) (off on : Result (Option ImportRow) What) → AreAlike off on
    → AreAlike (unless_changed columns fields off) (unless_changed columns fields on)
asked_alike columns fields off on (inl e) = inl (ap (unless_changed columns fields) e)
asked_alike columns fields off on (inr e) = inr (ap (unless_changed columns fields) e)

loosely_alike : (names : Naming) (kind : ImportKind) (document : List ℕ) (day : CivilDay) (columns : Columns)
    → AreAlikeReads (loosely None kind document day columns) (loosely (Some names) kind document day columns)
unfolding loosely
loosely_alike names kind document day columns fields = go (field (quantity_at kind) (arranged columns fields)) refl
  where
    go : (quantity : List ℕ) → field (quantity_at kind) (arranged columns fields) ≡ quantity
        → AreAlike (loosely None kind document day columns fields) (loosely (Some names) kind document day columns fields)
    go [] e = inr (rw e refl)
    go (b ∷ bs) e =
        rw e (later (must Csv (are_texts fields)) _ _
        (λ texts. later (must Csv (nat_le (length fields) columns.width)) _ _
        (λ fits. asked_alike columns fields (strictly None kind document day (arranged columns fields))
        (strictly (Some names) kind document day (arranged columns fields))
        (strictly_alike names kind document day (arranged columns fields)))))

rows_alike : (names : Naming) (kind : ImportKind) (document : List ℕ) (day : CivilDay) (rs : List Fields)
    → AreAlikeFiles (rows_in None kind document day rs) (rows_in (Some names) kind document day rs)
rows_alike names kind document day [] = inr refl
rows_alike names kind document day (r ∷ rs) =
    later_row (at 1 (must Header (pointwise bytes_eq (names_of kind) r)))
    (λ header. with_rows (strictly None kind document day) 2 [] rs)
    (λ header. with_rows (strictly (Some names) kind document day) 2 [] rs)
    (λ header. with_rows_alike (strictly None kind document day) (strictly (Some names) kind document day)
    (strictly_alike names kind document day) 2 [] rs)

rows_under_alike : (unclosed : Bool) (off on : Reads) → AreAlikeReads off on → (rs : List Fields)
    → AreAlikeFiles (rows_under unclosed off rs) (rows_under unclosed on rs)
rows_under_alike false off on alike rs = with_rows_alike off on alike 2 [] rs
rows_under_alike true off on alike rs =
    both_rows (with_rows off 2 [] (but_last rs)) (with_rows on 2 [] (but_last rs)) _ _
    (with_rows_alike off on alike 2 [] (but_last rs)) (λ rows. inr refl)

rows_by_alike : (names : Naming) (kind : ImportKind) (document : List ℕ) (day : CivilDay) (text : List ℕ)
    (layout : Option (ℕ × Columns))
    → AreAlikeFiles (rows_by None kind document day text layout) (rows_by (Some names) kind document day text layout)
rows_by_alike names kind document day text None = inr refl
rows_by_alike names kind document day text (Some layout) =
    let unclosed = ends_in_quotes (config_by layout.0) text in
    let off = loosely None kind document day layout.1 in
    let on = loosely (Some names) kind document day layout.1 in
    let rs = records_under layout.0 text in
    both_rows (rows_under unclosed off rs) (rows_under unclosed on rs) (unless_other text layout) (unless_other text layout)
    (rows_under_alike unclosed off on (loosely_alike names kind document day layout.1) rs) (λ rows. inr refl)

text_alike : (loose : Bool) (names : Naming) (kind : ImportKind) (document : List ℕ) (day : CivilDay) (text : List ℕ)
    → AreAlikeFiles (rows_of_text loose None kind document day text)
    (rows_of_text loose (Some names) kind document day text)
text_alike false names kind document day text = rows_alike names kind document day (records default_config text)
text_alike true names kind document day text =
    rows_by_alike names kind document day text (layout_by kind text separators)

pub names_change_files_little : NamesChangeFilesLittle
names_change_files_little loose names kind document day bytes =
    later_row (at 0 (must TooLong (nat_le (length bytes) 16777216)))
    (λ fits. rows_of_text loose None kind document day (strip_bom bytes))
    (λ fits. rows_of_text loose (Some names) kind document day (strip_bom bytes))
    (λ fits. text_alike loose names kind document day (strip_bom bytes))
