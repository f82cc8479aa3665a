-- Items and entries are read back from their columns, and no other columns are read as them.
use Rattle.std.proofs.Common.{◌≡◌, ℕ, ◌+◌, Bool, true, false, List, [], ◌∷◌, Option, Some, None, refl, sym, ap, ◌∙◌}
use Rattle.std.specs.Prelude.{slice_get, ◌==◌, if◌then◌else◌}
use Rattle.std.proofs.lemmas.Bool.{eqb-true}
use Rattle.sheet_core.specs.Columns.{◌>>=◌, has, must, number_at}
use Rattle.forest.specs.WordColumns.{row_text_or_none_at, serial_or_none_at}
use Rattle.forest.specs.WordColumns.{status_at, day_at, day_as_written}
use Rattle.sheet_core.specs.Columns.{fitting_or_none, text_or_absent}
use Rattle.word_core.specs.Day.{CivilDay, day_text}
use Rattle.word_core.specs.Serial.{is_serial}
use Rattle.word_core.specs.Status.{status_code}
use Rattle.word_core.specs.Text.{is_text}
use Rattle.sheet_core.specs.declared.column.Column.{Column}
use Rattle.sheet_core.specs.declared.column.Column.TheVariants.{Whole}
use Rattle.sheet_core.proofs.ColumnLemmas.{bound, found, code-found, has-is, number_at-is}
use Rattle.forest.proofs.WordColumns.{row_text_or_none_at-is, serial_or_none_at-is, status_at-is}
use Rattle.forest.proofs.WordColumns.{day_at-is, status-read}
use Rattle.sheet_core.proofs.ColumnLemmas.{same_columns, absent_text-read}
use Rattle.forest.specs.Forest.{kind_code}
use Rattle.forest.specs.PlaceColumns.{all_kinds, all_reasons, gone_of, kind_at, kind_of, off_of}
use Rattle.forest.specs.PlaceColumns.{place_at, place_code, place_of, place_ref, reason_code, reason_of}
use Rattle.forest.specs.ItemColumns.{item_columns, item_from, lot_at}
use Rattle.forest.specs.EntryColumns.{entry_columns, entry_from, note_at}
use Rattle.forest.specs.declared.entry.Entry.{Entry}
use Rattle.forest.specs.declared.entry.Kind.{Kind}
use Rattle.forest.specs.declared.entry.Kind.TheVariants.{Received, Found, Built, Consumed, Shipped, Returned, Written}
use Rattle.forest.specs.declared.entry.Kind.TheVariants.{Moved, Cut as CutOff, Poured, Installed, TakenOut, Marked}
use Rattle.forest.specs.declared.entry.Note.{Note}
use Rattle.forest.specs.declared.item.Item.{Item}
use Rattle.forest.specs.declared.item.Lot.{Lot}
use Rattle.forest.specs.declared.place.Place.{Place}
use Rattle.forest.specs.declared.place.Place.TheVariants.{At, In, Output, Sent, Used, Off, Gone}
use Rattle.forest.specs.declared.place.Reason.{Reason}
use Rattle.forest.specs.declared.place.Reason.TheVariants.{Removed, Counted, Disassembled, Scrapped}

-- two numbers are those of the place
abbrev AreOf : ℕ → ℕ → Place → Type 0
AreOf code ref place = (code ≡ place_code place) × (ref ≡ place_ref place)

kept : (code ref : ℕ) (one place : Place) → AreOf code ref one → Some one ≡ Some place → AreOf code ref place
kept code ref one place are e = (are.0 ∙ sym (found place_code one place e), are.1 ∙ sym (found place_ref one place e))

off-is : (code ref : ℕ) (place : Place) → code ≡ 5 → off_of ref ≡ Some place → AreOf code ref place
off-is code ref place is e =
    let reason = bound (reason_of ref) _ place e in
    kept code ref (Off reason.0) place (is, code-found reason_code ref all_reasons reason.0 reason.1) reason.2

gone-is : (code ref : ℕ) (place : Place) → code ≡ 6 → gone_of ref ≡ Some place → AreOf code ref place
gone-is code ref place is = told (ref == 0) refl
  where
    told : (b : Bool) → (ref == 0) ≡ b → (must b >>= λ _. Some Gone) ≡ Some place → AreOf code ref place
    told true zero e = kept code ref Gone place (is, eqb-true ref 0 zero) e
    told false zero e = cc

-- one more of the numbers of places
one_more : (code ref n : ℕ) (here : Option Place) (others : Option Place) (place : Place)
    → (code ≡ n → here ≡ Some place → AreOf code ref place) → (others ≡ Some place → AreOf code ref place)
    → (if code == n then here else others) ≡ Some place → AreOf code ref place
one_more code ref n here others place is rest = told (code == n) refl
  where
    told : (b : Bool) → (code == n) ≡ b → (if b then here else others) ≡ Some place → AreOf code ref place
    told true p e = is (eqb-true code n p) e
    told false p e = rest e

place-is : (code ref : ℕ) (place : Place) → place_of code ref ≡ Some place → AreOf code ref place
place-is code ref place =
    one_more code ref 0 (Some (At ref)) _ place (λ is e. kept code ref (At ref) place (is, refl) e)
    (one_more code ref 1 (Some (In ref)) _ place (λ is e. kept code ref (In ref) place (is, refl) e)
    (one_more code ref 2 (Some (Output ref)) _ place (λ is e. kept code ref (Output ref) place (is, refl) e)
    (one_more code ref 3 (Some (Sent ref)) _ place (λ is e. kept code ref (Sent ref) place (is, refl) e)
    (one_more code ref 4 (Some (Used ref)) _ place (λ is e. kept code ref (Used ref) place (is, refl) e)
    (one_more code ref 5 (off_of ref) _ place (off-is code ref place)
    (one_more code ref 6 (gone_of ref) None place (gone-is code ref place) (λ e. cc)))))))

place-read : (place : Place) → place_of (place_code place) (place_ref place) ≡ Some place
place-read (At n) = refl
place-read (In n) = refl
place-read (Output n) = refl
place-read (Sent n) = refl
place-read (Used n) = refl
place-read (Off r) = ap (λ o. o >>= λ reason. Some (Off reason)) (reason-read r)
  where
    reason-read : (r : Reason) → reason_of (reason_code r) ≡ Some r
    reason-read r = elim r as (λ r. reason_of (reason_code r) ≡ Some r) [
      | Removed ↦ refl
      | Counted ↦ refl
      | Disassembled ↦ refl
      | Scrapped ↦ refl
    ]
place-read Gone = refl

module _ (i : ℕ) (cs : List Column) where
  place_at-is : (place : Place) → place_at i cs ≡ Some place
      → (slice_get cs i ≡ Some (Whole (place_code place))) × (slice_get cs (i + 1) ≡ Some (Whole (place_ref place)))
  place_at-is place e =
      let code = bound (number_at i cs) _ place e in
      let ref = bound (number_at (i + 1) cs) _ place code.2 in
      let are = place-is code.0 ref.0 place ref.2 in (
        number_at-is i cs code.0 code.1 ∙ ap (λ (n : ℕ). Some (Whole n)) are.0,
        number_at-is (i + 1) cs ref.0 ref.1 ∙ ap (λ (n : ℕ). Some (Whole n)) are.1,
      )

  kind_at-is : (kind : Kind) → kind_at i cs ≡ Some kind → slice_get cs i ≡ Some (Whole (kind_code kind))
  kind_at-is kind e =
      let code = bound (number_at i cs) kind_of kind e in
      number_at-is i cs code.0 code.1
      ∙ ap (λ (n : ℕ). Some (Whole n)) (code-found kind_code code.0 all_kinds kind code.2)

-- what stands in the columns of a lot
lot_at-is : (cs : List Column) (lot : Lot) → lot_at cs ≡ Some lot
    → (slice_get cs 2 ≡ Some (text_or_absent lot.batch)) × (slice_get cs 3 ≡ Some (text_or_absent lot.serial))
    × (slice_get cs 4 ≡ Some (Whole (status_code lot.status)))
lot_at-is cs lot e =
    let batch = bound (row_text_or_none_at 2 cs) _ lot e in
    let serial = bound (serial_or_none_at 3 cs) _ lot batch.2 in
    let status = bound (status_at 4 cs) _ lot serial.2 in
    let one : Lot = record { batch = batch.0; serial = serial.0; status = status.0 } in (
      row_text_or_none_at-is 2 cs batch.0 batch.1
          ∙ sym (found (λ (l : Lot). Some (text_or_absent l.batch)) one lot status.2),
      serial_or_none_at-is 3 cs serial.0 serial.1
          ∙ sym (found (λ (l : Lot). Some (text_or_absent l.serial)) one lot status.2),
      status_at-is 4 cs status.0 status.1
          ∙ sym (found (λ (l : Lot). Some (Whole (status_code l.status))) one lot status.2),
    )

pub item_told : (cs : List Column) (number part : ℕ) (lot : Lot) (quantity : ℕ) (place : Place)
    → has 8 cs ≡ Some tt → number_at 0 cs ≡ Some number → number_at 1 cs ≡ Some part → lot_at cs ≡ Some lot
    → number_at 5 cs ≡ Some quantity → place_at 6 cs ≡ Some place
    → item_columns (record { number = number; part = part; lot = lot; quantity = quantity; place = place }) ≡ cs
item_told cs number part lot quantity place all c0 c1 c2 c5 c6 =
    let one : Item = record { number = number; part = part; lot = lot; quantity = quantity; place = place } in
    let lot_is = lot_at-is cs lot c2 in
    let place_is = place_at-is 6 cs place c6 in
    same_columns cs (item_columns one) (has-is 8 cs tt all) (
      number_at-is 0 cs number c0,
      (
        number_at-is 1 cs part c1,
        (
          lot_is.0,
          (
            lot_is.1,
            (
              lot_is.2,
              (number_at-is 5 cs quantity c5, (place_is.0, (place_is.1, tt))),
            ),
          ),
        ),
      ),
    )

pub item_read : (row : Item) → fitting_or_none is_text row.lot.batch ≡ Some row.lot.batch
    → fitting_or_none is_serial row.lot.serial ≡ Some row.lot.serial → item_from (item_columns row) ≡ Some row
item_read row batch serial =
    rw (
      absent_text-read row.lot.batch,
      absent_text-read row.lot.serial,
      batch,
      serial,
      status-read row.lot.status,
      place-read row.place,
    ) refl

-- ---- entries

kind-read : (k : Kind) → kind_of (kind_code k) ≡ Some k
kind-read k =
    elim k as (λ k. kind_of (kind_code k) ≡ Some k) [
      | Received ↦ refl
      | Found ↦ refl
      | Built ↦ refl
      | Consumed ↦ refl
      | Shipped ↦ refl
      | Returned ↦ refl
      | Written ↦ refl
      | Moved ↦ refl
      | CutOff ↦ refl
      | Poured ↦ refl
      | Installed ↦ refl
      | TakenOut ↦ refl
      | Marked ↦ refl
    ]

-- what stands in the columns of a note
record NoteStands (cs : List Column) (note : Note) : Type 0 where
  pub kind : slice_get cs 2 ≡ Some (Whole (kind_code note.kind))
  pub item : slice_get cs 3 ≡ Some (Whole note.item)
  pub part : slice_get cs 4 ≡ Some (Whole note.part)
  pub quantity : slice_get cs 5 ≡ Some (Whole note.quantity)
  pub place : slice_get cs 6 ≡ Some (Whole (place_code note.place))
  pub ref : slice_get cs 7 ≡ Some (Whole (place_ref note.place))

note_at-is : (cs : List Column) (note : Note) → note_at cs ≡ Some note → NoteStands cs note
note_at-is cs note e =
    let kind = bound (kind_at 2 cs) _ note e in
    let item = bound (number_at 3 cs) _ note kind.2 in
    let part = bound (number_at 4 cs) _ note item.2 in
    let quantity = bound (number_at 5 cs) _ note part.2 in
    let place = bound (place_at 6 cs) _ note quantity.2 in
    let stands = place_at-is 6 cs place.0 place.1 in
    told kind.0 item.0 part.0 quantity.0 place.0 (kind_at-is 2 cs kind.0 kind.1) (number_at-is 3 cs item.0 item.1)
    (number_at-is 4 cs part.0 part.1) (number_at-is 5 cs quantity.0 quantity.1) stands.0 stands.1 place.2
  where
    told : (kind : Kind) (item part quantity : ℕ) (place : Place)
        → slice_get cs 2 ≡ Some (Whole (kind_code kind)) → slice_get cs 3 ≡ Some (Whole item)
        → slice_get cs 4 ≡ Some (Whole part)
        → slice_get cs 5 ≡ Some (Whole quantity) → slice_get cs 6 ≡ Some (Whole (place_code place))
        → slice_get cs 7 ≡ Some (Whole (place_ref place))
        → Some (record { kind = kind; item = item; part = part; quantity = quantity; place = place }) ≡ Some note
        → NoteStands cs note
    told kind item part quantity place c2 c3 c4 c5 c6 c7 e =
        let one : Note = record { kind = kind; item = item; part = part; quantity = quantity; place = place } in
        record {
          kind = c2 ∙ sym (found (λ (n : Note). Some (Whole (kind_code n.kind))) one note e);
          item = c3 ∙ sym (found (λ (n : Note). Some (Whole n.item)) one note e);
          part = c4 ∙ sym (found (λ (n : Note). Some (Whole n.part)) one note e);
          quantity = c5 ∙ sym (found (λ (n : Note). Some (Whole n.quantity)) one note e);
          place = c6 ∙ sym (found (λ (n : Note). Some (Whole (place_code n.place))) one note e);
          ref = c7 ∙ sym (found (λ (n : Note). Some (Whole (place_ref n.place))) one note e);
        }

pub entry_told : (cs : List Column) (number : ℕ) (day : CivilDay) (note : Note)
    → has 8 cs ≡ Some tt → number_at 0 cs ≡ Some number → day_at 1 cs ≡ Some day → note_at cs ≡ Some note
    → entry_columns (record { number = number; day = day; note = note }) ≡ cs
entry_told cs number day note all c0 c1 c2 =
    let one : Entry = record { number = number; day = day; note = note } in
    let n = note_at-is cs note c2 in
    same_columns cs (entry_columns one) (has-is 8 cs tt all) (
      number_at-is 0 cs number c0,
      (day_at-is 1 cs day c1, (n.kind, (n.item, (n.part, (n.quantity, (n.place, (n.ref, tt))))))),
    )

pub entry_read : (row : Entry) → day_as_written (day_text row.day) ≡ Some row.day
    → entry_from (entry_columns row) ≡ Some row
entry_read row read =
    rw (read, kind-read row.note.kind, place-read row.note.place) refl
