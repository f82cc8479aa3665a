-- What is read from columns of batches, serials, statuses and days stands in them, and what is written is read.
use Rattle.std.proofs.Common.{◌≡◌, ℕ, Bool, true, false, List, Option, Some, refl, sym, ap, ◌∙◌}
use Rattle.std.specs.Prelude.{slice_get}
use Rattle.std.specs.Str.{bytes_eq}
use Rattle.std.proofs.lemmas.Slice.Eq.{bytes_eq-Decides}
use Rattle.sheet_core.specs.declared.column.Column.{Column}
use Rattle.sheet_core.specs.declared.column.Column.TheVariants.{Whole, Text}
use Rattle.sheet_core.specs.Columns.{must, fitting_or_none, number_at, text_at, text_or_none_at, text_or_absent}
use Rattle.forest.specs.WordColumns.{day_as_written, day_at, row_text_or_none_at}
use Rattle.forest.specs.WordColumns.{serial_or_none_at, status_at}
use Rattle.word_core.specs.Day.{CivilDay, day_of, day_text}
use Rattle.word_core.specs.Serial.{is_serial}
use Rattle.word_core.specs.Status.{status_of, status_code, all_statuses}
use Rattle.word_core.specs.Text.{is_text}
use Rattle.word_core.specs.declared.status.Status.{Status}
use Rattle.word_core.specs.declared.status.Status.TheVariants.{Okay, Attention, Damaged, Destroyed}
use Rattle.word_core.specs.declared.status.Status.TheVariants.{Rejected, Lost, Quarantined, Returned}
use Rattle.sheet_core.proofs.ColumnLemmas.{bound, code-found, fitting_or_none-is, found}
use Rattle.sheet_core.proofs.ColumnLemmas.{number_at-is, text_at-is, text_or_none_at-is}

module _ (i : ℕ) (cs : List Column) where
  pub row_text_or_none_at-is : (v : Option (List ℕ)) → row_text_or_none_at i cs ≡ Some v
      → slice_get cs i ≡ Some (text_or_absent v)
  row_text_or_none_at-is v e =
      let b = bound (text_or_none_at i cs) (fitting_or_none is_text) v e in
      text_or_none_at-is i cs b.0 b.1
      ∙ ap (λ (k : Option (List ℕ)). Some (text_or_absent k)) (fitting_or_none-is is_text b.0 v b.2)

  pub serial_or_none_at-is : (v : Option (List ℕ)) → serial_or_none_at i cs ≡ Some v
      → slice_get cs i ≡ Some (text_or_absent v)
  serial_or_none_at-is v e =
      let b = bound (text_or_none_at i cs) (fitting_or_none is_serial) v e in
      text_or_none_at-is i cs b.0 b.1
      ∙ ap (λ (k : Option (List ℕ)). Some (text_or_absent k)) (fitting_or_none-is is_serial b.0 v b.2)

  pub status_at-is : (s : Status) → status_at i cs ≡ Some s → slice_get cs i ≡ Some (Whole (status_code s))
  status_at-is s e =
      let b = bound (number_at i cs) status_of s e in
      number_at-is i cs b.0 b.1 ∙ ap (λ (k : ℕ). Some (Whole k)) (code-found status_code b.0 all_statuses s b.2)

  pub day_at-is : (d : CivilDay) → day_at i cs ≡ Some d → slice_get cs i ≡ Some (Text (day_text d))
  day_at-is d e =
      let text = bound (text_at i cs) day_as_written d e in
      let day = bound (day_of text.0) _ d text.2 in
      let same = bound (must (bytes_eq (day_text day.0) text.0)) _ d day.2 in
      text_at-is i cs text.0 text.1 ∙ ap (λ (k : List ℕ). Some (Text k))
      (sym (written day.0 text.0 same.0 same.1) ∙ sym (found day_text day.0 d same.2))
    where
      written : (day : CivilDay) (text : List ℕ) (u : Unit {0}) → must (bytes_eq (day_text day) text) ≡ Some u
          → day_text day ≡ text
      written day text u = held (bytes_eq (day_text day) text) refl
        where
          held : (b : Bool) → bytes_eq (day_text day) text ≡ b → must b ≡ Some u → day_text day ≡ text
          held true p e = (bytes_eq-Decides (day_text day) text).0 p
          held false p e = cc

pub status-read : (s : Status) → status_of (status_code s) ≡ Some s
status-read s =
    elim s as (λ s. status_of (status_code s) ≡ Some s) [
      | Okay ↦ refl
      | Attention ↦ refl
      | Damaged ↦ refl
      | Destroyed ↦ refl
      | Rejected ↦ refl
      | Lost ↦ refl
      | Quarantined ↦ refl
      | Returned ↦ refl
    ]

-- a day that is read from its text is written so
pub day_written : (d : CivilDay) → day_of (day_text d) ≡ Some d → day_as_written (day_text d) ≡ Some d
day_written d read = rw (read, (bytes_eq-Decides (day_text d) (day_text d)).1 refl) refl
