-- What is read from a column of a text stands in it.
use Rattle.std.proofs.Common.{◌≡◌, ℕ, List, Some, ap, ◌∙◌}
use Rattle.std.specs.Prelude.{slice_get}
use Rattle.sheet_core.specs.declared.column.Column.{Column}
use Rattle.sheet_core.specs.declared.column.Column.TheVariants.{Text}
use Rattle.sheet_core.specs.Columns.{fitting, text_at}
use Rattle.word_core.specs.Text.{is_text}
use Rattle.sheet_core.proofs.ColumnLemmas.{bound, fitting-is, text_at-is}
use Rattle.part_core.specs.TextColumns.{row_text_at}

module _ (i : ℕ) (cs : List Column) where
  pub row_text_at-is : (t : List ℕ) → row_text_at i cs ≡ Some t → slice_get cs i ≡ Some (Text t)
  row_text_at-is t e =
      let b = bound (text_at i cs) (fitting is_text) t e in
      text_at-is i cs b.0 b.1 ∙ ap (λ (k : List ℕ). Some (Text k)) (fitting-is is_text b.0 t b.2)
