use Rattle.std.proofs.Common.{ℕ, ◌∙◌, refl, sym, ap}
use Rattle.std.specs.Prelude.{option_map}
use Rattle.csv.specs.Reading.{strip_bom}
use Rattle.word_core.specs.Forms.{shown}
use Rattle.desk_wire.specs.Imports.{separators}
use Rattle.desk_wire.specs.Sheets.{SheetColumns, first_columns}
use Rattle.desk_wire.specs.SheetViews.{shown_columns, shown_layout, shown_sayings}
use Rattle.desk_wire.proofs.FirstLayouts.{not-none}
use Rattle.desk_wire.proofs.sheet.sheet_text.Goals as goal

pub returns-in-Err-Wrong : goal.returns-in-Err-Wrong
returns-in-Err-Wrong c =
    let form = shown c.args.sheet.now.form.now in
    let said = shown_sayings c.args.sheet.now.said.items in
    let text = strip_bom c.args.bytes.now in
    let (bad, rest, e, h, is) = rw c.in-Err-Wrong.field-0-is at c.in-Err-Wrong.ensures in
    let layout : ℕ × SheetColumns = (c.in-Some.separator, shown_columns c.in-Some.columns) in
    let read = rw c.deref.ensures.value at c.in_ok-separator.ensures in
    absurd
    (not-none (first_columns form said) text separators layout bad rest
    (sym read ∙ ap (option_map shown_layout) c.in-Some.is)
    (sym c.records_of-reader.ensures.left ∙ e) (rw h refl))
