use Rattle.std.proofs.Common.{sym, subst, ap, ◌∙◌}
use Rattle.std.proofs.lemmas.Str.{is_utf8-from_IsUtf8}
use Rattle.sheet_core.specs.declared.column.Column.TheVariants.{Text}
use Rattle.table_store.proofs.Columns.{IsKept, text_kept}
use Rattle.table_store.proofs.write.value_of.Goals as goal

pub returns-in-Text-clause-read : goal.returns-in-Text-clause-read
returns-in-Text-clause-read c =
    subst IsKept (ap Text c.as_str.ensures ∙ sym c.in-Text.is)
    (text_kept c.as_str.result.now (is_utf8-from_IsUtf8 c.as_str.result.now c.as_str.utf8))
