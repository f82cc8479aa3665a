use Rattle.std.proofs.Common.{◌≡◌, ℕ, List, sym, ap, ◌∙◌, true, false, Some, refl}
use Rattle.std.specs.Str.{is_utf8}
use Rattle.std.proofs.lemmas.Str.{IsUtf8-from_is_utf8, is_utf8-from_IsUtf8}
use Rattle.sqlite_trees.proofs.TreeLemmas.{not_true}
use Rattle.sheet_core.specs.declared.column.Column.{Column}
use Rattle.sheet_core.specs.declared.column.Column.TheVariants.{Text}
use Rattle.table_store.proofs.read.text_of.Goals as goal

pub returns-in_ok-text-in-Ok : goal.returns-in_ok-text-in-Ok
returns-in_ok-text-in-Ok c =
    let fits : is_utf8 c.args.text.now ≡ true = is_utf8-from_IsUtf8 c.args.text.now c.in-Ok.ensures.cases.1 in
    rw fits (sym (ap (λ (column : Column). Some column)
    (c.in_ok-text-in-Ok.ensures ∙ ap (λ (text : List ℕ). Text text) c.in-Ok.ensures.cases.0)))

pub returns-in-Err : goal.returns-in-Err
returns-in-Err c =
    let fails : is_utf8 c.args.text.now ≡ false =
    not_true (is_utf8 c.args.text.now) (λ e. c.in-Err.ensures.cases.0 (IsUtf8-from_is_utf8 c.args.text.now e)) in
    rw fails refl
