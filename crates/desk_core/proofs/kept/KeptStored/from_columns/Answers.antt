use Rattle.std.proofs.Common.{Some, sym, ap, ◌∙◌}
use Rattle.desk_core.proofs.KeptRows.{kept_told}
use Rattle.desk_core.proofs.kept.KeptStored.from_columns.Goals as goal

pub returns-clause-told : goal.returns-clause-told
returns-clause-told c =
    kept_told c.args.columns.now _ _ _ c.in_ok-has.ensures c.in_ok-word.ensures
    (c.in_ok-text.ensures ∙ ap Some (sym (c.new.ensures ∙ c.in_ok-command.ensures.ok))) c.in_ok-answer.ensures
