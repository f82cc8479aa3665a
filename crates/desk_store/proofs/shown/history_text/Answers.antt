use Rattle.std.proofs.Common.{◌∙◌, ap, take, filter, nat_le}
use Rattle.std.specs.FinMap.{values}
use Rattle.sheet_core.specs.Sheet.{now_of}
use Rattle.sheet_core.proofs.SlotLemmas.{IfOk-map}
use Rattle.desk_store.specs.Shown.{entries_data, history_text, line_of_data}
use Rattle.desk_store.proofs.Showing.{line_written}
use Rattle.desk_store.proofs.shown.history_text.Goals as goal

pub returns : goal.returns
unfolding history_text
returns c =
    let same = line_written c.in_ok-out.out.tokens c.write_history.new.out.tokens
    (entries_data c.entries_from.result.now) c.in_ok-out.ensures.tokens c.in_ok-write_history.ensures.tokens in
    let kept = c.whole_history.ensures ∙ ap (λ yard. yard.history) c.yard.ensures in
    let told = c.entries_from.ensures
    ∙ ap (λ history. take 1000 (filter (λ e. nat_le c.args.from e.number) (values (now_of history)))) kept in
    IfOk-map c.line.result c.line.ensures
    (λ text e. e ∙ same ∙ ap (λ entries. line_of_data (entries_data entries)) told)
