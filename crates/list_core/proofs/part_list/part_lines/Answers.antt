use Rattle.std.proofs.Common.{◌≡◌, ◌++◌, ◌∙◌, ap}
use Rattle.std.proofs.lemmas.List.{append_assoc}
use Rattle.report_core.specs.Lines.{Lines}
use Rattle.list_core.proofs.part_list.part_lines.Goals as goal

-- three lists behind one
all_behind : (head bill users pieces first one two three : Lines) → first ≡ head → one ≡ first ++ bill
    → two ≡ one ++ users → three ≡ two ++ pieces → three ≡ head ++ (bill ++ (users ++ pieces))
all_behind head bill users pieces first one two three a b c d =
    d ∙ ap (λ l. l ++ pieces) (c ∙ ap (λ l. l ++ users) (b ∙ ap (λ l. l ++ bill) a))
    ∙ append_assoc (head ++ bill) users pieces ∙ append_assoc head bill (users ++ pieces)

pub returns : goal.returns
returns c =
    all_behind _ _ _ _ _ _ _ _ c.in_ok-lines.ensures c.in_ok-push_bill.ensures c.in_ok-push_users.ensures
    c.in_ok-push_pieces.ensures
