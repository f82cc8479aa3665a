-- An item that has no serial is told by its number and its part's name.
use Rattle.std.proofs.Common.{◌≡◌, ◌∙◌, ◌++◌, ℕ, List, None, Some, ap, sym}
use Rattle.std.specs.Prelude.{codes, decimal}
use Rattle.std.proofs.lemmas.List.{append-nil}
use Rattle.part_core.specs.Catalogue.{part_in}
use Rattle.forest.specs.declared.item.Item.{Item}
use Rattle.desk_core.specs.Machine.{State}
use Rattle.report_core.specs.Fields.{name_of}
use Rattle.list_core.specs.HistoryList.{item_words, serial_words}
use Rattle.list_core.specs.Trace.{item_in}

pub no_serial : (s : State) (n : ℕ) (x : Item) (text name : List ℕ) → item_in n s ≡ Some x → x.lot.serial ≡ None
    → name ≡ name_of (part_in x.part s.parts) → text ≡ decimal n ++ (codes " " ++ name)
    → text ≡ item_words s n (item_in n s)
no_serial s n x text name there none named wrote =
    let front = λ (rest : List ℕ). decimal n ++ (codes " " ++ rest) in
    wrote
    ∙ ap front (named ∙ sym (append-nil (name_of (part_in x.part s.parts))))
    ∙ ap (λ serial. front (name_of (part_in x.part s.parts) ++ serial_words serial)) (sym none)
    ∙ ap (item_words s n) (sym there)
