use Rattle.std.proofs.Common.{◌≡◌, ◌++◌, drop, map}
use Rattle.desk_core.specs.ShopView.{state_of}
use Rattle.report_core.specs.Lines.{fields_of}
use Rattle.list_core.specs.SerialWords.{called}
use Rattle.list_core.proofs.serial_words.all_called.Given as goal

-- the texts so far and those of what is left are all texts
abbrev pub invariant-loop-item : goal.invariant-loop-item
invariant-loop-item l = let s = state_of l.shop in
    fields_of l.texts ++ map (called s) (map (λ i. i.now) (drop l.item-index l.items))
    ≡ map (called s) (map (λ i. i.now) l.items)
