use Rattle.std.proofs.Common.{◌≡◌, drop}
use Rattle.sheet_core.specs.Sheet.{now_of}
use Rattle.bom_core.specs.Lines.{removed_all}
use Rattle.bom_core.proofs.boms.lines.remove_all.Given as goal

abbrev pub invariant-loop-number : goal.invariant-loop-number
invariant-loop-number l =
    record {
      removed :
          removed_all (drop l.number-index l.numbers) (now_of l.substitutes)
          ≡ removed_all l.numbers (now_of l.initial.substitutes);
      before : l.substitutes.before ≡ l.initial.substitutes.before;
    }
